-- What making a layer answers: the layer with just what was asked for, or a refusal that gives the delivery back.
use Rattle.std.specs.Prelude.{◌≡◌, ℕ, ◌<◌, ◌≤◌, ◌⊎◌, Ok, Err, Result}
use Rattle.delivery.specs.Waiting.{message_limit}
use Rattle.layers.specs.declared.bound.Bound.{Bound}
use Rattle.layers.specs.declared.group.Group.{Group}
use Rattle.layers.specs.declared.relay.Relay.{Relay}
use Rattle.layers.specs.declared.unbuilt.Unbuilt.{Unbuilt}
use Rattle.layers.specs.declared.unbuilt.Unbuilt.TheVariants.{BoundNumber, RelayNumber}

abbrev pub BoundMade : {D : Type 0} → D → ℕ → Result (Bound D) (Unbuilt D) → Type 0
BoundMade below n (Ok b) = (1 ≤ n) × (n ≤ message_limit) × (b.below ≡ below) × (b.limit ≡ n)
BoundMade below n (Err e) = ((n < 1) ⊎ (message_limit < n)) × (e ≡ BoundNumber n below)

abbrev pub RelayMade : {D : Type 0} → D → Group → ℕ → Result (Relay D) (Unbuilt D) → Type 0
RelayMade below group n (Ok r) = (16 ≤ n) × (n ≤ 31) × (r.below ≡ below) × (r.group ≡ group) × (r.station.number ≡ n)
RelayMade below group n (Err e) = ((n < 16) ⊎ (31 < n)) × (e ≡ RelayNumber n below)
