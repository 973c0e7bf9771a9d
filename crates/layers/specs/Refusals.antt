-- The number of each refusal to make a layer.
use Rattle.std.specs.Prelude.{ℕ}
use Rattle.layers.specs.declared.unbuilt.Unbuilt.{Unbuilt}
use Rattle.layers.specs.declared.unbuilt.Unbuilt.TheVariants.{BoundNumber, RelayNumber}

abbrev pub refusal_number : {D : Type 0} → Unbuilt D → ℕ
refusal_number (BoundNumber number below) = 11
refusal_number (RelayNumber number below) = 12
