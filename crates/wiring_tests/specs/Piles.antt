-- Two messages put into a delivery for one.
use Rattle.std.specs.Prelude.{◌≡◌, ℕ, ◌<◌, false, Ok, Err, Option, Result, ◌==◌}
use Rattle.delivery.specs.declared.parcel.Parcel.{Parcel}
use Rattle.delivery.specs.declared.refusal.Accepted.{Accepted}
use Rattle.delivery.specs.declared.refusal.PutRefusal.{PutRefusal}
use Rattle.delivery.specs.declared.refusal.PutRefusal.TheVariants.{Far, Double, Full}
use Rattle.delivery.specs.Answers.{Named}
use Rattle.delivery.specs.Waiting.{message_limit}

-- parcels of two messages that a delivery carries
abbrev pub Apart : Parcel → Parcel → Type 0
Apart p q = (p.message.0 < message_limit) × (q.message.0 < message_limit) × ((p.message.0 == q.message.0) ≡ false)

abbrev pub SecondIsFull : Option ℕ → Result Accepted PutRefusal → Type 0
SecondIsFull layer (Ok a) = ⊥
SecondIsFull layer (Err (Far l)) = ⊥
SecondIsFull layer (Err (Double l)) = ⊥
SecondIsFull layer (Err (Full l)) = Named layer l
