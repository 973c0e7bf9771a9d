-- What a delivery answers to a put and a take, and what then waits. In each, w waits before the call and w' after it.
use Rattle.std.specs.Prelude.{◌≡◌, ℕ, ◌<◌, ◌≤◌, Bool, true, false, List, [], ◌∷◌, ◌++◌, length, Some, None, Ok, Err, Option, Result}
use Rattle.delivery.specs.declared.parcel.Tag.{Tag}
use Rattle.delivery.specs.declared.parcel.Parcel.{Parcel}
use Rattle.delivery.specs.declared.refusal.Accepted.{Accepted}
use Rattle.delivery.specs.declared.refusal.PutRefusal.{PutRefusal}
use Rattle.delivery.specs.declared.refusal.PutRefusal.TheVariants.{Far, Double, Full}
use Rattle.delivery.specs.declared.refusal.TakeRefusal.{TakeRefusal}
use Rattle.delivery.specs.declared.refusal.TakeRefusal.TheVariants.{Absent, Held}
use Rattle.delivery.specs.Waiting.{message_limit, waits_in, parcel_of, ahead_of, without, first_holder}

-- why a call may come back
pub data Ground : Type 0 where
  far : Ground
  double : Ground
  full : Ground
  absent : Ground
  held : Ground

-- the number is one that a delivery carries, and its message does not wait
abbrev pub Welcome : ℕ → List Parcel → Type 0
Welcome n w = (n < message_limit) × (waits_in n w ≡ false)

-- when a put of p comes back, with which refusal
abbrev pub WhyPut : ℕ → List Parcel → Parcel → PutRefusal → Type 0
WhyPut capacity w p (Far l) = message_limit ≤ p.message.0
WhyPut capacity w p (Double l) = (p.message.0 < message_limit) × (waits_in p.message.0 w ≡ true)
WhyPut capacity w p (Full l) = Welcome p.message.0 w × (capacity ≤ length w)

-- when a take of message n comes back, with which refusal: its holder is the first of those ahead of it
abbrev pub WhyTake : (Tag → Tag → Bool) → List Parcel → ℕ → TakeRefusal → Type 0
WhyTake rule w n (Absent l) = parcel_of n w ≡ None
WhyTake rule w n (Held by l) = (p : Parcel) × (parcel_of n w ≡ Some p) × (first_holder rule p.tag (ahead_of n w) ≡ Some by)

-- put: an accepted parcel joins at the end, a refusal leaves the list as it was
abbrev pub Put : ℕ → List Parcel → Parcel → Result Accepted PutRefusal → List Parcel → Type 0
Put capacity w p (Ok a) w' = Welcome p.message.0 w × (length w < capacity) × (w' ≡ w ++ p ∷ [])
Put capacity w p (Err e) w' = WhyPut capacity w p e × (w' ≡ w)

-- take: the parcel leaves, unless one ahead of it holds it
abbrev pub Take : (Tag → Tag → Bool) → List Parcel → ℕ → Result Parcel TakeRefusal → List Parcel → Type 0
Take rule w n (Ok p) w' = (parcel_of n w ≡ Some p) × (first_holder rule p.tag (ahead_of n w) ≡ None) × (w' ≡ without n w)
Take rule w n (Err e) w' = WhyTake rule w n e × (w' ≡ w)

-- a refusal names the layer l, where a layer is laid down
abbrev pub Named : Option ℕ → ℕ → Type 0
Named None l = Unit {0}
Named (Some k) l = l ≡ k

-- each refusal's ground, and the layer that it names
abbrev pub PutNames : (Ground → Option ℕ) → Result Accepted PutRefusal → Type 0
PutNames layer (Ok a) = Unit {0}
PutNames layer (Err (Far l)) = Named (layer far) l
PutNames layer (Err (Double l)) = Named (layer double) l
PutNames layer (Err (Full l)) = Named (layer full) l

abbrev pub TakeNames : (Ground → Option ℕ) → Result Parcel TakeRefusal → Type 0
TakeNames layer (Ok p) = Unit {0}
TakeNames layer (Err (Absent l)) = Named (layer absent) l
TakeNames layer (Err (Held by l)) = Named (layer held) l
