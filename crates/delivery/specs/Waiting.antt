-- Waiting parcels, as a list in the order in which they were accepted.
use Rattle.std.specs.Prelude.{ℕ, Bool, true, cond, not, ◌&&◌, List, [], ◌∷◌, Some, None, Option, ◌==◌}
use Rattle.std.specs.List.{list_any, find}
use Rattle.chart.specs.declared.numbers.MessageId.{MessageId}
use Rattle.delivery.specs.declared.parcel.Tag.{Tag}
use Rattle.delivery.specs.declared.parcel.Parcel.{Parcel}

-- message numbers are below this, and capacities at most this
abbrev pub message_limit : ℕ
message_limit = 64

-- the parcel is that of message n
abbrev pub is_of : ℕ → Parcel → Bool
is_of n p = p.message.0 == n

-- message n waits
abbrev pub waits_in : ℕ → List Parcel → Bool
waits_in n w = list_any (is_of n) w

-- no message waits twice
abbrev pub distinct : List Parcel → Bool
distinct [] = true
distinct (p ∷ w) = not (waits_in p.message.0 w) && distinct w

-- the waiting parcel of message n
abbrev pub parcel_of : ℕ → List Parcel → Option Parcel
parcel_of n w = find (is_of n) w

-- the parcels before that of message n
abbrev pub ahead_of : ℕ → List Parcel → List Parcel
ahead_of n [] = []
ahead_of n (p ∷ w) = cond (p.message.0 == n) [] (p ∷ ahead_of n w)

-- the rest, in their order, once the parcel of message n has left
abbrev pub without : ℕ → List Parcel → List Parcel
without n [] = []
without n (p ∷ w) = cond (p.message.0 == n) w (p ∷ without n w)

-- the first message whose tag holds the tag t
abbrev pub first_holder : (Tag → Tag → Bool) → Tag → List Parcel → Option MessageId
first_holder rule t [] = None
first_holder rule t (p ∷ w) = cond (rule p.tag t) (Some p.message) (first_holder rule t w)
