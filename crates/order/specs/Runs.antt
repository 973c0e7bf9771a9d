-- Runs: which events may be fired, and in which orders. A record of firings has the latest event first.
use Rattle.std.specs.Prelude.{ℕ, ◌<◌, max, T, List, [], ◌∷◌, ◌++◌, length}
use Rattle.chart.specs.Content.{Happening, sent, received}
use Rattle.order.specs.Lists.{Has, Ahead, without}
use Rattle.order.specs.Order.{Scene}

-- the messages that wait after a record, in the order in which they were sent
abbrev pub waits : List Happening → List ℕ
waits [] = []
waits (sent n ∷ r) = waits r ++ n ∷ []
waits (received n ∷ r) = without n (waits r)

-- an out event may be fired once all above it at its instance is in the record, if there is room
pub record MaySend (s : Scene) (n : ℕ) (r : List Happening) : Type 0 where
  pub inside : n < s.messages
  pub fresh : ¬ Has (sent n) r
  pub local : (e : Happening) → T (s.local e n) → Has e r
  pub room : length (waits r) < s.capacity

-- an in event may be fired once its out event is in the record, if nothing that waits ahead of its message holds it
pub record MayReceive (s : Scene) (n : ℕ) (r : List Happening) : Type 0 where
  pub fresh : ¬ Has (received n) r
  pub after : Has (sent n) r
  pub free : (m : ℕ) → Ahead m n (waits r) → ¬ T (s.holds m n)

-- the event may be fired after the record
abbrev pub MayFire : Scene → Happening → List Happening → Type 0
MayFire s (sent n) r = MaySend s n r
MayFire s (received n) r = MayReceive s n r

-- the records that firings reach from the empty one
pub data Run (s : Scene) : List Happening → Type 0 where
  cleared : Run s []
  fired : {e : Happening} {r : List Happening} → Run s r → MayFire s e r → Run s (e ∷ r)

-- every event is in the record
abbrev pub Complete : Scene → List Happening → Type 0
Complete s r = (m : ℕ) → m < s.messages → Has (sent m) r × Has (received m) r

-- b is in the record, and a is not before it
pub data Reversed (a b : Happening) : List Happening → Type 0 where
  now : {r : List Happening} → ¬ Has a r → Reversed a b (b ∷ r)
  since : {e : Happening} {r : List Happening} → Reversed a b r → Reversed a b (e ∷ r)

-- a complete run with b before a
pub record Reverses (s : Scene) (a b : Happening) (r : List Happening) : Type 0 where
  pub run : Run s r
  pub complete : Complete s r
  pub reversed : Reversed a b r

-- some complete run has b before a
abbrev pub CanReverse : Scene → Happening → Happening → Type 0
CanReverse s a b = (r : List Happening) × Reverses s a b r

-- the greatest number of messages that waited at once
abbrev pub peak : List Happening → ℕ
peak [] = 0
peak (e ∷ r) = max (length (waits (e ∷ r))) (peak r)
