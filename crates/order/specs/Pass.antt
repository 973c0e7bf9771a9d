-- The enforced order in one pass over the messages by their numbers, and the answer that it gives for two events.
use Rattle.std.specs.Prelude.{ℕ, zero, suc, ◌+◌, Bool, false, cond, not, ◌&&◌, ◌||◌, List, [], ◌∷◌, ◌++◌, length, nat_le}
use Rattle.chart.specs.Content.{Happening, sent, received, message_of, is_sent, is_received}
use Rattle.order.specs.Order.{Scene}

-- whether e is f
abbrev pub same : Happening → Happening → Bool
same (sent m) f = is_sent m f
same (received m) f = is_received m f

abbrev pub listed : Happening → List Happening → Bool
listed e [] = false
listed e (x ∷ xs) = same e x || listed e xs

-- an event with all that is enforced before it
pub data Row : Type 0 where
  row : Happening → List Happening → Row

-- what comes before the out event of message n: each event above it at its instance, with what comes before that
abbrev pub send_row : Scene → ℕ → List Row → List Happening
send_row s n [] = []
send_row s n (row e es ∷ t) = cond (s.local e n) ((e ∷ es) ++ send_row s n t) (send_row s n t)

-- what comes before its in event by rule 3: the in event of each holder that is sent before it, with what comes before that
abbrev pub holder_row : Scene → ℕ → List Happening → List Row → List Happening
holder_row s n before [] = []
holder_row s n before (row (sent m) es ∷ t) = holder_row s n before t
holder_row s n before (row (received m) es ∷ t) =
    cond (s.holds m n && listed (sent m) before) ((received m ∷ es) ++ holder_row s n before t) (holder_row s n before t)

-- the rows of message n, after those of the messages before it; before is the row of its out event
abbrev pub with_rows : Scene → ℕ → List Row → List Happening → List Row
with_rows s n t before = row (received n) ((sent n ∷ before) ++ holder_row s n before t) ∷ row (sent n) before ∷ t

-- the rows of the first n messages
abbrev pub rows : Scene → ℕ → List Row
rows s zero = []
rows s (suc n) = with_rows s n (rows s n) (send_row s n (rows s n))

abbrev pub row_of : Happening → List Row → List Happening
row_of f [] = []
row_of f (row e es ∷ t) = cond (same f e) es (row_of f t)

-- whether the rows have e before f
abbrev pub enforces : List Row → Happening → Happening → Bool
enforces t e f = listed e (row_of f t)

-- the numbers below n that pass a test
abbrev pub chosen : (ℕ → Bool) → ℕ → List ℕ
chosen p zero = []
chosen p (suc h) = cond (p h) (h ∷ chosen p h) (chosen p h)

-- whether h is sent between m and n, and m holds it
abbrev pub between : Scene → List Row → ℕ → ℕ → ℕ → Bool
between s t m n h = enforces t (sent m) (sent h) && (enforces t (sent h) (sent n) && s.holds m h)

-- the size of the crowd of m and n: these two, and those between them
abbrev pub crowd_size : Scene → List Row → ℕ → ℕ → ℕ
crowd_size s t m n = 2 + length (chosen (between s t m n) s.messages)

-- whether the rows show that b can come before a
abbrev pub turns : Scene → List Row → Happening → Happening → Bool
turns s t a b =
    not (enforces t a b)
    && (not (enforces t (sent (message_of a)) (sent (message_of b))) || nat_le (crowd_size s t (message_of a) (message_of b)) s.capacity)

-- whether b can come before a
abbrev pub reverses : Scene → Happening → Happening → Bool
reverses s a b = turns s (rows s s.messages) a b
