-- In which order to fire all events so that message n is received before a given event of message m, with as few messages waiting at once as can be.
use Rattle.std.specs.Prelude.{ℕ, zero, suc, Bool, false, cond, not, ◌&&◌, ◌||◌, List, [], ◌∷◌, ◌++◌, ◌==◌}
use Rattle.chart.specs.Content.{Happening, sent, received}
use Rattle.order.specs.Order.{Scene}
use Rattle.order.specs.Pass.{rows, enforces}

-- the messages below k by their numbers: each sent if the first test says so, then received if the second does
abbrev pub pass : (ℕ → Bool) → (ℕ → Bool) → ℕ → List Happening
pass sends receives zero = []
pass sends receives (suc h) = pass sends receives h ++ (cond (sends h) (sent h ∷ []) [] ++ cond (receives h) (received h ∷ []) [])

-- before x y says whether x is enforced to be sent before y
module _ (s : Scene) (before : ℕ → ℕ → Bool) (m n : ℕ) where
  -- h is n, or n's send waits for that of h
  abbrev pub leads : ℕ → Bool
  leads h = h == n || before h n

  -- n's send waits for that of m, and h is m or its send waits for that of m too
  abbrev pub follows : ℕ → Bool
  follows h = before m n && (h == m || before m h)

  -- h is m, or m holds it
  abbrev pub stuck : ℕ → Bool
  stuck h = h == m || s.holds m h

  -- of what n needs, what does not follow m is sent first, each received at once; then m and what follows it, each received at
  -- once unless it is stuck. What was kept so is received once n is, and then come the others
  abbrev pub early : ℕ → Bool
  early h = leads h && not (follows h)

  abbrev pub late : ℕ → Bool
  late h = leads h && follows h

  abbrev pub prompt : ℕ → Bool
  prompt h = late h && not (stuck h)

  abbrev pub kept : ℕ → Bool
  kept h = late h && stuck h

  abbrev pub other : ℕ → Bool
  other h = not (leads h)

  -- the events in the order of firing
  abbrev pub planned : List Happening
  planned =
      pass early early s.messages
      ++ (pass late prompt s.messages
      ++ (pass (λ h. false) kept s.messages
      ++ pass other other s.messages))

-- whether x is enforced to be sent before y
abbrev pub sent_first : Scene → ℕ → ℕ → Bool
sent_first s x y = enforces (rows s s.messages) (sent x) (sent y)

-- the schedule of messages m and n
abbrev pub schedule_of : Scene → ℕ → ℕ → List Happening
schedule_of s m n = planned s (sent_first s) m n
