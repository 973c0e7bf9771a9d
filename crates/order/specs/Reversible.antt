-- Which two events can come the other way round, told by the order alone.
use Rattle.std.specs.Prelude.{◌≡◌, ℕ, ◌≤◌, T, ◌⊎◌, List, length}
use Rattle.chart.specs.Content.{Happening, sent, message_of}
use Rattle.order.specs.Lists.{Has, Once}
use Rattle.order.specs.Order.{Scene, Enforced}

-- h is sent between m and n, and m holds it
abbrev pub Between : Scene → ℕ → ℕ → ℕ → Type 0
Between s m n h = Enforced s (sent m) (sent h) × Enforced s (sent h) (sent n) × T (s.holds m h)

-- the crowd of m and n: the messages that must wait at once for n, sent after m, to be received before m.
-- These are m, n, and each that m holds of those sent between them. It is a list with each of them once, and its length counts them
pub record Crowd (s : Scene) (m n : ℕ) (crowd : List ℕ) : Type 0 where
  pub once : Once crowd
  pub first : Has m crowd
  pub second : Has n crowd
  pub between : (h : ℕ) → Between s m n h → Has h crowd
  pub no_other : (h : ℕ) → Has h crowd → (h ≡ m) ⊎ ((h ≡ n) ⊎ Between s m n h)

-- the crowd of m and n is no more than may wait at once
abbrev pub CrowdFits : Scene → ℕ → ℕ → Type 0
CrowdFits s m n = (crowd : List ℕ) × Crowd s m n crowd × (length crowd ≤ s.capacity)

-- a is not enforced before b, and either its message is not enforced to be sent before that of b or their crowd fits
abbrev pub Reversible : Scene → Happening → Happening → Type 0
Reversible s a b =
    (¬ Enforced s a b) × ((¬ Enforced s (sent (message_of a)) (sent (message_of b))) ⊎ CrowdFits s (message_of a) (message_of b))

-- how many messages must wait at once in a run that has b before a: the crowd if a's message is sent first, else the message of b alone
abbrev pub LeastWaiting : Scene → Happening → Happening → ℕ → Type 0
LeastWaiting s a b k =
    ((¬ Enforced s (sent (message_of a)) (sent (message_of b))) × (k ≡ 1))
    ⊎ (Enforced s (sent (message_of a)) (sent (message_of b)) × ((crowd : List ℕ) × Crowd s (message_of a) (message_of b) crowd × (k ≡ length crowd)))
