-- What the matrix holds of the enforced order while it is filled and once it is.
use Rattle.std.specs.Prelude.{◌≡◌, ℕ, ◌<◌, Bool, true, ◌&&◌, ◌||◌, T, ◌⊎◌, ◌↔◌}
use Rattle.chart.specs.Content.{Happening, sent, received}
use Rattle.matrix.specs.Places.{place_of}
use Rattle.matrix.specs.Models.{has, precedes}
use Rattle.matrix.specs.declared.sets.EventSet.{EventSet}
use Rattle.matrix.specs.declared.matrices.OrderMatrix.{OrderMatrix}
use Rattle.order.specs.Order.{Scene, Enforced}
use Rattle.order.specs.Pass.{same}

-- whether the matrix holds that e comes before f
abbrev pub holds : OrderMatrix → Happening → Happening → Bool
holds o e f = precedes o (place_of e) (place_of f)

-- whether e is f, or the matrix holds that it comes before f
abbrev pub reaches : OrderMatrix → Happening → Happening → Bool
reaches o e f = holds o e f || same e f

-- the matrix holds no pair outside the order
abbrev pub Within : Scene → OrderMatrix → Type 0
Within s o = (e f : Happening) → holds o e f ≡ true → Enforced s e f

-- it holds every pair of the order whose later event has a place below k
abbrev pub Covers : Scene → OrderMatrix → ℕ → Type 0
Covers s o k = (e f : Happening) → place_of f < k → Enforced s e f → holds o e f ≡ true

-- it holds every pair of the order
abbrev pub CoversAll : Scene → OrderMatrix → Type 0
CoversAll s o = (e f : Happening) → Enforced s e f → holds o e f ≡ true

-- the set has exactly the events of which P holds
abbrev pub Consists : EventSet → (Happening → Type 0) → Type 0
Consists r P = (e : Happening) → ((has r (place_of e) ≡ true) ↔ P e)

-- e is above the out event of message n at its instance, or the matrix holds that it comes before one that is
abbrev pub BeforeOut : Scene → OrderMatrix → ℕ → Happening → Type 0
BeforeOut s o n e = (g : Happening) × T (s.local g n) × (reaches o e g ≡ true)

-- whether m holds n and the matrix holds that it is sent before
abbrev pub is_holder : Scene → OrderMatrix → ℕ → ℕ → Bool
is_holder s o n m = holds o (sent m) (sent n) && s.holds m n

-- e is the out event of message n, or the in event of one of the first k messages that hold n and are sent before it,
-- or the matrix holds that it comes before one of these
abbrev pub BeforeIn : Scene → OrderMatrix → ℕ → ℕ → Happening → Type 0
BeforeIn s o n k e = (reaches o e (sent n) ≡ true) ⊎ ((m : ℕ) × (m < k) × (is_holder s o n m ≡ true) × (reaches o e (received m) ≡ true))
