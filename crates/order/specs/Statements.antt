-- What is proved of every scene with its laws: any chart, over any delivery.
use Rattle.std.specs.Prelude.{◌≡◌, ℕ, ◌+◌, ◌*◌, ◌<◌, ◌≤◌, T, ◌↔◌, List, ◌∷◌, ◌++◌, length}
use Rattle.chart.specs.Content.{Happening, sent, received, message_of}
use Rattle.order.specs.Lists.{Has, Once}
use Rattle.order.specs.Order.{Scene, Enforced}
use Rattle.order.specs.Runs.{Run, Complete, Reversed, Reverses, CanReverse, peak}
use Rattle.order.specs.Reversible.{Crowd, Reversible, LeastWaiting}
use Rattle.order.specs.Pass.{rows, enforces, crowd_size, reverses}

-- the place of an event in out(0), in(0), out(1), in(1), and so on
abbrev pub turn : Happening → ℕ
turn (sent m) = 2 * m
turn (received m) = 2 * m + 1

module _ (s : Scene) where
  -- in every run, what is enforced before an event was fired before it
  abbrev pub Sound : Type 0
  Sound = (e f : Happening) (q r : List Happening) → Enforced s e f → Run s (q ++ f ∷ r) → Has e r

  -- a run fires events of the scene, none twice
  abbrev pub Proper : Type 0
  Proper = (r : List Happening) → Run s r → Once r × ((e : Happening) → Has e r → message_of e < s.messages)

  -- every run goes on to a complete one
  abbrev pub Completes : Type 0
  Completes = (r : List Happening) → Run s r → (q : List Happening) × Run s (q ++ r) × Complete s (q ++ r)

  -- the order runs along out(0), in(0), out(1), in(1), ...; so no event comes before itself
  abbrev pub Along : Type 0
  Along = (e f : Happening) → Enforced s e f → turn e < turn f

  abbrev pub Decidable : Type 0
  Decidable = (e f : Happening) → Dec (Enforced s e f)

  -- one pass computes the order
  abbrev pub OnePass : Type 0
  OnePass = (e f : Happening) → message_of f < s.messages → (T (enforces (rows s s.messages) e f) ↔ Enforced s e f)

  -- two messages of which one is sent first have a crowd, its size is the one that the pass counts, and no other list of it has another
  abbrev pub OneCrowd : Type 0
  OneCrowd =
      (m n : ℕ) → n < s.messages → Enforced s (sent m) (sent n) →
      ((crowd : List ℕ) × Crowd s m n crowd)
      × ((crowd : List ℕ) → Crowd s m n crowd → length crowd ≡ crowd_size s (rows s s.messages) m n)

  -- the test tells whether two events are reversible
  abbrev pub Tested : Type 0
  Tested = (a b : Happening) → message_of b < s.messages → (T (reverses s a b) ↔ Reversible s a b)

  -- an in event can come before any other event exactly if the two are reversible, wherever they stand
  abbrev pub Exact : Type 0
  Exact = (a : Happening) (n : ℕ) → n < s.messages → (Reversible s a (received n) ↔ CanReverse s a (received n))

  -- an out event never comes before what stands above it at its instance
  abbrev pub SendsWait : Type 0
  SendsWait = (a : Happening) (n : ℕ) → T (s.local a n) → (¬ Reversible s a (sent n)) × (¬ CanReverse s a (sent n))

  -- what stands reversed in a run, complete or not, is reversible
  abbrev pub Needed : Type 0
  Needed = (a : Happening) (n : ℕ) (r : List Happening) → Run s r → Reversed a (received n) r → Reversible s a (received n)

  -- a reversible two are reversed by a complete run that has no more waiting at once than every such run must have
  abbrev pub LeastPeak : Type 0
  LeastPeak =
      (a : Happening) (n : ℕ) → n < s.messages → Reversible s a (received n) →
      (k : ℕ) × LeastWaiting s a (received n) k
      × ((r : List Happening) × Reverses s a (received n) r × (peak r ≡ k))
      × ((r : List Happening) → Run s r → Reversed a (received n) r → k ≤ peak r)

-- all of this
pub record Theory (s : Scene) : Type 0 where
  pub sound : Sound s
  pub proper : Proper s
  pub completes : Completes s
  pub along : Along s
  pub decidable : Decidable s
  pub one_pass : OnePass s
  pub one_crowd : OneCrowd s
  pub tested : Tested s
  pub exact : Exact s
  pub sends_wait : SendsWait s
  pub needed : Needed s
  pub least_peak : LeastPeak s
