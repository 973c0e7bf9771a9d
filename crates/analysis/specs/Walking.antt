-- A walk over the reversible pairs, from the first to the last.
use Rattle.std.specs.Prelude.{◌≡◌, ℕ, ◌+◌, ◌<◌, ◌≤◌, Bool, true, false, List, [], ◌∷◌, ◌++◌, map, length, MatchOption, Some, None, Option}
use Rattle.chart.specs.Charted.{drawn}
use Rattle.chart.specs.Content.{Content}
use Rattle.chart.specs.declared.numbers.EventId.{EventId}
use Rattle.delivery.specs.declared.parcel.Tag.{Tag}
use Rattle.order.specs.Pass.{rows}
use Rattle.order.specs.Report.{upward, grid, is_reported}
use Rattle.order.specs.Scenes.{scene_of, event_at}
use Rattle.analysis.specs.Judging.{Foresees}
use Rattle.analysis.specs.declared.races.Race.{Race}
use Rattle.analysis.specs.declared.walking.Sweep.{Sweep}

-- the first number from low on, and below high, that passes a test
abbrev pub FirstFrom : (ℕ → Bool) → ℕ → ℕ → Option EventId → Type 0
FirstFrom p low high None = (y : ℕ) → low ≤ y → y < high → p y ≡ false
FirstFrom p low high (Some e) = (low ≤ e.0) × (e.0 < high) × (p e.0 ≡ true) × ((y : ℕ) → low ≤ y → y < e.0 → p y ≡ false)

-- the pairs that come before the next one that a sweep judges, or all if nothing is left to judge
abbrev pub passed : (ℕ → ℕ → Bool) → ℕ → Option Sweep → List (ℕ × ℕ)
passed p n None = grid p n n
passed p n (Some w) = grid p n w.prospect.first.0 ++ map (λ y. (w.prospect.first.0, y)) (upward (p w.prospect.first.0) w.next)

-- what a walk shows: the pairs that are left, and how many were given
pub record Course : Type 0 where
  pub left : List Race
  pub given : ℕ

-- a step of a walk gives the first pair that is left, or none if none is
abbrev pub Gives : Course → Option Race → Course → Type 0
Gives s r t = MatchOption r ((s.left ≡ []) × (t.left ≡ []) × (t.given ≡ s.given)) (λ x. (s.left ≡ x ∷ t.left) × (t.given ≡ s.given + 1))

module _ (c : Content) (rule : Tag → Tag → Bool) (room : ℕ) where
  -- whether a and b are a reversible pair
  abbrev pub is_race : ℕ → ℕ → Bool
  is_race = is_reported c (scene_of c rule room) (rows (scene_of c rule room) (length c.messages))

  pub record Sweeps (w : Sweep) : Type 0 where
    pub foresees : Foresees c (scene_of c rule room) w.prospect
    pub within : w.next ≤ length c.events
    pub drawn_so : w.line ≡ drawn c (event_at c w.prospect.first.0)

  abbrev pub SweepsOn : Option Sweep → Type 0
  SweepsOn None = Unit {0}
  SweepsOn (Some w) = Sweeps w

  -- a sweep that begins with the event number f, or none if there is no such event
  abbrev pub Begins : ℕ → Option Sweep → Type 0
  Begins f None = length c.events ≤ f
  Begins f (Some w) = Sweeps w × (w.prospect.first.0 ≡ f) × (w.next ≡ f + 1)

  -- a walk has given so many pairs, those before its place
  pub record Walks (sweep : Option Sweep) (given : ℕ) : Type 0 where
    pub sweeps : SweepsOn sweep
    pub gave : given ≡ length (passed is_race (length c.events) sweep)
