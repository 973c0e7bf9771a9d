-- What is promised of a chart over a delivery with this hold rule and this capacity.
use Rattle.std.specs.Prelude.{◌≡◌, ℕ, ◌*◌, ◌<◌, Bool, ◌⊎◌, ◌↔◌, List, ◌++◌, reverse, length, drop, Ok, Err, Result}
use Rattle.chart.specs.Content.{Happening, Content}
use Rattle.chart.specs.declared.numbers.EventId.{EventId}
use Rattle.delivery.specs.declared.parcel.Tag.{Tag}
use Rattle.order.specs.Lists.{Has, Once, Rising}
use Rattle.order.specs.Report.{report}
use Rattle.order.specs.Runs.{Run, Reversed}
use Rattle.order.specs.Scenes.{scene_of, event_at, PairAt, AllFired}
use Rattle.bench.specs.Records.{past}
use Rattle.analysis.specs.Races.{races_of}
use Rattle.analysis.specs.Reporting.{counted, reported}
use Rattle.analysis.specs.declared.refusals.ReportRefusal.{ReportRefusal}
use Rattle.scheduling.specs.Firings.{firings}
use Rattle.scheduling.specs.declared.refusals.ScheduleRefusal.{ScheduleRefusal}

module _ (c : Content) (rule : Tag → Tag → Bool) (room : ℕ) where
  -- the reported pairs
  abbrev pub pairs : List (ℕ × ℕ)
  pairs = report c rule room

  -- firings, the latest first, that are all accepted by the rules from a cleared bench on, fire each event of the chart once,
  -- and b before a
  pub record Reversal (a b : ℕ) (r : List Happening) : Type 0 where
    pub accepted : Run (scene_of c rule room) r
    pub whole : AllFired c r
    pub once : Once r
    pub reversed : Reversed (event_at c a) (event_at c b) r

  -- a: the report that was answered and written has a record for each of these pairs, rising by the first event and then by the
  -- second; and a pair is among them exactly if some firings reverse it
  pub record Reported (old : List ℕ) (answer : Result ℕ ReportRefusal) (new : List ℕ) : Type 0 where
    pub answered : answer ≡ counted (races_of c rule room) old
    pub written : new ≡ reported (races_of c rule room) old
    pub rising : Rising pairs
    pub exact : (a b : ℕ) → (Has (a, b) pairs ↔ (PairAt c a b × ((r : List Happening) × Reversal a b r)))

  -- b: the schedule that was written lists such firings, the first one first, of a reported pair; for a pair that is not
  -- reported, and in too short a buffer, there is none, and the buffer is as it was
  abbrev pub Scheduled : ℕ → ℕ → List ℕ → Result ℕ ScheduleRefusal → List ℕ → Type 0
  Scheduled a b old (Ok count) new =
      Has (a, b) pairs
      × (count ≡ length c.events)
      × ((l : List Happening) × Reversal a b (reverse l) × (new ≡ firings c l ++ drop (2 * length c.events) old))
  Scheduled a b old (Err f) new = ((¬ Has (a, b) pairs) ⊎ (length old < 2 * length c.events)) × (new ≡ old)

  -- c: in the record of the bench no pair that is not reported stands reversed; and further firings, perhaps none, all
  -- accepted by the rules, bring every event of the chart into it. (A play that is open keeps the bench from firing other
  -- events; closing it leaves the record as it is.)
  pub record Recorded (fired : List EventId) : Type 0 where
    pub unreported : (a b : ℕ) → PairAt c a b → ¬ Has (a, b) pairs → ¬ Reversed (event_at c a) (event_at c b) (past c fired)
    pub completes : (more : List Happening) × Run (scene_of c rule room) (more ++ past c fired) × AllFired c (more ++ past c fired)
