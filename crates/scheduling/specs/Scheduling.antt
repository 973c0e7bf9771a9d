-- What a call for a schedule answers and leaves.
use Rattle.std.specs.Prelude.{◌≡◌, ℕ, ◌*◌, ◌<◌, ◌≤◌, Bool, List, ◌++◌, length, drop, Ok, Err, Result}
use Rattle.chart.specs.Content.{Happening, message_of, Content}
use Rattle.delivery.specs.declared.parcel.Tag.{Tag}
use Rattle.order.specs.Reversible.{Reversible}
use Rattle.order.specs.Scenes.{scene_of, event_at, PairAt}
use Rattle.schedules.specs.Plan.{schedule_of}
use Rattle.schedules.specs.Planned.{Planned}
use Rattle.scheduling.specs.Firings.{firings}
use Rattle.scheduling.specs.declared.refusals.ScheduleRefusal.{ScheduleRefusal}
use Rattle.scheduling.specs.declared.refusals.ScheduleRefusal.TheVariants.{NotPair, NotReversible, TooShort}

module _ (c : Content) (rule : Tag → Tag → Bool) (room : ℕ) (a b : ℕ) where
  -- the events in the order in which the schedule fires them
  abbrev pub order : List Happening
  order = schedule_of (scene_of c rule room) (message_of (event_at c a)) (message_of (event_at c b))

  -- b can come before a
  abbrev pub Turns : Type 0
  Turns = Reversible (scene_of c rule room) (event_at c a) (event_at c b)

  -- the buffer has a record of each event, in that order, and then what it had there; every event is fired once, each as the
  -- rules let it be fired from a cleared bench on, b before a, with no more messages waiting at once than every such order needs
  pub record Gives (old : List ℕ) (count : ℕ) (new : List ℕ) : Type 0 where
    pub pair : PairAt c a b
    pub turns : Turns
    pub fits : 2 * length c.events ≤ length old
    pub counted : count ≡ length c.events
    pub written : new ≡ firings c order ++ drop (2 * length c.events) old
    pub planned : Planned (scene_of c rule room) (event_at c a) (event_at c b) order

  -- the answer and the new content of the buffer; a refusal leaves the buffer as it was
  abbrev pub Schedules : List ℕ → Result ℕ ScheduleRefusal → List ℕ → Type 0
  Schedules old (Err NotPair) new = (¬ PairAt c a b) × (new ≡ old)
  Schedules old (Err NotReversible) new = PairAt c a b × (¬ Turns) × (new ≡ old)
  Schedules old (Err TooShort) new = PairAt c a b × Turns × (length old < 2 * length c.events) × (new ≡ old)
  Schedules old (Ok count) new = Gives old count new
