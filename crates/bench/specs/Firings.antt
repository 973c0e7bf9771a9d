-- When an event may be fired, and what stands in its way.
use Rattle.std.specs.Prelude.{◌≡◌, ℕ, ◌<◌, ◌≤◌, true, ◌⊎◌, List, [], ◌∷◌, ◌++◌, length, is_some, Some, None, Ok, Err, Option, Result}
use Rattle.chart.specs.Content.{Happening, sent, received, message_of, Content}
use Rattle.chart.specs.declared.numbers.EventId.{EventId}
use Rattle.delivery.specs.Answers.{Named, full, held}
use Rattle.delivery.specs.Waiting.{ahead_of, first_holder}
use Rattle.order.specs.Lists.{Has}
use Rattle.order.specs.Parcels.{waiting_after}
use Rattle.order.specs.Runs.{MayFire}
use Rattle.order.specs.Scenes.{event_at, instance_of, tag_of}
use Rattle.bench.specs.declared.refusal.Firing.{Firing}
use Rattle.bench.specs.declared.refusal.Obstacle.{Obstacle}
use Rattle.bench.specs.declared.refusal.Obstacle.TheVariants.{InRecord, AboveMissing, OutMissing, Full, Held}
use Rattle.bench.specs.declared.refusal.Refusal.{Refusal}
use Rattle.bench.specs.declared.refusal.Refusal.TheVariants.{PlayOpen, NotInChart, Unfired, RecordNotEmpty, BadSchedule, NoPlay, NoEventLeft}
use Rattle.bench.specs.Records.{past}
use Rattle.bench.specs.States.{Stage, scene_on, Play, State, cleared, Does}

-- x stands above the event e at its instance, and is not in the record r
pub record Lacks (c : Content) (r : List EventId) (e x : EventId) : Type 0 where
  pub above : x.0 < e.0
  pub together : instance_of c (event_at c x.0) ≡ instance_of c (event_at c e.0)
  pub missing : Has x r → ⊥

-- x is the first of these
abbrev pub FirstLacking : Content → List EventId → EventId → EventId → Type 0
FirstLacking c r e x = Lacks c r e x × ((y : EventId) → y.0 < x.0 → Lacks c r e y → ⊥)

-- what stands in the way of an out event, and of the in event of message n
abbrev pub StopsSend : Stage → State → EventId → Obstacle → Type 0
StopsSend g s e InRecord = Has e s.fired
StopsSend g s e (AboveMissing x) = FirstLacking g.chart s.fired e x
StopsSend g s e OutMissing = ⊥
StopsSend g s e (Full l) = (g.room ≤ length s.waiting) × Named (g.layer (length s.waiting) full) l
StopsSend g s e (Held m l) = ⊥

abbrev pub StopsReceipt : Stage → State → EventId → ℕ → Obstacle → Type 0
StopsReceipt g s e n InRecord = Has e s.fired
StopsReceipt g s e n (AboveMissing x) = ⊥
StopsReceipt g s e n OutMissing = Has (sent n) (past g.chart s.fired) → ⊥
StopsReceipt g s e n (Full l) = ⊥
StopsReceipt g s e n (Held m l) =
    (first_holder g.rule (tag_of g.chart n) (ahead_of n s.waiting) ≡ Some m) × Named (g.layer (length s.waiting) held) l

abbrev pub Stops : Stage → State → EventId → Happening → Obstacle → Type 0
Stops g s e (sent n) o = StopsSend g s e o
Stops g s e (received n) o = StopsReceipt g s e n o

-- the event, its instance and its message
abbrev pub firing_of : Content → EventId → Firing
firing_of c e = record { event = e; instance = record { 0 = instance_of c (event_at c e.0) }; message = record { 0 = message_of (event_at c e.0) } }

-- the refusals of an event, whether or not a play is open
abbrev pub Bars : Stage → State → EventId → Refusal → Type 0
Bars g s e PlayOpen = ⊥
Bars g s e (NotInChart x) = (length g.chart.events ≤ e.0) × (x ≡ e)
Bars g s e (Unfired f o) = (e.0 < length g.chart.events) × (f ≡ firing_of g.chart e) × Stops g s e (event_at g.chart e.0) o
Bars g s e RecordNotEmpty = ⊥
Bars g s e (BadSchedule k) = ⊥
Bars g s e NoPlay = ⊥
Bars g s e NoEventLeft = ⊥

-- the event is in the chart, and the rules of runs let it be fired after the record
abbrev pub MayFireNext : Stage → State → EventId → Type 0
MayFireNext g s e = (e.0 < length g.chart.events) × MayFire (scene_on g) (event_at g.chart e.0) (past g.chart s.fired)

-- the state once the event was fired: it joins the record, and those parcels wait that wait after such a run
abbrev pub with_fired : Stage → State → EventId → Option Play → State
with_fired g s e play = record { fired = s.fired ++ e ∷ []; waiting = waiting_after g.chart (past g.chart (s.fired ++ e ∷ [])); play = play }

-- the event was fired by those rules
abbrev pub FiredNext : Stage → State → EventId → Option Play → State → Type 0
FiredNext g s e play t = MayFireNext g s e × (t ≡ with_fired g s e play)

-- a firing, whether or not a play is open
abbrev pub Tried : Stage → State → EventId → Result (Unit {0}) Refusal → State → Type 0
Tried g s e r t = Does (Bars g s e) (λ _. FiredNext g s e s.play) s r t

-- the refusals of fire
abbrev pub BarsFire : Stage → State → EventId → Refusal → Type 0
BarsFire g s e PlayOpen = is_some s.play ≡ true
BarsFire g s e (NotInChart x) = Bars g s e (NotInChart x)
BarsFire g s e (Unfired f o) = Bars g s e (Unfired f o)
BarsFire g s e RecordNotEmpty = ⊥
BarsFire g s e (BadSchedule k) = ⊥
BarsFire g s e NoPlay = ⊥
BarsFire g s e NoEventLeft = ⊥

-- what fire does
abbrev pub Fired : Stage → State → EventId → Result (Unit {0}) Refusal → State → Type 0
Fired g s e r t = Does (BarsFire g s e) (λ _. FiredNext g s e s.play) s r t

-- an event is fired exactly if no play is open and the rules of runs let it be
abbrev pub ByRules : Stage → State → EventId → Result (Unit {0}) Refusal → Type 0
ByRules g s e (Ok u) = (s.play ≡ None) × MayFireNext g s e
ByRules g s e (Err f) = (is_some s.play ≡ true) ⊎ (MayFireNext g s e → ⊥)

-- the refusals of clear
abbrev pub BarsClear : State → Refusal → Type 0
BarsClear s PlayOpen = is_some s.play ≡ true
BarsClear s (NotInChart x) = ⊥
BarsClear s (Unfired f o) = ⊥
BarsClear s RecordNotEmpty = ⊥
BarsClear s (BadSchedule k) = ⊥
BarsClear s NoPlay = ⊥
BarsClear s NoEventLeft = ⊥

-- what clear does
abbrev pub Cleared : State → Result (Unit {0}) Refusal → State → Type 0
Cleared s r t = Does (BarsClear s) (λ _ u. u ≡ cleared) s r t
