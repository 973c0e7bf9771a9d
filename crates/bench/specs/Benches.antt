-- What holds of a bench from its opening on.
use Rattle.std.specs.Prelude.{◌≡◌, ◌<◌, ◌≤◌, List, map, length, take, Some, None, Ok, Err, vec_items, Option, Result}
use Rattle.std.specs.declared.alloc.AllocFailed.{AllocFailed}
use Rattle.chart.specs.Content.{Content}
use Rattle.chart.specs.declared.numbers.EventId.{EventId}
use Rattle.delivery.specs.Waiting.{message_limit}
use Rattle.delivery.specs.declared.meaning.Delivery.{Ghosts}
use Rattle.order.specs.Lists.{Has}
use Rattle.order.specs.Parcels.{waiting_after}
use Rattle.order.specs.Runs.{Run}
use Rattle.order.specs.Scenes.{Laid}
use Rattle.bench.specs.declared.schedule.Entry.{Entry}
use Rattle.bench.specs.declared.stand.Bench.{Bench}
use Rattle.bench.specs.Layouts.{copied}
use Rattle.bench.specs.Records.{past}
use Rattle.bench.specs.States.{Stage, scene_on, Play, play_of, State, cleared}

-- the record has just those events of an open play that were fired
abbrev pub InStep : List EventId → Option Play → Type 0
InStep r None = Unit {0}
InStep r (Some p) = (p.done ≤ length p.entries) × (r ≡ map (λ (x : Entry). x.event) (take p.done p.entries))

module _ {D : Type 0} (G : Ghosts D) where
  abbrev pub stage_of : Content → Bench D → Stage
  stage_of c b = record { chart = c; rule = G.rule b.delivery; room = G.room b.delivery; layer = G.layer b.delivery }

  abbrev pub state_of : Bench D → State
  state_of b = record { fired = vec_items b.log.fired; waiting = G.waiting b.delivery; play = play_of b.play }

  -- a bench over the chart c: it has a copy of its numbers, a run of the rules leads from the cleared bench to its record,
  -- and those parcels wait that wait after that run
  pub record Sound (c : Content) (b : Bench D) : Type 0 where
    pub started : G.started b.delivery
    pub laid : Laid c
    pub few_messages : length c.messages ≤ message_limit
    pub copy : vec_items b.log.layout.places ≡ copied c
    pub inside : (e : EventId) → Has e (vec_items b.log.fired) → e.0 < length c.events
    pub run : Run (scene_on (stage_of c b)) (past c (vec_items b.log.fired))
    pub waits : G.waiting b.delivery ≡ waiting_after c (past c (vec_items b.log.fired))
    pub in_step : InStep (vec_items b.log.fired) (play_of b.play)

  -- a sound bench stays sound
  abbrev pub Keeps : Bench D → Bench D → Type 0
  Keeps a b = (c : Content) → Sound c a → Sound c b

  -- what holds of a sound bench, told by its stage and by its state before and after a call
  abbrev pub OnSound : Bench D → Bench D → (Stage → State → State → Type 0) → Type 0
  OnSound a b Says = (c : Content) → Sound c a → Says (stage_of c a) (state_of a) (state_of b)

  -- the chart's copy, the hold rule, the capacity and the layers are those of another bench
  pub record Same (a b : Bench D) : Type 0 where
    pub layout : b.log.layout ≡ a.log.layout
    pub rule : G.rule b.delivery ≡ G.rule a.delivery
    pub room : G.room b.delivery ≡ G.room a.delivery
    pub layer : G.layer b.delivery ≡ G.layer a.delivery

  -- what holds of every call
  pub record Remains (a b : Bench D) : Type 0 where
    pub same : Same a b
    pub sound : Keeps a b

  -- a cleared bench over this chart and this delivery; without memory for it the delivery comes back as it was
  pub record OpenedOver (c : Content) (d : D) (b : Bench D) : Type 0 where
    pub rule : G.rule b.delivery ≡ G.rule d
    pub room : G.room b.delivery ≡ G.room d
    pub layer : G.layer b.delivery ≡ G.layer d
    pub state : state_of b ≡ cleared
    pub sound : Sound c b

  abbrev pub Opened : Content → D → Result (Bench D) (AllocFailed D) → Type 0
  Opened c d (Ok b) = OpenedOver c d b
  Opened c d (Err back) = back.value ≡ d
