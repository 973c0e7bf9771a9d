-- What a bench is opened over, what can be seen of it, and what a call does to that.
use Rattle.std.specs.Prelude.{◌≡◌, ℕ, ◌<◌, Bool, List, [], Some, None, Ok, Err, vec_items, Option, Result}
use Rattle.chart.specs.Content.{Content}
use Rattle.chart.specs.declared.numbers.EventId.{EventId}
use Rattle.delivery.specs.Answers.{Ground}
use Rattle.delivery.specs.declared.parcel.Parcel.{Parcel}
use Rattle.delivery.specs.declared.parcel.Tag.{Tag}
use Rattle.order.specs.Order.{Scene}
use Rattle.order.specs.Scenes.{scene_of}
use Rattle.bench.specs.declared.refusal.Refusal.{Refusal}
use Rattle.bench.specs.declared.schedule.Entry.{Entry}
use Rattle.bench.specs.declared.schedule.Script.{Script}
use Rattle.bench.specs.Refusals.{refusal_number}

-- a chart over a delivery: its hold rule, its capacity, and the layer that a refusal names
pub record Stage : Type 0 where
  pub chart : Content
  pub rule : Tag → Tag → Bool
  pub room : ℕ
  pub layer : ℕ → Ground → Option ℕ

abbrev pub scene_on : Stage → Scene
scene_on g = scene_of g.chart g.rule g.room

-- a play that is open: its schedule, and how many of its events were fired
pub record Play : Type 0 where
  pub entries : List Entry
  pub done : ℕ

abbrev pub play_at : Option ℕ → List Entry → Option Play
play_at None es = None
play_at (Some k) es = Some (record { entries = es; done = k })

abbrev pub play_of : Script → Option Play
play_of s = play_at s.done (vec_items s.entries)

-- the record, the waiting parcels, and the play, if one is open
pub record State : Type 0 where
  pub fired : List EventId
  pub waiting : List Parcel
  pub play : Option Play

abbrev pub cleared : State
cleared = record { fired = []; waiting = []; play = None }

-- of the refusals that apply, the one with the smallest number
abbrev pub Least : (Refusal → Type 0) → Refusal → Type 0
Least Applies f = Applies f × ((g : Refusal) → refusal_number g < refusal_number f → Applies g → ⊥)

-- a call in state s answers r and leaves the state t: it is accepted exactly if no refusal applies, and a refusal changes nothing
abbrev pub Does : {X : Type 0} → (Refusal → Type 0) → (X → State → Type 0) → State → Result X Refusal → State → Type 0
Does Applies Then s (Ok x) t = ((f : Refusal) → Applies f → ⊥) × Then x t
Does Applies Then s (Err f) t = Least Applies f × (t ≡ s)
