-- What is proved of a chart over a delivery with this hold rule and this capacity.
use Rattle.std.specs.Prelude.{◌≡◌, ℕ, ◌<◌, ◌≤◌, Bool, ◌↔◌, List, length}
use Rattle.chart.specs.Content.{Happening, Content, sender_of, receiver_of}
use Rattle.delivery.specs.declared.parcel.Tag.{Tag}
use Rattle.order.specs.Lists.{Has}
use Rattle.order.specs.Runs.{Run, Complete, Reversed, Reverses, CanReverse, peak}
use Rattle.order.specs.Reversible.{Reversible, LeastWaiting}
use Rattle.order.specs.Statements.{Theory}
use Rattle.order.specs.Scenes.{scene_of, tag_of, number_of, event_at, PairAt, AllFired}
use Rattle.order.specs.Report.{Reports, report}

pub record Judged (c : Content) (rule : Tag → Tag → Bool) (room : ℕ) : Type 0 where
  -- the numbers of a tag are those of the message's sender and receiver, and an event's number is its own
  pub tagged : (m : ℕ) → m < length c.messages → ((tag_of c m).sender.number ≡ sender_of c m) × ((tag_of c m).receiver.number ≡ receiver_of c m)
  pub numbers : (i : ℕ) → i < length c.events → number_of c (event_at c i) ≡ i
  -- a record is complete exactly if it has each event of the chart
  pub whole : (r : List Happening) → (Complete (scene_of c rule room) r ↔ AllFired c r)
  -- what holds of every scene
  pub theory : Theory (scene_of c rule room)
  -- a pair is reversible exactly if some complete run has its second event first
  pub pairs : (a b : ℕ) → PairAt c a b → (Reversible (scene_of c rule room) (event_at c a) (event_at c b) ↔ CanReverse (scene_of c rule room) (event_at c a) (event_at c b))
  -- a pair that stands reversed in a run, complete or not, is reversible
  pub needed : (a b : ℕ) (r : List Happening) → PairAt c a b → Run (scene_of c rule room) r → Reversed (event_at c a) (event_at c b) r → Reversible (scene_of c rule room) (event_at c a) (event_at c b)
  -- a reversible pair is reversed by a complete run of the least peak
  pub least_peak :
      (a b : ℕ) → PairAt c a b → Reversible (scene_of c rule room) (event_at c a) (event_at c b) →
      (k : ℕ) × LeastWaiting (scene_of c rule room) (event_at c a) (event_at c b) k
      × ((r : List Happening) × Reverses (scene_of c rule room) (event_at c a) (event_at c b) r × (peak r ≡ k))
      × ((r : List Happening) → Run (scene_of c rule room) r → Reversed (event_at c a) (event_at c b) r → k ≤ peak r)
  -- the report has exactly the reversible pairs, each once and in order
  pub reported : Reports c rule room (report c rule room)
  -- which are the pairs that some complete run reverses
  pub by_runs : (a b : ℕ) → (Has (a, b) (report c rule room) ↔ (PairAt c a b × CanReverse (scene_of c rule room) (event_at c a) (event_at c b)))
