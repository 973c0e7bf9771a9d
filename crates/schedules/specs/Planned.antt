-- What is proved of the plan: for every scene with its laws, and for every chart over a delivery with this hold rule and this capacity.
use Rattle.std.specs.Prelude.{◌≡◌, ℕ, ◌*◌, ◌<◌, ◌≤◌, Bool, T, ◌↔◌, List, reverse, length}
use Rattle.chart.specs.Content.{Happening, sent, received, message_of, Content}
use Rattle.delivery.specs.declared.parcel.Tag.{Tag}
use Rattle.order.specs.Lists.{Has, Once}
use Rattle.order.specs.Order.{Scene, Enforced}
use Rattle.order.specs.Runs.{Run, Reversed, Reverses, peak}
use Rattle.order.specs.Reversible.{Reversible, LeastWaiting}
use Rattle.order.specs.Scenes.{scene_of, event_at, PairAt}
use Rattle.schedules.specs.Plan.{planned, sent_first, schedule_of}

-- a list of firings, the first one first, that has b before a as well as can be
pub record Planned (s : Scene) (a b : Happening) (firings : List Happening) : Type 0 where
  -- each may be fired after those before it, b comes before a, and every event of the scene stands there once
  pub reverses : Reverses s a b (reverse firings)
  pub once : Once firings
  pub events : (e : Happening) → (Has e firings ↔ (message_of e < s.messages))
  pub size : length firings ≡ 2 * s.messages
  -- and no run that has b before a has fewer waiting at once
  pub least : LeastWaiting s a b (peak (reverse firings))
  pub no_less : (r : List Happening) → Run s r → Reversed a b r → peak (reverse firings) ≤ peak r

-- the test tells which message is enforced to be sent before which
abbrev pub Tells : Scene → (ℕ → ℕ → Bool) → Type 0
Tells s before = (x y : ℕ) → y < s.messages → (T (before x y) ↔ Enforced s (sent x) (sent y))

pub record Plans (s : Scene) : Type 0 where
  pub told : Tells s (sent_first s)
  -- wherever an in event can come before another event, the plan has it so
  pub by_test :
      (before : ℕ → ℕ → Bool) → Tells s before → (a : Happening) (n : ℕ) → n < s.messages → Reversible s a (received n) →
      Planned s a (received n) (planned s before (message_of a) n)

pub record Scheduled (c : Content) (rule : Tag → Tag → Bool) (room : ℕ) : Type 0 where
  pub plans : Plans (scene_of c rule room)
  -- the second event of a reversible pair is an in event, and the schedule of the two messages has it first
  pub second : (a b : ℕ) → PairAt c a b → Reversible (scene_of c rule room) (event_at c a) (event_at c b) → event_at c b ≡ received (message_of (event_at c b))
  pub pairs :
      (a b : ℕ) → PairAt c a b → Reversible (scene_of c rule room) (event_at c a) (event_at c b) →
      Planned (scene_of c rule room) (event_at c a) (event_at c b) (schedule_of (scene_of c rule room) (message_of (event_at c a)) (message_of (event_at c b)))
  -- the events of the scene are those of the chart
  pub size : length c.events ≡ 2 * length c.messages
