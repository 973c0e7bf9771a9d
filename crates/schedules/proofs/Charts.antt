-- The schedules of a chart over a delivery.
use Rattle.std.proofs.Common.{◌≡◌, ℕ, zero, suc, ◌*◌, ◌<◌, Bool, length, count_by, refl, subst, arith}
use Rattle.chart.specs.Content.{Happening, sent, received, message_of, Content, is_sending, is_received}
use Rattle.chart.proofs.Counting.{sum_below, sum_same}
use Rattle.chart.proofs.Numbering.{all_events}
use Rattle.delivery.specs.declared.parcel.Tag.{Tag}
use Rattle.order.specs.Order.{Scene, Laws}
use Rattle.order.specs.Reversible.{Reversible}
use Rattle.order.specs.Scenes.{Laid, scene_of, event_at, PairAt}
use Rattle.order.proofs.Tests.{from_true}
use Rattle.order.proofs.Exact.{sends_wait}
use Rattle.order.proofs.Scenes.{event_inside, pair_above}
use Rattle.schedules.specs.Plan.{sent_first, schedule_of}
use Rattle.schedules.specs.Planned.{Planned, Scheduled}
use Rattle.schedules.proofs.Least.{plans}

sum_ones : (k : ℕ) → sum_below (λ m. 1) k ≡ k
sum_ones zero = refl
sum_ones (suc k) = let ih = sum_ones k in omega arith

module _ (c : Content) (rule : Tag → Tag → Bool) (room : ℕ) (laid : Laid c) (law : Laws (scene_of c rule room)) where
  abbrev s : Scene
  s = scene_of c rule room

  -- each message has two events
  two_each : length c.events ≡ 2 * length c.messages
  two_each =
      let k = length c.messages in
      let out : count_by is_sending c.events ≡ k = laid.all_sent in
      let all = all_events c.events 0 k laid.is_numbered (omega arith) in
      let back = sum_same (λ m. count_by (is_received m) c.events) (λ m. 1) k laid.received_once in
      let ones = sum_ones k in
      omega arith

  module _ (a b : ℕ) (p : PairAt c a b) where
    -- an out event never comes before what is drawn above it
    is_received_lem : (f : Happening) → event_at c b ≡ f → Reversible s (event_at c a) f → f ≡ received (message_of f)
    is_received_lem (sent n) e v = absurd ((sends_wait s law (event_at c a) n (from_true _ (pair_above c laid a b n p e))).0 v)
    is_received_lem (received n) e v = refl

    pair_plan : (f : Happening) → event_at c b ≡ f → Reversible s (event_at c a) f → Planned s (event_at c a) f (schedule_of s (message_of (event_at c a)) (message_of f))
    pair_plan (sent n) e v = absurd ((sends_wait s law (event_at c a) n (from_true _ (pair_above c laid a b n p e))).0 v)
    pair_plan (received n) e v =
        (plans s law).by_test (sent_first s) (plans s law).told (event_at c a) n (subst (λ x. message_of x < length c.messages) e (event_inside c laid b p.inside)) v

  pub scheduled : Scheduled c rule room
  scheduled = record {
    plans = plans s law;
    second = λ a b p v. is_received_lem a b p (event_at c b) refl v;
    pairs = λ a b p v. pair_plan a b p (event_at c b) refl v;
    size = two_each;
  }
