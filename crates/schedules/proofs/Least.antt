-- The plan fires every event once, and has no more waiting at once than it must: with room for just so many it is still a run.
use Rattle.std.proofs.Common.{◌≡◌, ℕ, ◌+◌, ◌*◌, ◌<◌, ◌≤◌, Bool, false, List, [], ◌++◌, reverse, length, ap, ◌∙◌, subst, inl, inr, ⊎_elim, arith, length-append}
use Rattle.chart.specs.Content.{Happening, sent, received, message_of}
use Rattle.order.specs.Lists.{Has}
use Rattle.order.specs.Order.{Scene, Laws}
use Rattle.order.specs.Runs.{Run, Complete, Reverses, peak}
use Rattle.order.specs.Reversible.{Reversible, LeastWaiting}
use Rattle.order.specs.Pass.{rows}
use Rattle.order.proofs.Lists.{without_lt}
use Rattle.order.proofs.Pass.{all_right, enforces_is}
use Rattle.order.proofs.Runs.{run_once, run_inside}
use Rattle.order.proofs.Peaks.{narrowed, order_kept, order_back, crowd_kept, narrowed_laws, run_back, peak_room, least_peak}
use Rattle.schedules.specs.Plan.{pass, leads, follows, stuck, early, late, prompt, kept, other, planned}
use Rattle.schedules.specs.Planned.{Planned, Tells, Plans}
use Rattle.schedules.proofs.Passes.{has_back, once_back, four_lengths}
use Rattle.schedules.proofs.Plans.{plan_reverses}

plan_size : (s : Scene) (before : ℕ → ℕ → Bool) (m n : ℕ) → length (planned s before m n) ≡ 2 * s.messages
plan_size s before m n =
    let k = s.messages in
    let first = pass (early s before m n) (early s before m n) k in
    let second = pass (late s before m n) (prompt s before m n) k in
    let third = pass (λ h. false) (kept s before m n) k in
    let last = pass (other s before m n) (other s before m n) k in
    length-append first (second ++ (third ++ last))
    ∙ ap (λ v. length first + v) (length-append second (third ++ last) ∙ ap (λ v. length second + v) (length-append third last))
    ∙ four_lengths (leads s before m n) (follows s before m n) (stuck s before m n) k

module _ (s : Scene) (law : Laws s) (before : ℕ → ℕ → Bool) (tells : Tells s before) (a : Happening) (n : ℕ) (i : n < s.messages) (v : Reversible s a (received n)) where
  abbrev plan : List Happening
  plan = planned s before (message_of a) n

  -- the two are reversible with room for just k too
  narrow : (k : ℕ) → LeastWaiting s a (received n) k → (0 < k) × Reversible (narrowed s k) a (received n)
  narrow k (inl (nd, e)) = (omega arith, ((λ d. v.0 (order_back s k d)), inl (λ d. nd (order_back s k d))))
  narrow k (inr (d, (hs, c, e))) =
      let some = without_lt (message_of a) hs c.first in
      (omega arith, ((λ d. v.0 (order_back s k d)), inr (hs, crowd_kept s k c, omega arith)))

  narrow_tells : (k : ℕ) → Tells (narrowed s k) before
  narrow_tells k x y l = ((λ t. order_kept s k ((tells x y l).0 t)), λ d. (tells x y l).1 (order_back s k d))

  narrow_plan : (k : ℕ) → LeastWaiting s a (received n) k → Reverses (narrowed s k) a (received n) (reverse plan)
  narrow_plan k w =
      let t = narrow k w in
      plan_reverses (narrowed s k) (narrowed_laws s k law t.0) before (narrow_tells k) a n i t.1

  plan_stands : Planned s a (received n) plan
  plan_stands =
      let t = least_peak s law a n i v in
      let k = t.0 in
      let w = narrow_plan k t.1 in
      let f : peak t.2.0 ≤ s.capacity = (peak_room s t.2.0 t.2.1.run).1 in
      let g : peak t.2.0 ≡ k = t.2.2 in
      let run : Run s (reverse plan) = run_back s k (omega arith) (reverse plan) w.run in
      let high : peak (reverse plan) ≤ k = (peak_room (narrowed s k) (reverse plan) w.run).1 in
      let low : k ≤ peak (reverse plan) = t.3 (reverse plan) run w.reversed in
      let e : k ≡ peak (reverse plan) = omega arith in
      record {
        reverses = record { run = run; complete = w.complete; reversed = w.reversed };
        once = (once_back plan [] (run_once s (reverse plan) run)).1;
        events = λ x. ((λ h. run_inside s (reverse plan) run x ((has_back x plan []).1 (inl h))), λ l. ⊎_elim (λ h. h) absurd ((has_back x plan []).0 (there x l w.complete)));
        size = plan_size s before (message_of a) n;
        least = subst (λ j. LeastWaiting s a (received n) j) e t.1;
        no_less = λ r run z. subst (λ j. j ≤ peak r) e (t.3 r run z);
      }
    where
      there : (x : Happening) → message_of x < s.messages → Complete s (reverse plan) → Has x (reverse plan)
      there (sent m) l c = (c m l).0
      there (received m) l c = (c m l).1

pub plans : (s : Scene) → Laws s → Plans s
plans s law = record {
  told = λ x y l. enforces_is s law (rows s s.messages) (all_right s law) (sent x) (sent y) l;
  by_test = plan_stands s law;
}
