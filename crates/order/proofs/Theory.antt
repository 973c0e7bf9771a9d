-- All that is proved of every scene with its laws.
use Rattle.std.proofs.Common.{◌∷◌, subst}
use Rattle.order.specs.Order.{Scene, Laws}
use Rattle.order.specs.Runs.{Run, Complete}
use Rattle.order.specs.Pass.{rows}
use Rattle.order.specs.Statements.{Completes, Theory}
use Rattle.order.proofs.Order.{along}
use Rattle.order.proofs.Pass.{all_right, enforces_is, enforced?, crowd_of, one_size, reverses_is}
use Rattle.order.proofs.Runs.{run_part, run_once, run_inside, sound}
use Rattle.order.proofs.Phases.{complete, onward_list}
use Rattle.order.proofs.Exact.{sufficient, needed, sends_wait}
use Rattle.order.proofs.Peaks.{least_peak}

module _ (s : Scene) (law : Laws s) where
  completes : Completes s
  completes r run =
      let t = complete s law r run in
      let u = onward_list t.2 in
      (u.0, subst (λ l. Run s l) u.1 t.1, subst (λ l. Complete s l) u.1 t.3)

  pub theory : Theory s
  theory = record {
    sound = λ e f q r d run. sound s d r (run_part s q (f ∷ r) run);
    proper = λ r run. (run_once s r run, run_inside s r run);
    completes = completes;
    along = λ e f d. along s law d;
    decidable = enforced? s law;
    one_pass = enforces_is s law (rows s s.messages) (all_right s law);
    one_crowd = λ m n i d. (crowd_of s law m n d, λ hs k. one_size s law (rows s s.messages) (all_right s law) m n hs i d k);
    tested = reverses_is s law;
    exact = λ a n i. (sufficient s law n i a, λ (r, v). needed s law a n r v.run v.reversed);
    sends_wait = sends_wait s law;
    needed = needed s law;
    least_peak = least_peak s law;
  }
