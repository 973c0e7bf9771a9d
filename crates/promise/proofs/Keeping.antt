-- Report, schedule and record agree, since all three go by the runs.
use Rattle.std.proofs.Common.{◌≡◌, ℕ, Bool, List, ◌++◌, reverse, Ok, Err, Result, subst, inl, inr}
use Rattle.chart.specs.Content.{Happening, Content}
use Rattle.chart.specs.declared.numbers.EventId.{EventId}
use Rattle.delivery.specs.declared.parcel.Tag.{Tag}
use Rattle.order.specs.Runs.{Run, Reverses}
use Rattle.order.specs.Scenes.{scene_of, event_at}
use Rattle.order.specs.Verdict.{Judged}
use Rattle.bench.specs.Records.{past}
use Rattle.analysis.specs.Races.{races_of}
use Rattle.analysis.specs.Reporting.{counted, reported}
use Rattle.analysis.specs.declared.refusals.ReportRefusal.{ReportRefusal}
use Rattle.scheduling.specs.Scheduling.{order, Schedules}
use Rattle.scheduling.specs.declared.refusals.ScheduleRefusal.{ScheduleRefusal}
use Rattle.scheduling.specs.declared.refusals.ScheduleRefusal.TheVariants.{NotPair, NotReversible, TooShort}
use Rattle.promise.specs.Promise.{Reversal, Reported, Scheduled, Recorded}

module _ (c : Content) (rule : Tag → Tag → Bool) (room : ℕ) (j : Judged c rule room) where
  -- a complete run that reverses a pair fires each event of the chart once
  reversal : (a b : ℕ) (r : List Happening) → Reverses (scene_of c rule room) (event_at c a) (event_at c b) r → Reversal c rule room a b r
  reversal a b r v = record { accepted = v.run; whole = (j.whole r).0 v.complete; once = (j.theory.proper r v.run).0; reversed = v.reversed }

  back : (a b : ℕ) (r : List Happening) → Reversal c rule room a b r → Reverses (scene_of c rule room) (event_at c a) (event_at c b) r
  back a b r v = record { run = v.accepted; complete = (j.whole r).1 v.whole; reversed = v.reversed }

  pub reported_kept :
      (old : List ℕ) (answer : Result ℕ ReportRefusal) (new : List ℕ) →
      answer ≡ counted (races_of c rule room) old → new ≡ reported (races_of c rule room) old → Reported c rule room old answer new
  reported_kept old answer new p q = record {
    answered = p;
    written = q;
    rising = j.reported.rising;
    exact = λ a b. (
      (λ h. let x = (j.by_runs a b).0 h in (x.0, (x.1.0, reversal a b x.1.0 x.1.1))),
      λ (p, (r, v)). (j.by_runs a b).1 (p, (r, back a b r v)),
    );
  }

  pub scheduled_kept :
      (a b : ℕ) (old : List ℕ) (answer : Result ℕ ScheduleRefusal) (new : List ℕ) →
      Schedules c rule room a b old answer new → Scheduled c rule room a b old answer new
  scheduled_kept a b old (Ok count) new g =
      ((j.reported.exact a b).1 (g.pair, g.turns), g.counted, (order c rule room a b, reversal a b (reverse (order c rule room a b)) g.planned.reverses, g.written))
  scheduled_kept a b old (Err NotPair) new g = (inl (λ h. g.0 ((j.reported.exact a b).0 h).0), g.1)
  scheduled_kept a b old (Err NotReversible) new g = (inl (λ h. g.1 ((j.reported.exact a b).0 h).1), g.2)
  scheduled_kept a b old (Err TooShort) new g = (inr g.2, g.3)

  pub recorded_kept : (fired : List EventId) → Run (scene_of c rule room) (past c fired) → Recorded c rule room fired
  recorded_kept fired run = record {
    unreported = λ a b p unlisted v. unlisted ((j.reported.exact a b).1 (p, j.needed a b (past c fired) p run v));
    completes = let x = j.theory.completes (past c fired) run in (x.0, x.1, (j.whole (x.0 ++ past c fired)).0 x.2);
  }

-- what holds over one rule and one capacity holds over equal ones
pub moved : (P : (Tag → Tag → Bool) → ℕ → Type 0) {rule rule' : Tag → Tag → Bool} {room room' : ℕ} → rule ≡ rule' → room ≡ room' → P rule room → P rule' room'
moved P {rule} {rule'} {room} {room'} p q h = subst (λ n. P rule' n) q (subst (λ r. P r room) p h)
