-- The whole promise, from what the calls ensure.
use Rattle.std.proofs.Common.{◌≡◌, ℕ, ◌≤◌, List, vec_items, Result, refl, ap, ◌∙◌, subst}
use Rattle.chart.specs.Charted.{content}
use Rattle.chart.specs.declared.charting.Chart.{Chart}
use Rattle.delivery.specs.declared.meaning.Delivery.{Ghosts}
use Rattle.order.specs.Verdict.{Judged}
use Rattle.order.specs.Runs.{Run}
use Rattle.order.specs.Scenes.{scene_of}
use Rattle.order.proofs.Scenes.{Transitive, laws}
use Rattle.order.proofs.Verdict.{judged, chart_laid}
use Rattle.bench.specs.Benches.{Sound, Same, OpenedOver, stage_of}
use Rattle.bench.specs.Records.{past}
use Rattle.bench.specs.States.{Stage, State}
use Rattle.bench.specs.declared.stand.Bench.{Bench}
use Rattle.analysis.specs.Races.{races_of}
use Rattle.analysis.specs.Reporting.{counted, reported}
use Rattle.analysis.specs.declared.refusals.ReportRefusal.{ReportRefusal}
use Rattle.scheduling.specs.Scheduling.{Schedules}
use Rattle.scheduling.specs.declared.refusals.ScheduleRefusal.{ScheduleRefusal}
use Rattle.promise.specs.Promise.{Reported, Scheduled, Recorded}
use Rattle.promise.specs.Rehearsed.{stage}
use Rattle.promise.specs.Sessions.{Session}
use Rattle.promise.specs.declared.calls.Call.{Call}
use Rattle.promise.specs.declared.calls.Answer.{Answer}
use Rattle.promise.proofs.Keeping.{reported_kept, scheduled_kept, recorded_kept, moved}

pub session_of :
    {g g' : Stage} {s s' t : State} {k k' l : ℕ} {calls : List Call} {answers : List Answer} →
    g ≡ g' → s ≡ s' → k ≡ k' → Session g s k calls answers t l → Session g' s' k' calls answers t l
session_of {g} {g'} {s} {s'} {t} {k} {k'} {l} {calls} {answers} p q r h =
    subst (λ (x : Stage). Session x s' k' calls answers t l) p
    (subst (λ (x : State). Session g x k' calls answers t l) q
    (subst (λ (x : ℕ). Session g s x calls answers t l) r h))

module _ {D : Type 0} (G : Ghosts D) (chart : Chart) (d : D) (transitive : Transitive (G.rule d)) (some : 1 ≤ G.room d) where
  all : Judged (content chart) (G.rule d) (G.room d)
  all = judged (content chart) (G.rule d) (G.room d) (chart_laid chart) (laws (content chart) (G.rule d) (G.room d) (chart_laid chart) transitive some)

  pub stage_of_lem : (b : Bench D) → OpenedOver G (content chart) d b → stage_of G (content chart) b ≡ stage G (content chart) d
  stage_of_lem b o = let p = o.rule in let q = o.room in let r = o.layer in cc

  module _ (opened bench : Bench D) (o : OpenedOver G (content chart) d opened) (same : Same G opened bench) where
    rule_is : (x : D) → x ≡ bench.delivery → G.rule x ≡ G.rule d
    rule_is x e = ap G.rule e ∙ same.rule ∙ o.rule

    room_is : (x : D) → x ≡ bench.delivery → G.room x ≡ G.room d
    room_is x e = ap G.room e ∙ same.room ∙ o.room

    pub reported_of :
        (x : D) → x ≡ bench.delivery → (old : List ℕ) (answer : Result ℕ ReportRefusal) (new : List ℕ) →
        answer ≡ counted (races_of (content chart) (G.rule x) (G.room x)) old → new ≡ reported (races_of (content chart) (G.rule x) (G.room x)) old →
        Reported (content chart) (G.rule d) (G.room d) old answer new
    reported_of x e old answer new p q =
        reported_kept (content chart) (G.rule d) (G.room d) all old answer new
        (moved (λ r n. answer ≡ counted (races_of (content chart) r n) old) (rule_is x e) (room_is x e) p)
        (moved (λ r n. new ≡ reported (races_of (content chart) r n) old) (rule_is x e) (room_is x e) q)

    pub scheduled_of :
        (x : D) → x ≡ bench.delivery → (a b : ℕ) (old : List ℕ) (answer : Result ℕ ScheduleRefusal) (new : List ℕ) →
        Schedules (content chart) (G.rule x) (G.room x) a b old answer new → Scheduled (content chart) (G.rule d) (G.room d) a b old answer new
    scheduled_of x e a b old answer new h =
        scheduled_kept (content chart) (G.rule d) (G.room d) all a b old answer new
        (moved (λ r n. Schedules (content chart) r n a b old answer new) (rule_is x e) (room_is x e) h)

    pub recorded_of : Sound G (content chart) bench → Recorded (content chart) (G.rule d) (G.room d) (vec_items bench.log.fired)
    recorded_of s =
        recorded_kept (content chart) (G.rule d) (G.room d) all (vec_items bench.log.fired)
        (moved (λ r n. Run (scene_of (content chart) r n) (past (content chart) (vec_items bench.log.fired))) (rule_is bench.delivery refl) (room_is bench.delivery refl) s.run)
