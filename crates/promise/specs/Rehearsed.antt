-- What a rehearsal answers and leaves.
use Rattle.std.specs.Prelude.{◌≡◌, ℕ, List, length, Ok, Err, vec_items, vec_len, Result}
use Rattle.chart.specs.Content.{Content}
use Rattle.delivery.specs.declared.meaning.Delivery.{Ghosts}
use Rattle.bench.specs.States.{Stage, cleared}
use Rattle.bench.specs.Benches.{state_of}
use Rattle.bench.specs.declared.stand.playing.Slip.{Slip}
use Rattle.promise.specs.declared.calls.Call.{Call}
use Rattle.promise.specs.declared.rehearsing.Rehearsal.{Rehearsal}
use Rattle.promise.specs.declared.rehearsing.Unopened.{Unopened}
use Rattle.promise.specs.Sessions.{Session}
use Rattle.promise.specs.Promise.{Reported, Scheduled, Recorded}

module _ {D : Type 0} (G : Ghosts D) (c : Content) (d : D) where
  -- the chart over the delivery that was handed in
  abbrev pub stage : Stage
  stage = record { chart = c; rule = G.rule d; room = G.room d; layer = G.layer d }

  -- the whole promise: the calls were made on a cleared bench over chart and delivery, each answered as the bench does; and
  -- report, schedule and record agree
  pub record Kept (k : ℕ) (calls : List Call) (a b : ℕ) (report_old schedule_old : List ℕ) (x : Rehearsal D) (report_new schedule_new : List ℕ) : Type 0 where
    pub session : Session stage cleared k calls (vec_items x.answers) (state_of G x.bench) (vec_len x.slips)
    pub reported : Reported c (G.rule d) (G.room d) report_old x.report report_new
    pub scheduled : Scheduled c (G.rule d) (G.room d) a b schedule_old x.schedule schedule_new
    pub recorded : Recorded c (G.rule d) (G.room d) (state_of G x.bench).fired

  -- without memory for the bench and the answers all comes back as it was
  abbrev pub Rehearsed : List Slip → List Call → ℕ → ℕ → List ℕ → List ℕ → Result (Rehearsal D) (Unopened D) → List ℕ → List ℕ → Type 0
  Rehearsed slips calls a b report_old schedule_old (Ok x) report_new schedule_new =
      Kept (length slips) calls a b report_old schedule_old x report_new schedule_new
  Rehearsed slips calls a b report_old schedule_old (Err u) report_new schedule_new =
      (u.delivery ≡ d) × (vec_items u.slips ≡ slips) × (report_new ≡ report_old) × (schedule_new ≡ schedule_old)
