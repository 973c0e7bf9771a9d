use Rattle.std.proofs.Common.{◌≡◌, ℕ, ◌+◌, [], ◌∷◌, ◌++◌, Some, Ok, vec_items, slice_get, sym, ap, ◌∙◌, subst}
use Rattle.std.proofs.lemmas.Option.{slice_get_within, get_or_from_slice_get}
use Rattle.bench.specs.Benches.{InStep, stage_of, state_of}
use Rattle.bench.specs.Firings.{Tried}
use Rattle.bench.specs.Plays.{BarsNext, Onward, next_of}
use Rattle.bench.specs.Schedules.{entry}
use Rattle.bench.specs.States.{Play, play_at, State, Does}
use Rattle.bench.specs.declared.schedule.Entry.{Entry}
use Rattle.bench.specs.declared.schedule.Script.{Script}
use Rattle.bench.proofs.Standing.{same_state, goes, unchanged}
use Rattle.bench.proofs.Playing.{next_free, step_more}
use Rattle.bench.proofs.stand.Bench.advance.Goals as goal

-- the play that is open at a place
abbrev playing : Script → ℕ → Play
playing s done = record { entries = vec_items s.entries; done = done }

-- the event that was read is the next one
next_read : (s : Script) (done : ℕ) (x : Entry) → slice_get (vec_items s.entries) done ≡ Some x → x.event ≡ next_of (playing s done)
next_read s done x here = ap (λ (y : Entry). y.event) (sym (get_or_from_slice_get (vec_items s.entries) done x (entry 0 0) here))

pub returns-in_err-fire_next-clause-remains : goal.returns-in_err-fire_next-clause-remains
returns-in_err-fire_next-clause-remains g c =
    let fired = c.fire_next.ensures in
    record {
      same = fired.same;
      sound = λ content s. unchanged g.D.Delivery content c.args.self.now c.fire_next.new.self s fired.same (fired.starts s.started) (c.in_err-fire_next.ensures.fires content s).1;
    }

pub returns-clause-remains : goal.returns-clause-remains
returns-clause-remains g c =
    let this = c.args.self.now in
    let after = c.fire_next.new.self in
    let done = c.in_ok-done.done in
    let x = c.in_ok-entry.entry in
    let fired = c.fire_next.ensures in
    let open_at = ap (λ k. play_at k (vec_items this.play.entries)) c.in_ok-done.ensures.ok_part in
    let here = sym c.entry.ensures ∙ c.in_ok-entry.ensures.ok_part in
    record {
      same = record { layout = fired.same.layout; rule = fired.same.rule; room = fired.same.room; layer = fired.same.layer };
      sound = λ content s.
          let done-it = c.in_ok-fire_next.ensures.fires content s in
          let r : vec_items after.log.fired ≡ vec_items this.log.fired ++ x.event ∷ [] = ap (λ (q : State). q.fired) done-it.1.1 in
          goes g.D.Delivery content this _ s (record { layout = fired.same.layout; rule = fired.same.rule; room = fired.same.room; layer = fired.same.layer }) (fired.starts s.started)
          x.event (g.met.D.Delivery.transitive this.delivery) (g.met.D.Delivery.some this.delivery) done-it.1.0 r (ap (λ (q : State). q.waiting) done-it.1.1)
          (subst (λ q. InStep q (play_at (Some (done + 1)) (vec_items after.play.entries))) (sym r)
          (subst (λ (t : Script). InStep (vec_items this.log.fired ++ x.event ∷ []) (play_at (Some (done + 1)) (vec_items t.entries))) (sym fired.play)
          (step_more (vec_items this.log.fired) (playing this.play done) x.event (subst (λ p. InStep (vec_items this.log.fired) p) open_at s.in_step) (slice_get_within _ done x here) (next_read this.play done x here))));
    }

pub returns-clause-advances : goal.returns-clause-advances
returns-clause-advances g c = λ content s.
    let this = c.args.self.now in
    let after = c.fire_next.new.self in
    let done = c.in_ok-done.done in
    let x = c.in_ok-entry.entry in
    let open_at = ap (λ k. play_at k (vec_items this.play.entries)) c.in_ok-done.ensures.ok_part in
    let here = sym c.entry.ensures ∙ c.in_ok-entry.ensures.ok_part in
    let st = stage_of g.D.Delivery content this in
    let now = state_of g.D.Delivery this in
    let done-it = subst (λ e. Tried st now e (Ok tt) (state_of g.D.Delivery after)) (next_read this.play done x here) (c.in_ok-fire_next.ensures.fires content s) in
    let then : State = record { fired = vec_items after.log.fired; waiting = g.D.Delivery.waiting after.delivery; play = play_at (Some (done + 1)) (vec_items after.play.entries) } in
    subst (λ p. Does {X = Unit {0}} (BarsNext st now p) (λ _. Onward st now p) now (Ok tt) then) (sym open_at) (
      next_free st now (playing this.play done) (slice_get_within _ done x here) done-it.0,
      (done-it.1.0, same_state (ap (λ (q : State). q.fired) done-it.1.1) (ap (λ (q : State). q.waiting) done-it.1.1) (ap (λ (t : Script). play_at (Some (done + 1)) (vec_items t.entries)) c.fire_next.ensures.play)),
    )
