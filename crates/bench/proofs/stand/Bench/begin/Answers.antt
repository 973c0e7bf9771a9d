use Rattle.std.proofs.Common.{◌≡◌, ℕ, ◌*◌, ◌<◌, Bool, true, eqb, List, [], length, Some, vec_items, vec_len, Vec, sym, refl, ap, ◌∙◌, subst, inr, arith}
use Rattle.std.proofs.lemmas.List.{nil_from_length}
use Rattle.std.proofs.lemmas.Bool.{eqb-true}
use Rattle.std.specs.declared.alloc.Global.{Global}
use Rattle.chart.specs.declared.numbers.EventId.{EventId}
use Rattle.bench.specs.Benches.{stage_of, state_of}
use Rattle.bench.specs.Schedules.{Cut, BadAt, FirstBad}
use Rattle.bench.specs.States.{play_at}
use Rattle.bench.specs.declared.schedule.Entry.{Entry}
use Rattle.bench.proofs.Copies.{copy_length}
use Rattle.bench.proofs.Standing.{same_state, open_same, unseen}
use Rattle.bench.proofs.Playing.{begin_bad, begin_good}
use Rattle.bench.proofs.stand.Bench.begin.Goals as goal

emptied : (v : Vec EventId Global) (b : Bool) → b ≡ eqb (vec_len v) 0 → b ≡ true → vec_items v ≡ []
emptied v b is left = nil_from_length (vec_items v) (sym v.ok.0 ∙ eqb-true (vec_len v) 0 (sym is ∙ left))

pub returns-in-Some-clause-begins : goal.returns-in-Some-clause-begins
returns-in-Some-clause-begins g c = λ content s.
    let this = c.args.self.now in
    let bytes = c.args.schedule.now in
    let shut = c.in_ok-must_be_closed.ensures in
    let closed = open_same this.play.done (vec_items this.play.entries) ∙ shut in
    let none = emptied this.log.fired c.is_empty.result c.is_empty.ensures c.if-not-is_empty.false in
    let cut = subst (λ o. Cut bytes c.len.result o) c.in_ok-records.ensures.ok_part c.records_of.ensures in
    let n = copy_length content (vec_items this.log.layout.places) s.copy in
    let long : length bytes ≡ 2 * length content.events = omega (arith, cut.0, c.len.ensures, this.log.layout.places.ok.0) in (
      begin_bad (stage_of g.D.Delivery content this) (state_of g.D.Delivery this) bytes closed none c.in-Some.place (inr (long, subst (λ es. FirstBad content es c.in-Some.place) cut.2 (c.in-Some.ensures.reads content s.copy))),
      same_state refl refl (unseen this.play c.load.new.self shut c.load.ensures.done),
    )

pub returns-clause-begins : goal.returns-clause-begins
returns-clause-begins g c = λ content s.
    let this = c.args.self.now in
    let bytes = c.args.schedule.now in
    let closed = open_same this.play.done (vec_items this.play.entries) ∙ c.in_ok-must_be_closed.ensures in
    let none = emptied this.log.fired c.is_empty.result c.is_empty.ensures c.if-not-is_empty.false in
    let cut = subst (λ o. Cut bytes c.len.result o) c.in_ok-records.ensures.ok_part c.records_of.ensures in
    let n = copy_length content (vec_items this.log.layout.places) s.copy in
    let long : length bytes ≡ 2 * length content.events = omega (arith, cut.0, c.len.ensures, this.log.layout.places.ok.0) in
    let read = c.in_default.ensures.reads content s.copy in (
      begin_good (stage_of g.D.Delivery content this) (state_of g.D.Delivery this) bytes closed none long (subst (λ es. (k : ℕ) → k < length es → BadAt content es k → ⊥) cut.2 read.1),
      same_state refl refl (ap (λ (es : List Entry). play_at (Some 0) es) (read.0 ∙ cut.2)),
    )
