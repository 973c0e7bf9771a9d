use Rattle.std.proofs.Common.{◌≡◌, ◌+◌, ◌<◌, ◌≤◌, true, false, ◌||◌, length, sym, ap, ◌∙◌, subst, eqb-true, arith}
use Rattle.std.proofs.lemmas.Bool.{eqb-false}
use Rattle.chart.specs.Charted.{content}
use Rattle.chart.specs.Content.{Happening, is_sent}
use Rattle.chart.specs.declared.pieces.Event.TheVariants.{Out}
use Rattle.matrix.specs.Places.{place_of}
use Rattle.matrix.specs.Models.{has}
use Rattle.matrix.specs.declared.sets.EventSet.{EventSet}
use Rattle.order.specs.Scenes.{instance_of, event_at}
use Rattle.order.proofs.Verdict.{chart_laid}
use Rattle.analysis.specs.Filling.{reaches}
use Rattle.analysis.proofs.Asked.{chart_laws, small, as_many_events, event_read, event_known}
use Rattle.analysis.proofs.Filled.{Passing, passing_yes, passing_no, passing_stops, passing_all}
use Rattle.analysis.proofs.Same.{equal_events}
use Rattle.analysis.proofs.setting.Setting.row_of_out.Goals as goal
use Rattle.analysis.proofs.setting.Setting.row_of_out.Goals.{then-eq-2, else-eq-2}

pub instance_of-requires : goal.instance_of-requires
instance_of-requires g c = event_known c.args.self.now.chart.now c.events-event-items.result.now c.events-event-items.ensures c.loop-event.event-index _ c.loop-event-test.true

pub join-requires : goal.join-requires
join-requires g c =
    let chart = c.args.self.now.chart.now in
    small chart _ (event_known chart c.events-event-items.result.now c.events-event-items.ensures c.loop-event.event-index _ c.loop-event-test.true)

pub loop-event-preserved : goal.loop-event-preserved
loop-event-preserved g c =
    let chart = c.args.self.now.chart.now in
    let d = content chart in
    let o = c.args.order.now in
    let n = c.args.message.0 in
    let i = c.loop-event.event-index in
    let few = as_many_events chart c.events-event-items.result.now c.events-event-items.ensures in
    let l : i < length d.events = omega arith in
    let here = event_read chart c.events-event-items.result.now c.events-event-items.ensures i _ c.loop-event-test.true in
    let other : is_sent n (event_at d i) ≡ false = subst (λ (f : Happening). is_sent n f ≡ false) here (sym (equal_events _ (Out c.args.message)) ∙ sym c.if-eq.ensures) in
    let stands : c.instance_of.result.0 ≡ instance_of d (event_at d i) = c.instance_of.ensures ∙ ap (instance_of d) here in
    elim c.if-eq-2.branch [
      | then-eq-2 w ↦
          passing_yes d o n i l other c.loop-event.row c.if-eq-2.row (sym stands ∙ eqb-true _ _ (sym w.if-eq-2.ensures) ∙ c.instance_of-sender.ensures)
          (λ e. ap (λ (r : EventSet). has r (place_of e)) w.row-is ∙ w.join.ensures e ∙ ap (λ (f : Happening). has c.loop-event.row (place_of e) || reaches o e f) here)
          c.loop-event.invariant
      | else-eq-2 w ↦
          subst (λ (r : EventSet). Passing d o n r (i + 1)) (sym w.row-is)
          (passing_no d o n i l other c.loop-event.row (λ e. eqb-false _ _ (sym w.if-eq-2.ensures) (stands ∙ e ∙ sym c.instance_of-sender.ensures)) c.loop-event.invariant)
    ]

pub returns-then-eq : goal.returns-then-eq
returns-then-eq g c =
    let chart = c.args.self.now.chart.now in
    let d = content chart in
    let n = c.args.message.0 in
    let i = c.loop-event.event-index in
    let delivery = c.args.self.now.delivery.now in
    let few = as_many_events chart c.events-event-items.result.now c.events-event-items.ensures in
    let l : i < length d.events = omega arith in
    let here = event_read chart c.events-event-items.result.now c.events-event-items.ensures i _ c.loop-event-test.true in
    let this : is_sent n (event_at d i) ≡ true = subst (λ (f : Happening). is_sent n f ≡ true) here (sym (equal_events _ (Out c.args.message)) ∙ sym c.if-eq.ensures) in
    let law = chart_laws chart (g.D.Delivery.rule delivery) (g.D.Delivery.room delivery) (g.met.D.Delivery.transitive delivery) (g.met.D.Delivery.some delivery) in
    passing_stops d c.args.order.now n (g.D.Delivery.rule delivery) (g.D.Delivery.room delivery) (chart_laid chart) law c.requires c.loop-event.row i c.loop-event.invariant l this

pub returns : goal.returns
returns g c =
    let chart = c.args.self.now.chart.now in
    let d = content chart in
    let i = c.loop-event.event-index in
    let delivery = c.args.self.now.delivery.now in
    let few = as_many_events chart c.events-event-items.result.now c.events-event-items.ensures in
    let l : length d.events ≤ i = omega arith in
    let law = chart_laws chart (g.D.Delivery.rule delivery) (g.D.Delivery.room delivery) (g.met.D.Delivery.transitive delivery) (g.met.D.Delivery.some delivery) in
    passing_all d c.args.order.now c.args.message.0 (g.D.Delivery.rule delivery) (g.D.Delivery.room delivery) (chart_laid chart) law c.requires c.loop-event.row i c.loop-event.invariant l
