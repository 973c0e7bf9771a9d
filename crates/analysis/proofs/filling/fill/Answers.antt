use Rattle.std.proofs.Common.{◌≡◌, ◌*◌, length, subst, arith}
use Rattle.chart.specs.Charted.{content}
use Rattle.order.specs.Scenes.{scene_of}
use Rattle.analysis.specs.Filling.{Covers}
use Rattle.analysis.proofs.Asked.{chart_laws, as_many_messages}
use Rattle.analysis.proofs.Filled.{covers_all, filled}
use Rattle.analysis.proofs.filling.fill.Goals as goal

pub returns : goal.returns
returns g c =
    let chart = c.args.chart.now in
    let rule = g.D.Delivery.rule c.args.delivery.now in
    let room = g.D.Delivery.room c.args.delivery.now in
    let s = scene_of (content chart) rule room in
    let law = chart_laws chart rule room (g.met.D.Delivery.transitive c.args.delivery.now) (g.met.D.Delivery.some c.args.delivery.now) in
    let few = as_many_messages chart c.messages-messages.result.now c.messages-messages.ensures in
    let e : 2 * c.loop-m.m ≡ 2 * length (content chart).messages = omega arith in
    let within = c.loop-m.invariant.0 in
    let covers = covers_all s law c.loop-m.order (subst (Covers s c.loop-m.order) e c.loop-m.invariant.1) in
    record { within = within; covers = covers; filled = filled s law c.loop-m.order within covers }
