use Rattle.chart.specs.Charted.{content}
use Rattle.order.proofs.Scenes.{laws}
use Rattle.order.proofs.Verdict.{chart_laid}
use Rattle.schedules.proofs.Charts.{scheduled}
use Rattle.schedules.proofs.standing.schedules_stand.Goals as goal

pub returns : goal.returns
returns g c =
    let d = c.args.delivery.now in
    let chart = c.args.chart.now in
    let rule = g.D.Delivery.rule d in
    let room = g.D.Delivery.room d in
    scheduled (content chart) rule room (chart_laid chart)
    (laws (content chart) rule room (chart_laid chart) (g.met.D.Delivery.transitive d) (g.met.D.Delivery.some d))
