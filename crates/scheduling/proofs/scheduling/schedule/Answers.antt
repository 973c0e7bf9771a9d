use Rattle.std.proofs.Common.{sym, ◌∙◌, rules, arith}
use Rattle.chart.specs.Charted.{content}
use Rattle.analysis.proofs.Asked.{as_many_events}
use Rattle.scheduling.proofs.Orders.{unturned, long, gives}
use Rattle.scheduling.proofs.scheduling.schedule.Goals as goal

pub returns-in_err-outlook : goal.returns-in_err-outlook
returns-in_err-outlook g c =
    let d = c.args.delivery.now in
    unturned (content c.args.chart.now) (g.D.Delivery.rule d) (g.D.Delivery.room d) c.args.first.0 c.args.second.0 c.args.buffer.now c.in_err-outlook.field-0.0 c.from_residual.result c.in_err-outlook.ensures c.from_residual.ensures

pub put_all-requires : goal.put_all-requires
put_all-requires g c =
    let d = c.args.delivery.now in
    let v = c.in_ok-outlook.ensures in
    let e = as_many_events c.args.chart.now c.events-events.result.now c.events-events.ensures in
    let k =
    long c.args.chart.now (g.D.Delivery.rule d) (g.D.Delivery.room d) (g.met.D.Delivery.transitive d) (g.met.D.Delivery.some d)
    c.args.first.0 c.args.second.0 v.0 v.1 c.in_ok-outlook.outlook v.2 in
    let l = c.if-buffer-events.false in
    omega (arith, c.new.ensures.empty.long, c.new.ensures.room)

pub returns : goal.returns
returns g c =
    let d = c.args.delivery.now in
    let v = c.in_ok-outlook.ensures in
    let e = as_many_events c.args.chart.now c.events-events.result.now c.events-events.ensures in
    let l = c.if-buffer-events.false in
    let put = c.put_all.ensures.adds _ _ c.new.ensures.empty in
    gives c.args.chart.now (g.D.Delivery.rule d) (g.D.Delivery.room d) (g.met.D.Delivery.transitive d) (g.met.D.Delivery.some d)
    c.args.first.0 c.args.second.0 v.0 v.1 c.in_ok-outlook.outlook v.2
    c.args.buffer.now _ _ (omega arith) ((search rules) ∙ put.front) (sym e)
