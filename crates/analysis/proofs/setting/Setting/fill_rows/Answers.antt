use Rattle.analysis.specs.Settings.{scene}
use Rattle.analysis.proofs.Asked.{chart_laws}
use Rattle.analysis.proofs.Filled.{message_step}
use Rattle.analysis.proofs.setting.Setting.fill_rows.Goals as goal

pub returns : goal.returns
returns g c =
    let setting = c.args.self.now in
    let d = setting.delivery.now in
    let law = chart_laws setting.chart.now (g.D.Delivery.rule d) (g.D.Delivery.room d) (g.met.D.Delivery.transitive d) (g.met.D.Delivery.some d) in
    let step =
    message_step (scene g.D.Delivery.rule g.D.Delivery.room setting) law c.args.message.0 c.requires.inside c.args.order.now c.put_row.new.self c.put_row-2.new.self c.row_of_out-row.result c.row_of_in-row.result
    c.place_of.result.number c.place_of-2.result.number c.place_of.ensures c.place_of-2.ensures c.put_row.ensures c.put_row-2.ensures c.row_of_out-row.ensures c.row_of_in-row.ensures
    c.requires.within c.requires.covers in
    record { within = step.0; covers = step.1 }
