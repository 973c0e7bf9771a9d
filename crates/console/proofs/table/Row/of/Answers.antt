use Rattle.console.proofs.Telling.{message_inside, ends_inside, row_is}
use Rattle.console.proofs.table.Row.of.Goals as goal

pub bounds-messages-line : goal.bounds-messages-line
bounds-messages-line c =
    message_inside c.args.chart.now.parts c.args.chart.now.inside c.args.chart.now.parts.all_join c.args.number.0 c.in_ok-line.line c.in_ok-line.ensures _ c.messages.ensures

pub bounds-instances-line : goal.bounds-instances-line
bounds-instances-line c =
    (ends_inside c.args.chart.now.parts c.args.chart.now.inside c.args.chart.now.parts.all_join c.args.number.0 c.in_ok-line.line c.in_ok-line.ensures _ c.messages.ensures _ c.index-messages-line.is _ c.partner-partner.ensures _ c.instances-instances.ensures).0

pub bounds-instances-partner : goal.bounds-instances-partner
bounds-instances-partner c =
    (ends_inside c.args.chart.now.parts c.args.chart.now.inside c.args.chart.now.parts.all_join c.args.number.0 c.in_ok-line.line c.in_ok-line.ensures _ c.messages.ensures _ c.index-messages-line.is _ c.partner-partner.ensures _ c.instances-instances.ensures).1

pub returns : goal.returns
returns c =
    row_is c.args.chart.now.parts c.args.chart.now.inside c.args.chart.now.parts.all_join c.args.number.0 c.in_ok-line.line c.in_ok-line.ensures _ c.messages.ensures _ c.index-messages-line.is _ c.partner-partner.ensures _ c.instances-instances.ensures _ _ c.index-instances-line.is c.index-instances-partner.is
