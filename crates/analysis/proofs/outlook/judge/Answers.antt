use Rattle.std.proofs.Common.{◌<◌, length, sym, ◌∙◌, arith}
use Rattle.chart.specs.Charted.{content}
use Rattle.analysis.proofs.Asked.{as_many_events}
use Rattle.analysis.proofs.Verdicts.{a_pair}
use Rattle.analysis.proofs.outlook.judge.Goals as goal

pub judge_pair-requires : goal.judge_pair-requires
judge_pair-requires g c =
    let chart = c.args.chart.now in
    let b = c.args.second.0 in
    let e = as_many_events chart c.events-events.result.now c.events-events.ensures in
    let l : b < length (content chart).events = omega arith in
    a_pair (content chart) c.args.first.0 b l (sym c.if-not-is_pair.false ∙ c.is_pair.ensures)
