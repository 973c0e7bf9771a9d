use Rattle.chart.specs.Charted.{content}
use Rattle.analysis.proofs.Filled.{Passing}
use Rattle.analysis.proofs.setting.Setting.row_of_out.Given as goal

abbrev pub invariant-loop-event : goal.invariant-loop-event
invariant-loop-event g l = Passing (content l.self.chart.now) l.order l.fn.message.0 l.row l.event-index
