use Rattle.chart.specs.Charted.{content}
use Rattle.analysis.specs.Writing.{Puts}
use Rattle.scheduling.proofs.Orders.{done_in}
use Rattle.scheduling.proofs.passes.Plan.put_stage.Given as goal

abbrev pub invariant-loop-h : goal.invariant-loop-h
invariant-loop-h l = Puts l.initial.writer (done_in (content l.self.chart.now) l.self.outlook.now l.stage l.h) l.writer
