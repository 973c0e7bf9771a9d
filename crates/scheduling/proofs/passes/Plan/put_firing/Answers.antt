use Rattle.std.proofs.Common.{arith}
use Rattle.chart.specs.Shown.{happening}
use Rattle.scheduling.proofs.Numbers.{number_small}
use Rattle.scheduling.proofs.passes.Plan.put_firing.Goals as goal

pub overflow_cast-number : goal.overflow_cast-number
overflow_cast-number c = let s = number_small c.args.self.now.chart.now (happening c.args.event) in omega (arith, c.number_of-number.ensures)
