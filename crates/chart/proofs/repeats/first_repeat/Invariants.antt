use Rattle.chart.specs.Repeats.{Apart}
use Rattle.chart.proofs.repeats.first_repeat.Given as goal

abbrev pub invariant-loop-k : goal.invariant-loop-k
invariant-loop-k g l = Apart g.T.Same.same l.items l.k
