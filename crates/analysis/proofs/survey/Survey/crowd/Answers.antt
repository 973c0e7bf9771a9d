use Rattle.std.proofs.Common.{rules}
use Rattle.matrix.proofs.Bits.{count_le}
use Rattle.analysis.proofs.survey.Survey.crowd.Goals as goal

pub overflow_add-result : goal.overflow_add-result
overflow_add-result g c = search (rules, count_le)
