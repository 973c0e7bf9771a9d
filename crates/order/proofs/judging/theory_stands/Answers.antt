use Rattle.order.proofs.Theory.{theory}
use Rattle.order.proofs.judging.theory_stands.Goals as goal

pub returns : goal.returns
returns c = theory
