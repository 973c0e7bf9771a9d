use Rattle.matrix.specs.Sets.{word_count}
use Rattle.matrix.proofs.Bits.{member_none}
use Rattle.matrix.proofs.sets.EventSet.empty.Goals as goal

pub returns : goal.returns
returns c x = member_none word_count x
