use Rattle.std.proofs.Common.{ℕ, ap, ◌∙◌}
use Rattle.matrix.specs.Sets.{member}
use Rattle.matrix.proofs.Bits.{member_read}
use Rattle.matrix.proofs.sets.EventSet.contains.Goals as goal

pub returns : goal.returns
returns c = member_read c.args.self.now.words c.index-at.result ∙ ap (λ (x : ℕ). member c.args.self.now.words x) c.index-at.ensures
