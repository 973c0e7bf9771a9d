use Rattle.std.proofs.Common.{ℕ, ◌/◌, ◌<◌, ◌||◌, eqb, length, ap, ◌∙◌, rules}
use Rattle.matrix.specs.Sets.{member}
use Rattle.matrix.proofs.Bits.{member_insert}
use Rattle.matrix.proofs.sets.EventSet.insert.Goals as goal

pub returns : goal.returns
returns c x =
    let h : c.index-at.result / 64 < length c.args.self.now.words = search rules in
    member_insert c.args.self.now.words c.index-at.result x h ∙ ap (λ (y : ℕ). member c.args.self.now.words x || eqb x y) c.index-at.ensures
