use Rattle.std.proofs.Common.{◌≡◌, ℕ, ◌<◌, get_or, rules}
use lib.Bits.{bit_or}
use Rattle.matrix.specs.Sets.{word_count}
use Rattle.matrix.proofs.Bits.{member_or}
use Rattle.matrix.proofs.sets.EventSet.union_with.Goals as goal

pub returns : goal.returns
returns c =
    let made = c.from_fn-self.ensures.items in
    let each : (k : ℕ) → k < word_count → get_or c.from_fn-self.result k 0 ≡ bit_or (get_or c.args.self.now.words k 0) (get_or c.args.other.now.words k 0) = λ k l. let h = made.at k 0 l in search rules in
    member_or _ _ _ word_count made.long (search rules) (search rules) each
