use Rattle.std.proofs.Common.{◌≡◌, ℕ, List, ◌++◌, codes, decimal, ◌∙◌, subst, append_assoc, arith, rules}
use Rattle.analysis.specs.Writing.{Fronted}
use Rattle.analysis.proofs.Telling.{digits_five}
use Rattle.analysis.proofs.listing.put_count.Goals as goal

pub push_number-requires : goal.push_number-requires
push_number-requires c = let d = digits_five c.args.pairs (omega (arith, c.requires.few)) in grind arith

pub push-requires-2 : goal.push-requires-2
push-requires-2 c = let d = digits_five c.args.pairs (omega (arith, c.requires.few)) in grind arith

regrouped : (a b e : List ℕ) → (a ++ b) ++ e ≡ a ++ (b ++ e)
regrouped a b e = simp append_assoc

pub returns-clause-front : goal.returns-clause-front
returns-clause-front c =
    let line = c.push-2.ensures.adds _ _ (c.push_number.ensures.adds _ _ (c.push.ensures.adds _ _ c.new-line.ensures.empty)) in
    (search rules) ∙ subst (λ ys. Fronted c.args.buffer.now ys c.push-2.new.self.buffer.now) (regrouped (codes "pairs ") (decimal c.args.pairs) (codes "\n")) line.front
