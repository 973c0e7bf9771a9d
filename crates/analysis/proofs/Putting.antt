-- One write of a writer after another.
use Rattle.std.proofs.Common.{ℕ, List, ◌++◌, ◌∙◌, subst, append_assoc, arith, length-append}
use Rattle.analysis.specs.Writing.{Wrote, Puts}
use Rattle.analysis.specs.declared.writing.Writer.{Writer}

pub puts_more : (a b c : Writer) (xs ys : List ℕ) → Puts a xs b → Puts b ys c → Puts a (xs ++ ys) c
puts_more a b c xs ys f g =
    let n = f.len in
    let m = g.len in
    record {
      same_reference = g.same_reference ∙ f.same_reference;
      len = omega (arith, length-append xs ys);
      room = g.room ∙ f.room;
      adds = λ zs ws t. subst (λ (vs : List ℕ). Wrote zs vs c) (append_assoc ws xs ys) (g.adds zs (ws ++ xs) (f.adds zs ws t));
    }
