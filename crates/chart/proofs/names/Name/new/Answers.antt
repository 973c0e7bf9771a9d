use native.Mathlib.Nat.{sub-zero}
use Rattle.std.proofs.Common.{◌≡◌, ℕ, ◌-◌, ◌≤◌, List, ◌++◌, length, length-append, length-drop, refl, replicate, take, drop, arith, sym, ap, ◌∙◌}
use Rattle.std.proofs.lemmas.List.{take_at, drop-replicate}
use Rattle.std.proofs.lemmas.Bool.{and_from, le-leb}
use Rattle.chart.specs.Words.{is_name}
use Rattle.chart.proofs.names.Name.new.Goals as goal

front : (copied text rest : List ℕ) → copied ≡ text → take (length text) (copied ++ rest) ≡ text
front copied text rest same = take_at copied rest (length text) (ap length same) ∙ same

-- what stands after the copied text
rest_is : (n : ℕ) → drop {A = ℕ} (n - 0) (replicate 24 0) ≡ replicate (24 - n) 0
rest_is n = ap (λ k. drop {A = ℕ} k (replicate 24 0)) (sub-zero n) ∙ drop-replicate {X = ℕ} n 24 0

laid : (copied text rest : List ℕ) → copied ≡ text → rest ≡ replicate (24 - length text) 0 → copied ++ rest ≡ take (length text) (copied ++ rest) ++ replicate (24 - length text) 0
laid copied text rest same zeros = let f = front copied text rest same in cc

long : (copied text blank : List ℕ) → copied ≡ text → length blank ≡ 24 → length text ≤ 24 → length (copied ++ drop (length text - 0) blank) ≡ 24
long copied text blank same whole short = omega (arith, length-append copied (drop (length text - 0) blank), length-drop (length text - 0) blank, ap length same)

pub invariant_of-result : goal.invariant_of-result
invariant_of-result c =
    record {
      short = c.if-text-gt-NAME_LIMIT.false;
      valid = ap is_name (front _ c.args.text.now _ c.copy_from_slice.ensures.after) ∙ and_from _ _ (sym c.if-not-is_name_like.ensures) (le-leb _ _ c.if-text-gt-NAME_LIMIT.false);
      full = long _ c.args.text.now _ c.copy_from_slice.ensures.after refl c.if-text-gt-NAME_LIMIT.false;
      padded = laid _ c.args.text.now _ c.copy_from_slice.ensures.after (rest_is (length c.args.text.now));
    }
