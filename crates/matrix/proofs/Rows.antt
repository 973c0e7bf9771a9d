-- Rows and columns.
use Rattle.std.proofs.Common.{◌≡◌, ℕ, false, List, get_or, replicate, ap, ◌∙◌, inl, inr}
use Rattle.std.proofs.lemmas.List.{get_or_past, get_or-replicate, length-replicate}
use Rattle.std.proofs.lemmas.Bool.{cases_lt}
use Rattle.matrix.specs.Models.{has, no_words}
use Rattle.matrix.specs.declared.sets.EventSet.{EventSet}
use Rattle.matrix.proofs.Bits.{member_none}

-- rows that are all the same empty set hold nothing
pub blank_rows : (rows : List EventSet) (n : ℕ) (s : EventSet) → rows ≡ replicate n s → ((y : ℕ) → has s y ≡ false) → (x y : ℕ) → has (get_or rows y no_words) x ≡ false
blank_rows rows n s e h x y =
    rw e (elim (cases_lt y n) [
      | inl l ↦ ap (λ (t : EventSet). has t x) (get_or-replicate n y s no_words l) ∙ h x
      | inr l ↦ ap (λ (t : EventSet). has t x) (get_or_past (replicate n s) y no_words (simp length-replicate l)) ∙ member_none 0 x
    ])
