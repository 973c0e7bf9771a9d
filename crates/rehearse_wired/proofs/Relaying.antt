-- A relay's word, cut at its first colon.
use Rattle.std.proofs.Common.{◌≡◌, ℕ, List, ◌∷◌, ◌++◌, Some, None, sym, ap, ◌∙◌, subst, lit<, Bor}
use Rattle.std.specs.Str.Parse.{digits_value, without_leading_plus}
use Rattle.std.proofs.lemmas.Str.Pattern.{IsSplitOnceResult, split_after, split_parts}
use Rattle.chart.specs.Words.{Text}
use Rattle.rehearse_wired.specs.Requests.{IsNumber, NoColon}

module _ (t : Text) where
  pub no_colon : IsSplitOnceResult 58 t None → (xs ys : Text) → t ≡ xs ++ (58 ∷ ys) → NoColon xs → IsNumber xs → ⊥
  no_colon split xs ys same free number = split_after 58 t xs ys None split (lit< tt) same free

  module _ (x : Bor (List ℕ) × Bor (List ℕ)) (split : IsSplitOnceResult 58 t (Some x)) where
    pub no_number : (IsNumber x.0.now → ⊥) → (xs ys : Text) → t ≡ xs ++ (58 ∷ ys) → NoColon xs → IsNumber xs → ⊥
    no_number none xs ys same free number = none (subst IsNumber (sym (split_after 58 t xs ys (Some x) split (lit< tt) same free).0) number)

    pub is_read : (ys : Text) → ys ≡ x.1.now → (n : ℕ) → IsNumber x.0.now × (n ≡ digits_value 10 (without_leading_plus x.0.now))
        → (xs : Text) × (t ≡ xs ++ (58 ∷ ys)) × NoColon xs × IsNumber xs × (n ≡ digits_value 10 (without_leading_plus xs))
    is_read ys same n read =
        let cut = split_parts 58 t (Some x) split (lit< tt) in
        (x.0.now, cut.0 ∙ ap (λ (zs : Text). x.0.now ++ (58 ∷ zs)) (sym same), cut.1, read.0, read.1)
