-- What a lookup by name finds.
use Rattle.std.proofs.Common.{◌≡◌, ℕ, suc, ◌+◌, ◌<◌, Bool, true, false, cond, not, ltb, List, [], ◌∷◌, map, length, get_or, Some, None, Option, sym, refl, ap, ◌∙◌, inl, inr, arith}
use Rattle.std.specs.List.{position, position_or_len}
use Rattle.std.specs.Option.{option_map}
use Rattle.std.specs.Str.{bytes_eq}
use Rattle.std.proofs.lemmas.Bool.{cases_Bool, cond-true, cond-false, lt-ltb, le-ltb, ltb-true, ltb-false}
use Rattle.std.proofs.lemmas.List.Quantifiers.{position-Some}
use Rattle.std.proofs.lemmas.List.Sums.{position_or_len_is, fails_before_first}
use Rattle.std.proofs.lemmas.Slice.Eq.{bytes_eq-Decides}
use Rattle.chart.specs.Words.{Text}
use Rattle.chart.specs.Lookup.{seek}

-- the first place that passes, at one element more
one_more : (b : Bool) (n l : ℕ) → ◌≡◌ {A = Option ℕ} (cond b (Some 0) (option_map suc (cond (ltb n l) (Some n) None))) (cond (ltb (cond (not b) (1 + n) 0) (suc l)) (Some (cond (not b) (1 + n) 0)) None)
one_more true n l = sym (cond-true _ _ _ (lt-ltb 0 (suc l) (omega arith)))
one_more false n l =
    elim (cases_Bool (ltb n l)) [
      | inl low ↦ ap (option_map suc) (cond-true _ _ _ low) ∙ ap Some (omega arith) ∙ sym (cond-true _ _ _ (lt-ltb (1 + n) (suc l) (omega (arith, ltb-true n l low))))
      | inr high ↦ ap (option_map suc) (cond-false _ _ _ high) ∙ sym (cond-false _ _ _ (le-ltb (1 + n) (suc l) (omega (arith, ltb-false n l high))))
    ]

module _ {X : Type 0} (called : X → Text) (t : Text) where
  abbrev Is : X → Bool
  Is x = bytes_eq (called x) t

  -- none of the first n is called t
  abbrev NoneOf : List X → ℕ → Type 0
  NoneOf xs n = (k : ℕ) → k < n → (d : X) → Is (get_or xs k d) ≡ false

  -- a lookup finds the first place that passes
  pub seek_position : (xs : List X) → seek called t xs ≡ position Is xs
  seek_position [] = refl
  seek_position (x ∷ xs) = ap (λ o. cond (Is x) (Some 0) (option_map suc o)) (seek_position xs) ∙ one_more (Is x) (position_or_len Is xs) (length xs)

  pub seek_none : (xs : List X) → NoneOf xs (length xs) → seek called t xs ≡ None
  seek_none [] none = refl
  seek_none (x ∷ xs) none =
      let e = position_or_len_is Is (x ∷ xs) (length (x ∷ xs)) x (omega arith) (λ k l. none k l x) (λ l. absurd (omega arith)) in
      seek_position (x ∷ xs) ∙ cond-false _ _ _ (le-ltb (position_or_len Is (x ∷ xs)) (length (x ∷ xs)) (omega arith))

  pub seek_at : (xs : List X) (i : ℕ) → i < length xs → NoneOf xs i → ((d : X) → Is (get_or xs i d) ≡ true) → seek called t xs ≡ Some i
  seek_at [] i inside none here = absurd (omega arith)
  seek_at (x ∷ xs) i inside none here =
      let e = position_or_len_is Is (x ∷ xs) i x (omega arith) (λ k l. none k l x) (λ l. here x) in
      seek_position (x ∷ xs) ∙ cond-true _ _ _ (lt-ltb (position_or_len Is (x ∷ xs)) (length (x ∷ xs)) (omega arith)) ∙ ap Some e

  pub seek_absent : (xs : List X) → seek called t xs ≡ None → NoneOf xs (length xs)
  seek_absent xs e k l d =
      let n = position_or_len Is xs in
      elim (cases_Bool (ltb n (length xs))) [
        | inl found ↦ let none : Some n ≡ None = sym (cond-true _ _ _ found) ∙ sym (seek_position xs) ∙ e in cc
        | inr past ↦ fails_before_first Is xs k d (omega (arith, ltb-false n (length xs) past))
      ]

  pub seek_inside : (xs : List X) (i : ℕ) → seek called t xs ≡ Some i → i < length xs
  seek_inside [] i e = let none : ◌≡◌ {A = Option ℕ} None (Some i) = e in cc
  seek_inside (x ∷ xs) i e = (position-Some Is (x ∷ xs) i x (sym (seek_position (x ∷ xs)) ∙ e)).0

-- two texts that compare the same are the same
pub same_is : (a b : Text) → bytes_eq a b ≡ true → a ≡ b
same_is a b e = (bytes_eq-Decides a b).0 e

pub is_same : (a : Text) → bytes_eq a a ≡ true
is_same a = (bytes_eq-Decides a a).1 refl

-- what is found is called so
pub seek_is : (t : Text) (xs : List Text) (i : ℕ) → seek (λ x. x) t xs ≡ Some i → get_or xs i [] ≡ t
seek_is t xs i e = same_is _ t (position-Some (λ x. bytes_eq x t) xs i [] (sym (seek_position (λ x. x) t xs) ∙ e)).1

-- a lookup through a map
pub seek_map : {X Y : Type 0} (called : Y → Text) (f : X → Y) (t : Text) (xs : List X) → seek called t (map f xs) ≡ seek (λ x. called (f x)) t xs
seek_map called f t [] = refl
seek_map called f t (x ∷ xs) = ap (λ o. cond (bytes_eq (called (f x)) t) (Some 0) (option_map suc o)) (seek_map called f t xs)
