-- The first parcel of a message, and the first that holds a tag, by the library's searches.
use Rattle.std.proofs.Common.{◌≡◌, ℕ, ◌<◌, Bool, List, [], ◌∷◌, length, get_or, take, Some, None, refl, ap, ◌∙◌, ⊎_elim, arith, position, find, slice_get}
use Rattle.std.proofs.Math.Numerals.{one-add}
use Rattle.std.specs.List.{remove, position_or_len}
use Rattle.std.specs.Option.{option_map}
use Rattle.std.proofs.lemmas.Bool.{cases_Bool}
use Rattle.std.proofs.lemmas.List.Folds.{find_at}
use Rattle.std.proofs.lemmas.Option.{slice_get-get_or, slice_get_past}
use Rattle.delivery.specs.declared.parcel.Tag.{Tag}
use Rattle.delivery.specs.declared.parcel.Parcel.{Parcel}
use Rattle.delivery.specs.Waiting.{is_of, parcel_of, ahead_of, without, first_holder}

holder_found : (rule : Tag → Tag → Bool) (t : Tag) (w : List Parcel) → first_holder rule t w ≡ option_map (λ (p : Parcel). p.message) (find (λ (p : Parcel). rule p.tag t) w)
holder_found rule t [] = refl
holder_found rule t (p ∷ w) = grind (arith, holder_found rule t w)

module _ (n : ℕ) where
  ahead_before : (w : List Parcel) → ahead_of n w ≡ take (position_or_len (is_of n) w) w
  ahead_before [] = refl
  ahead_before (p ∷ w) =
      ⊎_elim (λ e. rw e) (λ e. rw e (simp one-add (ap (λ (l : List Parcel). p ∷ l) (ahead_before w)))) (cases_Bool (is_of n p))

  without_removed : (w : List Parcel) → without n w ≡ remove w (position_or_len (is_of n) w)
  without_removed [] = refl
  without_removed (p ∷ w) =
      ⊎_elim (λ e. rw e) (λ e. rw e (simp one-add (ap (λ (l : List Parcel). p ∷ l) (without_removed w)))) (cases_Bool (is_of n p))

  module _ (w : List Parcel) where
    pub nowhere : None ≡ position (is_of n) w → parcel_of n w ≡ None
    nowhere e = find_at (is_of n) w ∙ grind (arith, slice_get_past)

    module _ (i : ℕ) (found : Some i ≡ position (is_of n) w) where
      there : (position_or_len (is_of n) w ≡ i) × (i < length w)
      there = grind arith

      pub parcel_at : (d : Parcel) → parcel_of n w ≡ Some (get_or w i d)
      parcel_at d = find_at (is_of n) w ∙ ap (slice_get w) there.0 ∙ slice_get-get_or w i d there.1

      pub without_at : without n w ≡ remove w i
      without_at = without_removed w ∙ rw there.0

      pub holder_at : (rule : Tag → Tag → Bool) (t : Tag) → first_holder rule t (ahead_of n w) ≡ option_map (λ (p : Parcel). p.message) (find (λ (p : Parcel). rule p.tag t) (take i w))
      holder_at rule t = ap (first_holder rule t) (ahead_before w ∙ rw there.0) ∙ holder_found rule t (take i w)

pub ruleset standing = (nowhere, parcel_at, without_at, holder_at)
