-- What the check for a repeat says of names that were apart, and one more.
use Rattle.std.proofs.Common.{◌≡◌, ℕ, ◌<◌, Bool, true, false, List, [], ◌∷◌, ◌++◌, map, length, get_or, take, is_some, Some, None, Option, sym, refl, ap, subst, inl, inr, arith}
use Rattle.std.specs.Str.{bytes_eq}
use Rattle.std.proofs.lemmas.List.{length_push, length-map, get_or_append_left, get_or_push, get_or-map, get_or-take, map_push, length-take-le, get_or_default}
use Rattle.std.proofs.lemmas.Bool.{cases_Bool, both_ways}
use Rattle.chart.specs.Words.{Text}
use Rattle.chart.specs.Content.{NamesApart}
use Rattle.chart.specs.Lookup.{seek, among}
use Rattle.chart.specs.Names.{text_of}
use Rattle.chart.specs.Repeats.{FirstRepeat}
use Rattle.chart.specs.declared.names.Name.{Name}
use Rattle.chart.proofs.Additions.{apart_push}
use Rattle.chart.proofs.Seeking.{seek_none, seek_at, seek_absent, is_same}

abbrev pub same_name : Name → Name → Bool
same_name a b = bytes_eq (text_of a) (text_of b)

pub absent : (t : Text) (ts : List Text) → among t ts ≡ false → seek (λ x. x) t ts ≡ None
absent t ts e = none_of (seek (λ x. x) t ts) e
  where
    none_of : (o : Option ℕ) → is_some o ≡ false → o ≡ None
    none_of None e = refl
    none_of (Some i) e = let z : ◌≡◌ {A = Bool} true false = e in cc

-- among names that are apart, each is found at its place
pub seek_apart : (ts : List Text) (i : ℕ) → NamesApart ts → i < length ts → seek (λ x. x) (get_or ts i []) ts ≡ Some i
seek_apart ts i apart l =
    seek_at (λ x. x) (get_or ts i []) ts i l
    (λ k k-low d.
    let before = seek_absent (λ x. x) (get_or ts i []) (take i ts) (absent (get_or ts i []) (take i ts) (apart i l)) k (omega (arith, length-take-le i ts (omega arith))) d in
    let a = get_or-take i ts k d k-low in
    cc)
    (λ d. let a = get_or_default ts i d [] l in let b = is_same (get_or ts i []) in cc)

module _ (xs : List Name) (n : Name) where
  names_of : map text_of (xs ++ n ∷ []) ≡ map text_of xs ++ text_of n ∷ []
  names_of = map_push text_of xs n

  -- two different elements of a list whose names are apart
  differ : NamesApart (map text_of (xs ++ n ∷ [])) → (j k : ℕ) → j < k → k < length (xs ++ n ∷ []) → same_name (get_or (xs ++ n ∷ []) j n) (get_or (xs ++ n ∷ []) k n) ≡ false
  differ apart j k j-low k-low =
      let ts : List Text = map text_of (xs ++ n ∷ []) in
      let long = length-map (xs ++ n ∷ []) text_of in
      let before : bytes_eq (get_or (take k ts) j []) (get_or ts k []) ≡ false = seek_absent (λ x. x) (get_or ts k []) (take k ts) (absent (get_or ts k []) (take k ts) (apart k (omega arith))) j (omega (arith, length-take-le k ts (omega arith))) [] in
      let a = get_or-take k ts j [] j-low in
      let b = get_or-map text_of (xs ++ n ∷ []) j n [] (omega arith) in
      let c = get_or-map text_of (xs ++ n ∷ []) k n [] k-low in
      cc

  pub repeat_means : (o : Option ℕ) → NamesApart (map text_of xs) → FirstRepeat same_name (xs ++ n ∷ []) o → is_some o ≡ among (text_of n) (map text_of xs)
  repeat_means None apart first =
      sym (ap is_some (seek_none (λ x. x) (text_of n) (map text_of xs) (λ k l d.
      let l' : k < length xs = omega (arith, length-map xs text_of) in
      let other = first (length xs) (omega (arith, length_push xs n)) k l' n in
      let a = get_or_append_left xs (n ∷ []) n k l' in
      let b = get_or_push xs n n (length xs) refl in
      let c = get_or-map text_of xs k n d l' in
      cc)))
  repeat_means (Some k) apart first =
      elim (cases_Bool (among (text_of n) (map text_of xs))) [
        | inl known ↦ sym known
        | inr new ↦ absurd (both_ways _ (differ (subst NamesApart (sym names_of) (apart_push (map text_of xs) (text_of n) apart new)) first.1.0 k first.1.1 first.0) (first.1.2 n))
      ]
