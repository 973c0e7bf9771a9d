-- Waiting parcels with the tags as given above.
use Rattle.std.specs.Prelude.{◌≡◌, ℕ, Bool, false, List, [], ◌∷◌, ◌++◌, Some, ◌==◌, slice_set, refl}
use Rattle.std.proofs.Common.{arith}
use Rattle.std.proofs.lemmas.List.{map-append}
use Rattle.std.specs.Option.{option_map}
use Rattle.std.proofs.lemmas.List.{get_or-set_other}
use Rattle.std.proofs.lemmas.Bool.{eqb-false}
use Rattle.delivery.specs.declared.parcel.Parcel.{Parcel}
use Rattle.delivery.specs.declared.parcel.Tag.{Tag}
use Rattle.delivery.specs.Waiting.{waits_in, parcel_of, ahead_of, without, first_holder}
use Rattle.layers.specs.Shown.{given_tag, lifted, as_given, Agree}

module _ (given : List Tag) where
  pub parcel_as_given : (n : ℕ) (w : List Parcel) → parcel_of n (as_given given w) ≡ option_map (lifted given) (parcel_of n w)
  parcel_as_given n [] = refl
  parcel_as_given n (p ∷ w) = grind (arith, parcel_as_given n w)

  pub without_as_given : (n : ℕ) (w : List Parcel) → without n (as_given given w) ≡ as_given given (without n w)
  without_as_given n [] = refl
  without_as_given n (p ∷ w) = grind (arith, without_as_given n w)

  pub as_given_push : (w : List Parcel) (q : Parcel) → as_given given (w ++ q ∷ []) ≡ as_given given w ++ lifted given q ∷ []
  as_given_push w q = map-append (lifted given) w (q ∷ [])

  module _ (show : Tag → Tag) where
    pub agree_without : (n : ℕ) (w : List Parcel) → Agree show given w → Agree show given (without n w)
    agree_without n [] a = tt
    agree_without n (p ∷ w) a = grind (arith, agree_without n w)

    pub agree_push : (w : List Parcel) (q : Parcel) → Agree show given w → q.tag ≡ show (given_tag given q) → Agree show given (w ++ q ∷ [])
    agree_push [] q a e = (e, tt)
    agree_push (p ∷ w) q a e = (a.0, agree_push w q a.1 e)

    pub agree_of : (n : ℕ) (w : List Parcel) (p : Parcel) → Agree show given w → parcel_of n w ≡ Some p → p.tag ≡ show (given_tag given p)
    agree_of n [] p a e = cc
    agree_of n (q ∷ w) p a e = grind (arith, agree_of n w p)

    pub holder_as_given : (rule : Tag → Tag → Bool) (t : Tag) (n : ℕ) (w : List Parcel) → Agree show given w → first_holder (λ x y. rule (show x) (show y)) t (ahead_of n (as_given given w)) ≡ first_holder rule (show t) (ahead_of n w)
    holder_as_given rule t n [] a = refl
    holder_as_given rule t n (p ∷ w) a = grind (arith, holder_as_given rule t n w)

-- the tag t is noted for message n
module _ (given : List Tag) (n : ℕ) (t : Tag) where
  given_other : (p : Parcel) → (p.message.0 == n) ≡ false → given_tag (slice_set given n t) p ≡ given_tag given p
  given_other p e = get_or-set_other given n p.message.0 t p.tag (eqb-false p.message.0 n e)

  pub as_given_noted : (w : List Parcel) → waits_in n w ≡ false → as_given (slice_set given n t) w ≡ as_given given w
  as_given_noted [] e = refl
  as_given_noted (p ∷ w) e = grind (arith, given_other, as_given_noted w)

  pub agree_noted : (show : Tag → Tag) (w : List Parcel) → waits_in n w ≡ false → Agree show given w → Agree show (slice_set given n t) w
  agree_noted show [] e a = tt
  agree_noted show (p ∷ w) e a = grind (arith, given_other, agree_noted show w)
