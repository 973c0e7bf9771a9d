-- What joining and leaving do to a list of waiting parcels.
use Rattle.std.proofs.Common.{◌≡◌, ℕ, ◌≤◌, true, false, eqb, List, [], ◌∷◌, ◌++◌, length, sym, refl, arith}
use Rattle.std.proofs.lemmas.Bool.{eqb-false, ne_eqb}
use Rattle.delivery.specs.declared.parcel.Parcel.{Parcel}
use Rattle.std.proofs.lemmas.List.Folds.{list_any-append}
use Rattle.delivery.specs.Waiting.{is_of, waits_in, distinct, without}

abbrev number : Parcel → ℕ
number p = p.message.0

eqb_other : (a b : ℕ) → eqb a b ≡ false → eqb b a ≡ false
eqb_other a b e = ne_eqb b a (λ q. eqb-false a b e (sym q))

-- a parcel that joins brings no message but its own
pub waits_push : (n : ℕ) (w : List Parcel) (q : Parcel) → waits_in n w ≡ false → eqb (number q) n ≡ false → waits_in n (w ++ q ∷ []) ≡ false
waits_push n w q out e = rw (list_any-append (is_of n) w (q ∷ []), out, e)

pub distinct_push : (w : List Parcel) (q : Parcel) → waits_in (number q) w ≡ false → distinct w ≡ true → distinct (w ++ q ∷ []) ≡ true
distinct_push [] q out d = refl
distinct_push (p ∷ w) q out d = grind (arith, eqb_other, distinct_push w q, waits_push (number p) w q)

-- a parcel that leaves brings none
pub waits_without : (m n : ℕ) (w : List Parcel) → waits_in m w ≡ false → waits_in m (without n w) ≡ false
waits_without m n [] out = refl
waits_without m n (p ∷ w) out = grind (arith, waits_without m n w)

pub distinct_without : (n : ℕ) (w : List Parcel) → distinct w ≡ true → distinct (without n w) ≡ true
distinct_without n [] d = refl
distinct_without n (p ∷ w) d = grind (arith, distinct_without n w, waits_without (number p) n w)

pub length_without : (n : ℕ) (w : List Parcel) → length (without n w) ≤ length w
length_without n [] = omega arith
length_without n (p ∷ w) = grind (arith, length_without n w)
