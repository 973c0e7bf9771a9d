-- What a record has, and how much room it needs.
use Rattle.std.proofs.Common.{◌≡◌, ℕ, zero, suc, ◌<◌, ◌≤◌, true, false, not, eqb, ltb, ◌⊎◌, List, [], ◌∷◌, ◌++◌, map, reverse, length, sym, refl, ap, ◌∙◌, subst, inl, inr, ⊎_elim, arith}
use mathlib.Core.List.{reverse-cons}
use Rattle.std.proofs.lemmas.List.{map_push, reverse-append, length-map}
use Rattle.std.proofs.lemmas.Bool.{both_ways, false≢true, or_cases, or_parts, or_from, or_left, or_right, and_parts, and_from, not-true, not_from_false, eqb-true, eqb-false, eq-eqb, ne_eqb, ltb-true, lt-ltb}
use Rattle.chart.specs.Content.{Content}
use Rattle.chart.specs.declared.numbers.EventId.{EventId}
use Rattle.order.specs.Lists.{Has, Once}
use Rattle.order.specs.Scenes.{Laid, event_at, number_of}
use Rattle.order.proofs.Lists.{has_left, has_right, has_cases, fits}
use Rattle.order.proofs.Scenes.{number_of_event}
use Rattle.bench.specs.Records.{fired_in, once, within, happenings, past}

abbrev numbered : ℕ → EventId
numbered n = record { 0 = n }

same_event : (e x : EventId) → e.0 ≡ x.0 → e ≡ x
same_event e x p = ap numbered p

-- the test finds just what the record has
pub in_has : (e : EventId) (r : List EventId) → fired_in e.0 r ≡ true → Has e r
in_has e [] t = absurd (false≢true t)
in_has e (x ∷ r) t =
    ⊎_elim (λ p. inl (same_event e x (sym (eqb-true x.0 e.0 p)))) (λ p. inr (in_has e r p)) (or_cases (eqb x.0 e.0) (fired_in e.0 r) t)

pub not_in : (e : EventId) (r : List EventId) → fired_in e.0 r ≡ false → Has e r → ⊥
not_in e [] t h = h
not_in e (x ∷ r) t (inl p) =
    both_ways (eqb x.0 e.0) (or_parts (eqb x.0 e.0) (fired_in e.0 r) t).0 (eq-eqb x.0 e.0 (ap (λ (y : EventId). y.0) (sym p)))
not_in e (x ∷ r) t (inr h) = not_in e r (or_parts (eqb x.0 e.0) (fired_in e.0 r) t).1 h

-- one event more
in_push : (n : ℕ) (r : List EventId) (e : EventId) → fired_in n r ≡ false → eqb e.0 n ≡ false → fired_in n (r ++ e ∷ []) ≡ false
in_push n [] e out other = or_from (eqb e.0 n) false other refl
in_push n (x ∷ r) e out other =
    let parts = or_parts (eqb x.0 n) (fired_in n r) out in
    or_from (eqb x.0 n) (fired_in n (r ++ e ∷ [])) parts.0 (in_push n r e parts.1 other)

pub once_push : (r : List EventId) (e : EventId) → fired_in e.0 r ≡ false → once r ≡ true → once (r ++ e ∷ []) ≡ true
once_push [] e out o = refl
once_push (x ∷ r) e out o =
    let parts = or_parts (eqb x.0 e.0) (fired_in e.0 r) out in
    let both = and_parts (not (fired_in x.0 r)) (once r) o in
    let other : eqb e.0 x.0 ≡ false = ne_eqb e.0 x.0 (λ q. eqb-false x.0 e.0 parts.0 (sym q)) in
    let fresh = in_push x.0 r e (not-true (fired_in x.0 r) both.0) other in
    and_from (not (fired_in x.0 (r ++ e ∷ []))) (once (r ++ e ∷ [])) (not_from_false (fired_in x.0 (r ++ e ∷ [])) fresh) (once_push r e parts.1 both.1)

pub within_push : (n : ℕ) (r : List EventId) (e : EventId) → within n r ≡ true → e.0 < n → within n (r ++ e ∷ []) ≡ true
within_push n [] e w l = and_from (ltb e.0 n) true (lt-ltb e.0 n l) refl
within_push n (x ∷ r) e w l =
    let both = and_parts (ltb x.0 n) (within n r) w in
    and_from (ltb x.0 n) (within n (r ++ e ∷ [])) both.0 (within_push n r e both.1 l)

-- a record without repeats has no more events than there are numbers for them
abbrev upto : ℕ → List ℕ
upto zero = []
upto (suc n) = n ∷ upto n

upto_length : (n : ℕ) → length (upto n) ≡ n
upto_length zero = refl
upto_length (suc n) = let ih = upto_length n in omega arith

upto_has : (n x : ℕ) → x < n → Has x (upto n)
upto_has zero x l = absurd (omega arith)
upto_has (suc n) x l = ⊎_elim (λ e. inl e) (λ h. inr (upto_has n x h)) (cases n x l)
  where
    cases : (n x : ℕ) → x < suc n → (x ≡ n) ⊎ (x < n)
    cases n x l = grind arith

abbrev numbers : List EventId → List ℕ
numbers r = map (λ (e : EventId). e.0) r

number_fired : (r : List EventId) (n : ℕ) → Has n (numbers r) → fired_in n r ≡ true
number_fired [] n h = absurd h
number_fired (x ∷ r) n (inl p) = or_left (eqb x.0 n) (fired_in n r) (eq-eqb x.0 n (sym p))
number_fired (x ∷ r) n (inr h) = or_right (eqb x.0 n) (fired_in n r) (number_fired r n h)

numbers_once : (r : List EventId) → once r ≡ true → Once (numbers r)
numbers_once [] o = tt
numbers_once (x ∷ r) o =
    let both = and_parts (not (fired_in x.0 r)) (once r) o in
    ((λ h. both_ways (fired_in x.0 r) (not-true (fired_in x.0 r) both.0) (number_fired r x.0 h)), numbers_once r both.1)

numbers_below : (m : ℕ) (r : List EventId) → within m r ≡ true → (n : ℕ) → Has n (numbers r) → n < m
numbers_below m [] w n h = absurd h
numbers_below m (x ∷ r) w n (inl p) = let l = ltb-true x.0 m (and_parts (ltb x.0 m) (within m r) w).0 in omega arith
numbers_below m (x ∷ r) w n (inr h) = numbers_below m r (and_parts (ltb x.0 m) (within m r) w).1 n h

few : (n : ℕ) (r : List EventId) → once r ≡ true → within n r ≡ true → length r ≤ n
few n r o w =
    let k : length (numbers r) ≤ length (upto n) = fits (numbers r) (upto n) (numbers_once r o) (λ x h. upto_has n x (numbers_below n r w x h)) in
    let a : length (numbers r) ≡ length r = length-map r (λ (e : EventId). e.0) in
    let b : length (upto n) ≡ n = upto_length n in
    omega arith

-- so there is room for an event that it lacks
pub room_left : (n : ℕ) (r : List EventId) (e : EventId) → once r ≡ true → within n r ≡ true → fired_in e.0 r ≡ false → e.0 < n → length r < n
room_left n r e o w out l =
    let k = few n (e ∷ r) (and_from (not (fired_in e.0 r)) (once r) (not_from_false (fired_in e.0 r) out) o) (and_from (ltb e.0 n) (within n r) (lt-ltb e.0 n l) w) in
    omega arith

module _ {X : Type 0} (x : X) where
  pub has_reverse : (xs : List X) → Has x xs → Has x (reverse xs)
  has_reverse [] h = absurd h
  has_reverse (y ∷ ys) (inl p) = subst (λ l. Has x l) (sym (reverse-cons y ys)) (has_right x (reverse ys) (y ∷ []) (inl p))
  has_reverse (y ∷ ys) (inr h) = subst (λ l. Has x l) (sym (reverse-cons y ys)) (has_left x (reverse ys) (y ∷ []) (has_reverse ys h))

  pub reverse_has : (xs : List X) → Has x (reverse xs) → Has x xs
  reverse_has [] h = absurd h
  reverse_has (y ∷ ys) h =
      ⊎_elim (λ k. inr (reverse_has ys k)) (⊎_elim (λ p. inl p) (λ z. absurd z)) (has_cases x (reverse ys) (y ∷ []) (subst (λ l. Has x l) (reverse-cons y ys) h))

module _ (c : Content) where
  pub past_push : (r : List EventId) (e : EventId) → past c (r ++ e ∷ []) ≡ event_at c e.0 ∷ past c r
  past_push r e = ap reverse (map_push (λ (x : EventId). event_at c x.0) r e) ∙ reverse-append (happenings c r) (event_at c e.0 ∷ [])

  happened : (e : EventId) (r : List EventId) → Has e r → Has (event_at c e.0) (happenings c r)
  happened e [] h = absurd h
  happened e (x ∷ r) (inl p) = inl (ap (λ (y : EventId). event_at c y.0) p)
  happened e (x ∷ r) (inr h) = inr (happened e r h)

  pub past_has : (e : EventId) (r : List EventId) → Has e r → Has (event_at c e.0) (past c r)
  past_has e r h = has_reverse (event_at c e.0) (happenings c r) (happened e r h)

  module _ (laid : Laid c) where
    -- two events with one happening are one event
    one_event : (e x : EventId) → e.0 < length c.events → x.0 < length c.events → event_at c e.0 ≡ event_at c x.0 → e ≡ x
    one_event e x i j p = same_event e x (sym (number_of_event c laid e.0 i) ∙ ap (number_of c) p ∙ number_of_event c laid x.0 j)

    was : (e : EventId) → e.0 < length c.events → (r : List EventId) → ((x : EventId) → Has x r → x.0 < length c.events) → Has (event_at c e.0) (happenings c r) → Has e r
    was e i [] k h = absurd h
    was e i (x ∷ r) k (inl p) = inl (one_event e x i (k x (inl refl)) p)
    was e i (x ∷ r) k (inr h) = inr (was e i r (λ y m. k y (inr m)) h)

    pub past_was : (e : EventId) → e.0 < length c.events → (r : List EventId) → ((x : EventId) → Has x r → x.0 < length c.events) → Has (event_at c e.0) (past c r) → Has e r
    past_was e i r k h = was e i r k (reverse_has (event_at c e.0) (happenings c r) h)
