-- Lists without repeats: membership, order, what taking one out leaves, and the pigeonhole.
use Rattle.std.proofs.Common.{◌≡◌, ℕ, suc, ◌<◌, ◌≤◌, Bool, true, false, T, eqb, ◌≢◌, ◌⊎◌, List, [], ◌∷◌, ◌++◌, length, sym, refl, ap, ◌∙◌, subst, inl, inr, ⊎_elim, arith, eqb→eq}
use native.Mathlib.Decide.{ℕ_discrete}
use lib.Dec.{eqb_refl}
use Rattle.order.specs.Lists.{Has, Once, Ahead, without}

module _ {X : Type 0} (x : X) where
  pub has_left : (xs ys : List X) → Has x xs → Has x (xs ++ ys)
  has_left [] ys h = absurd h
  has_left (y ∷ xs) ys (inl e) = inl e
  has_left (y ∷ xs) ys (inr h) = inr (has_left xs ys h)

  pub has_right : (xs ys : List X) → Has x ys → Has x (xs ++ ys)
  has_right [] ys h = h
  has_right (y ∷ xs) ys h = inr (has_right xs ys h)

  pub has_cases : (xs ys : List X) → Has x (xs ++ ys) → Has x xs ⊎ Has x ys
  has_cases [] ys h = inr h
  has_cases (y ∷ xs) ys (inl e) = inl (inl e)
  has_cases (y ∷ xs) ys (inr h) = ⊎_elim (λ g. inl (inr g)) inr (has_cases xs ys h)

-- two numbers, told apart together with their test
pub data Told (n x : ℕ) : Type 0 where
  equal : eqb n x ≡ true → n ≡ x → Told n x
  apart : eqb n x ≡ false → n ≢ x → Told n x

pub tell : (n x : ℕ) → Told n x
tell n x = go (eqb n x) refl
  where
    go : (b : Bool) → eqb n x ≡ b → Told n x
    go true e = equal e (eqb→eq n x (rw e tt))
    go false e = apart e (λ p. subst T e (subst (λ y. T (eqb n y)) p (eqb_refl n)))

pub without_keeps : (n x : ℕ) (w : List ℕ) → x ≢ n → Has x w → Has x (without n w)
without_keeps n x [] ne h = absurd h
without_keeps n x (y ∷ w) ne h = go (without_keeps n x w ne) (tell n y) h
  where
    go : (Has x w → Has x (without n w)) → Told n y → (x ≡ y) ⊎ Has x w → Has x (without n (y ∷ w))
    go ih (equal e p) (inl q) = absurd (ne (q ∙ sym p))
    go ih (equal e p) (inr h) = rw e (ih h)
    go ih (apart e p) (inl q) = rw e (inl q)
    go ih (apart e p) (inr h) = rw e (inr (ih h))

pub without_kept : (n x : ℕ) (w : List ℕ) → Has x (without n w) → (x ≢ n) × Has x w
without_kept n x [] h = absurd h
without_kept n x (y ∷ w) h = go (without_kept n x w) (tell n y) h
  where
    go : (Has x (without n w) → (x ≢ n) × Has x w) → Told n y → Has x (without n (y ∷ w)) → (x ≢ n) × Has x (y ∷ w)
    go ih (equal e p) h = let g : Has x (without n w) = rw e at h in ((ih g).0, inr (ih g).1)
    go ih (apart e p) h =
        let g : (x ≡ y) ⊎ Has x (without n w) = rw e at h in
        ⊎_elim (λ q. ((λ z. p (sym z ∙ q)), inl q)) (λ k. ((ih k).0, inr (ih k).1)) g

pub without_le : (n : ℕ) (w : List ℕ) → length (without n w) ≤ length w
without_le n [] = omega arith
without_le n (y ∷ w) = go (without_le n w) (tell n y)
  where
    go : length (without n w) ≤ length w → Told n y → length (without n (y ∷ w)) ≤ length (y ∷ w)
    go ih (equal e p) = rw e (omega arith)
    go ih (apart e p) = rw e (omega arith)

pub without_lt : (n : ℕ) (w : List ℕ) → Has n w → length (without n w) < length w
without_lt n [] h = absurd h
without_lt n (y ∷ w) h = go (without_le n w) (without_lt n w) (tell n y) h
  where
    go : length (without n w) ≤ length w → (Has n w → length (without n w) < length w) → Told n y → (n ≡ y) ⊎ Has n w → length (without n (y ∷ w)) < length (y ∷ w)
    go le ih (equal e p) h = rw e (omega arith)
    go le ih (apart e p) (inl q) = absurd (p q)
    go le ih (apart e p) (inr h) = let k : length (without n w) < length w = ih h in rw e (omega arith)

pub without_once : (n : ℕ) (w : List ℕ) → Once w → Once (without n w)
without_once n [] o = tt
without_once n (y ∷ w) o = go (without_once n w o.1) (tell n y)
  where
    go : Once (without n w) → Told n y → Once (without n (y ∷ w))
    go ih (equal e p) = rw e ih
    go ih (apart e p) = rw e ((λ h. o.0 (without_kept n y w h).1), ih)

pub without_absent : (n : ℕ) (w : List ℕ) → ¬ Has n w → without n w ≡ w
without_absent n [] h = refl
without_absent n (y ∷ w) h = go (without_absent n w (λ k. h (inr k))) (tell n y)
  where
    go : without n w ≡ w → Told n y → without n (y ∷ w) ≡ y ∷ w
    go ih (equal e p) = absurd (h (inl p))
    go ih (apart e p) = rw e (ap (λ l. y ∷ l) ih)

pub without_first : (n : ℕ) (w : List ℕ) → ¬ Has n w → without n (n ∷ w) ≡ w
without_first n w h = go (tell n n)
  where
    go : Told n n → without n (n ∷ w) ≡ w
    go (equal e p) = rw e (without_absent n w h)
    go (apart e p) = absurd (p refl)

pub once_push : (n : ℕ) (w : List ℕ) → Once w → ¬ Has n w → Once (w ++ n ∷ [])
once_push n [] o h = ((λ z. z), tt)
once_push n (y ∷ w) o h = (
  (λ k. ⊎_elim o.0 (⊎_elim (λ e. h (inl (sym e))) (λ z. z)) (has_cases y w (n ∷ []) k)),
  once_push n w o.1 (λ k. h (inr k)),
)

pub length_push : (n : ℕ) (w : List ℕ) → length (w ++ n ∷ []) ≡ suc (length w)
length_push n [] = refl
length_push n (y ∷ w) = let ih = length_push n w in omega arith

module _ (m n : ℕ) where
  pub ahead_left : (xs ys : List ℕ) → Ahead m n xs → Ahead m n (xs ++ ys)
  ahead_left [] ys h = absurd h
  ahead_left (x ∷ xs) ys (inl e) = inl (e.0, has_left n xs ys e.1)
  ahead_left (x ∷ xs) ys (inr h) = inr (ahead_left xs ys h)

  pub ahead_join : (xs ys : List ℕ) → Has m xs → Has n ys → Ahead m n (xs ++ ys)
  ahead_join [] ys h k = absurd h
  ahead_join (x ∷ xs) ys (inl e) k = inl (e, has_right n xs ys k)
  ahead_join (x ∷ xs) ys (inr h) k = inr (ahead_join xs ys h k)

  pub ahead_without : (x : ℕ) (w : List ℕ) → m ≢ x → n ≢ x → Ahead m n w → Ahead m n (without x w)
  ahead_without x [] mx nx h = absurd h
  ahead_without x (y ∷ w) mx nx h = go (ahead_without x w mx nx) (tell x y) h
    where
      go : (Ahead m n w → Ahead m n (without x w)) → Told x y → ((m ≡ y) × Has n w) ⊎ Ahead m n w → Ahead m n (without x (y ∷ w))
      go ih (equal e p) (inl q) = absurd (mx (q.0 ∙ sym p))
      go ih (equal e p) (inr h) = rw e (ih h)
      go ih (apart e p) (inl q) = rw e (inl (q.0, without_keeps x n w nx q.1))
      go ih (apart e p) (inr h) = rw e (inr (ih h))

  -- what stands ahead of another is not the last
  pub ahead_push : (x : ℕ) (w : List ℕ) → Ahead m n (w ++ x ∷ []) → Has m w
  ahead_push x [] (inl e) = absurd e.1
  ahead_push x [] (inr h) = absurd h
  ahead_push x (y ∷ w) (inl e) = inl e.0
  ahead_push x (y ∷ w) (inr h) = inr (ahead_push x w h)

  pub ahead_second : (w : List ℕ) → Ahead m n w → Has n w
  ahead_second [] h = absurd h
  ahead_second (x ∷ w) (inl e) = inr e.1
  ahead_second (x ∷ w) (inr h) = inr (ahead_second w h)

-- the pigeonhole: a list without repeats, all of which stands in another, is no longer than that
pub fits : (xs ys : List ℕ) → Once xs → ((x : ℕ) → Has x xs → Has x ys) → length xs ≤ length ys
fits [] ys o h = omega arith
fits (x ∷ xs) ys o h =
    let k : length xs ≤ length (without x ys) =
    fits xs (without x ys) o.1 (λ z hz. without_keeps x z ys (λ e. o.0 (subst (λ u. Has u xs) e hz)) (h z (inr hz))) in
    let l : length (without x ys) < length ys = without_lt x ys (h x (inl refl)) in
    omega arith

pub below_suc : (y n : ℕ) → y < suc n → (y < n) ⊎ (y ≡ n)
below_suc y n h = go (ℕ_discrete y n)
  where
    go : Dec (y ≡ n) → (y < n) ⊎ (y ≡ n)
    go (yes e) = inr e
    go (no ne) = inl (omega arith)
