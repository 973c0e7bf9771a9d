-- Counts over a list that grows at its end, and sums over the numbers below a bound.
use Rattle.std.proofs.Common.{◌≡◌, ℕ, zero, suc, ◌+◌, ◌<◌, ◌≤◌, Bool, true, false, cond, ◌||◌, ltb, List, [], ◌∷◌, ◌++◌, map, count_by, sym, refl, ap, ◌∙◌, ⊎_elim, inl, inr, arith}
use Rattle.std.specs.List.{list_any}
use Rattle.std.proofs.lemmas.List.Sums.{sum_by-cons, sum_by_push}
use Rattle.std.proofs.lemmas.Bool.{cases_Bool, cases_eq, lt-ltb}

module _ {X : Type 0} (p : X → Bool) where
  pub count_yes : (x : X) (xs : List X) → p x ≡ true → count_by p (x ∷ xs) ≡ 1 + count_by p xs
  count_yes x xs e = sum_by-cons (λ y. cond (p y) 1 0) x xs ∙ ap (λ b. cond b 1 0 + count_by p xs) e

  pub count_no : (x : X) (xs : List X) → p x ≡ false → count_by p (x ∷ xs) ≡ count_by p xs
  count_no x xs e = let h : ◌≡◌ {A = ℕ} (cond (p x) 1 0) 0 = ap (λ b. cond b 1 0) e in omega (arith, sum_by-cons (λ y. cond (p y) 1 0) x xs)

  pub count_push_yes : (xs : List X) (y : X) → p y ≡ true → count_by p (xs ++ y ∷ []) ≡ count_by p xs + 1
  count_push_yes xs y e = let h : ◌≡◌ {A = ℕ} (cond (p y) 1 0) 1 = ap (λ b. cond b 1 0) e in omega (arith, sum_by_push (λ x. cond (p x) 1 0) xs y)

  pub count_push_no : (xs : List X) (y : X) → p y ≡ false → count_by p (xs ++ y ∷ []) ≡ count_by p xs
  count_push_no xs y e = let h : ◌≡◌ {A = ℕ} (cond (p y) 1 0) 0 = ap (λ b. cond b 1 0) e in omega (arith, sum_by_push (λ x. cond (p x) 1 0) xs y)

-- the sum of f over the numbers below k
abbrev pub sum_below : (ℕ → ℕ) → ℕ → ℕ
sum_below f zero = 0
sum_below f (suc k) = f k + sum_below f k

pub sum_same : (f g : ℕ → ℕ) (k : ℕ) → ((m : ℕ) → m < k → f m ≡ g m) → sum_below f k ≡ sum_below g k
sum_same f g zero e = refl
sum_same f g (suc k) e = omega (arith, e k (omega arith), sum_same f g k (λ m l. e m (omega arith)))

-- f is g, but for one more at m
pub sum_one_more : (f g : ℕ → ℕ) (m k : ℕ) → m < k → f m ≡ g m + 1 → ((n : ℕ) → (n ≡ m → ⊥) → f n ≡ g n) → sum_below f k ≡ sum_below g k + 1
sum_one_more f g m zero inside more same = absurd (omega arith)
sum_one_more f g m (suc k) inside more same =
    ⊎_elim
    (λ (e : k ≡ m). let h : f k ≡ g k + 1 = ap f e ∙ more ∙ ap (λ n. g n + 1) (sym e) in omega (arith, h, sum_same f g k (λ n l. same n (λ q. omega arith))))
    (λ (e : k ≡ m → ⊥). omega (arith, same k e, sum_one_more f g m k (omega arith) more same))
    (cases_eq k m)

pub sum_few : (f : ℕ → ℕ) (k : ℕ) → ((m : ℕ) → m < k → f m ≤ 1) → sum_below f k ≤ k
sum_few f zero few = omega arith
sum_few f (suc k) few = omega (arith, few k (omega arith), sum_few f k (λ m l. few m (omega arith)))

pub sum_nothing : (k : ℕ) → sum_below (λ m. 0) k ≡ 0
sum_nothing zero = refl
sum_nothing (suc k) = omega (arith, sum_nothing k)

-- whether an element passes, seen through a map
pub any_counted : {X Y : Type 0} (q : X → Bool) (p : Y → Bool) (f : X → Y) → ((x : X) → q x ≡ p (f x)) → (xs : List X) → list_any q xs ≡ ltb 0 (count_by p (map f xs))
any_counted q p f same [] = refl
any_counted q p f same (x ∷ xs) =
    elim (cases_Bool (p (f x))) [
      | inl passes ↦ ap (λ b. b || list_any q xs) (same x ∙ passes) ∙ sym (lt-ltb 0 _ (omega (arith, count_yes p (f x) (map f xs) passes)))
      | inr fails ↦ ap (λ b. b || list_any q xs) (same x ∙ fails) ∙ any_counted q p f same xs ∙ ap (ltb 0) (sym (count_no p (f x) (map f xs) fails))
    ]
