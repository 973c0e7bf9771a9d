-- Tests with what they say.
use Rattle.std.proofs.Common.{◌≡◌, ℕ, Bool, true, false, not, ◌&&◌, ◌||◌, T, eqb, ◌⊎◌, refl, subst, inl, inr, ⊎_elim, eqb→eq}
use lib.Dec.{eqb_refl}

-- the test answers whether A
pub data Says (A : Type 0) : Bool → Type 0 where
  right : A → Says A true
  wrong : ¬ A → Says A false

pub says_test : (b : Bool) → Says (T b) b
says_test true = right tt
says_test false = wrong (λ z. z)

pub says_as : {A B : Type 0} {b : Bool} → (A → B) → (B → A) → Says A b → Says B b
says_as f g (right a) = right (f a)
says_as f g (wrong na) = wrong (λ b. na (g b))

pub says_same : (x y : ℕ) → Says (x ≡ y) (eqb x y)
says_same x y = says_as (eqb→eq x y) (λ e. subst (λ z. T (eqb x z)) e (eqb_refl x)) (says_test (eqb x y))

pub says_not : {A : Type 0} {b : Bool} → Says A b → Says (¬ A) (not b)
says_not (right a) = wrong (λ f. f a)
says_not (wrong na) = right na

pub says_and : {A B : Type 0} {a b : Bool} → Says A a → Says B b → Says (A × B) (a && b)
says_and (right a) (right b) = right (a, b)
says_and (right a) (wrong nb) = wrong (λ t. nb t.1)
says_and (wrong na) sb = wrong (λ t. na t.0)

pub says_or : {A B : Type 0} {a b : Bool} → Says A a → Says B b → Says (A ⊎ B) (a || b)
says_or (right a) sb = right (inl a)
says_or (wrong na) (right b) = right (inr b)
says_or (wrong na) (wrong nb) = wrong (⊎_elim na nb)

pub says_no : {A : Type 0} {b : Bool} → Says A b → ¬ A → b ≡ false
says_no (right a) na = absurd (na a)
says_no (wrong z) na = refl
