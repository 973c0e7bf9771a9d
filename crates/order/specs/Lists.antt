-- What stands in a list, how often, and in which order.
use Rattle.std.specs.Prelude.{◌≡◌, ℕ, ◌<◌, cond, ◌⊎◌, List, [], ◌∷◌, ◌==◌}

-- x stands in the list
abbrev pub Has : {X : Type 0} → X → List X → Type 0
Has x [] = ⊥
Has x (y ∷ ys) = (x ≡ y) ⊎ Has x ys

-- no element stands twice
abbrev pub Once : {X : Type 0} → List X → Type 0
Once [] = Unit
Once (x ∷ xs) = (¬ Has x xs) × Once xs

-- m stands ahead of n
abbrev pub Ahead : ℕ → ℕ → List ℕ → Type 0
Ahead m n [] = ⊥
Ahead m n (x ∷ xs) = ((m ≡ x) × Has n xs) ⊎ Ahead m n xs

-- the list without n, the rest in their order
abbrev pub without : ℕ → List ℕ → List ℕ
without n [] = []
without n (x ∷ xs) = cond (n == x) (without n xs) (x ∷ without n xs)

-- (a, b) comes before (c, d): by the first number, then by the second
abbrev pub Earlier : ℕ × ℕ → ℕ × ℕ → Type 0
Earlier p q = (p.0 < q.0) ⊎ ((p.0 ≡ q.0) × (p.1 < q.1))

-- each pair comes before all that stand after it; so none stands twice
abbrev pub Rising : List (ℕ × ℕ) → Type 0
Rising [] = Unit
Rising (p ∷ ps) = ((q : ℕ × ℕ) → Has q ps → Earlier p q) × Rising ps
