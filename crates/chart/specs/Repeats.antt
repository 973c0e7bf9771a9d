-- The first element that repeats an earlier one.
use Rattle.std.specs.Prelude.{◌≡◌, ℕ, ◌<◌, Bool, true, false, List, length, Some, None, Option, slice_index_or}

module _ {X : Type 0} (same : X → X → Bool) where
  -- the element at k is the same as an earlier one
  abbrev pub RepeatAt : List X → ℕ → Type 0
  RepeatAt xs k = (j : ℕ) × (j < k) × ((d : X) → same (slice_index_or xs j d) (slice_index_or xs k d) ≡ true)

  -- no two of the first n elements are the same
  abbrev pub Apart : List X → ℕ → Type 0
  Apart xs n = (k : ℕ) → k < n → (j : ℕ) → j < k → (d : X) → same (slice_index_or xs j d) (slice_index_or xs k d) ≡ false

  abbrev pub FirstRepeat : List X → Option ℕ → Type 0
  FirstRepeat xs None = Apart xs (length xs)
  FirstRepeat xs (Some k) = (k < length xs) × RepeatAt xs k × Apart xs k
