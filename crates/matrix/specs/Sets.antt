-- Sets of places as words of 64 bits.
use Rattle.std.specs.Prelude.{ℕ, zero, suc, ◌+◌, ◌*◌, ◌/◌, ◌%◌, ◌^◌, Bool, cond, List, ◌==◌, slice_index}

abbrev pub word_count : ℕ
word_count = 2

-- how many places the words have
abbrev pub place_count : ℕ
place_count = word_count * 64

-- whether the bit k of the number w is set
unfoldable pub bit : ℕ → ℕ → Bool
bit w k = w / 2 ^ k % 2 == 1

-- whether the place x is in the set of these words
unfoldable pub member : List ℕ → ℕ → Bool
unfolding bit
member ws x = bit (slice_index ws (x / 64)) (x % 64)

-- how many numbers below n pass the test p
unfoldable pub count_below : (ℕ → Bool) → ℕ → ℕ
count_below p zero = 0
count_below p (suc n) = count_below p n + cond (p n) 1 0
