-- What a set and a matrix hold.
use Rattle.std.specs.Prelude.{ℕ, Bool, [], slice_index_or}
use Rattle.matrix.specs.Sets.{member}
use Rattle.matrix.specs.declared.sets.EventSet.{EventSet}
use Rattle.matrix.specs.declared.matrices.OrderMatrix.{OrderMatrix}

-- whether the place x is in the set
abbrev pub has : EventSet → ℕ → Bool
has s x = member s.words x

abbrev pub no_words : EventSet
no_words = record { words = [] }

-- the row of the place y: the places before it
abbrev pub row_of : OrderMatrix → ℕ → EventSet
row_of o y = slice_index_or o.rows y no_words

-- whether the matrix holds that x comes before y
abbrev pub precedes : OrderMatrix → ℕ → ℕ → Bool
precedes o x y = has (row_of o y) x
