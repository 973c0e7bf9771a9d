use Rattle.std.proofs.Common.{◌≡◌, ℕ, ◌&&◌, ltb}
use Rattle.matrix.specs.Models.{has, precedes}
use Rattle.matrix.proofs.matrices.OrderMatrix.column.Given as goal

abbrev pub invariant-loop-i : goal.invariant-loop-i
invariant-loop-i l = (y : ℕ) → has l.column y ≡ (ltb y l.i && precedes l.self l.place.number y)
