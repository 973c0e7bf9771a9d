-- How much room a writer has.
use Rattle.std.proofs.Common.{◌≡◌, ℕ, ◌≤◌, List, length, drop, ap, arith, length-append, length-drop}
use Rattle.analysis.specs.Writing.{Wrote}
use Rattle.analysis.specs.declared.writing.Writer.{Writer}

pub wrote_length : (xs ys : List ℕ) (w : Writer) → Wrote xs ys w → length ys ≤ length xs → length w.buffer.now ≡ length xs
wrote_length xs ys w wrote l = omega (arith, ap length wrote.front, length-append ys (drop (length ys) xs), length-drop (length ys) xs)
