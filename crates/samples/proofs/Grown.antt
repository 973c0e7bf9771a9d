-- Texts with one more name or line.
use Rattle.std.proofs.Common.{◌≡◌, ℕ, zero, suc, ◌+◌, ◌-◌, ◌≤◌, List, [], ◌++◌, codes, add-one, arith}
use Rattle.chart.specs.declared.pieces.Side.{Side}
use Rattle.samples.specs.Texts.{name_text, line_text, instances_text, lines_text}

pub instances_more : (between : List ℕ) (n : ℕ) → 1 ≤ n → instances_text between (n + 1 - 1) ≡ instances_text between (n - 1) ++ codes ", " ++ name_text 105 between n
unfolding instances_text
instances_more between zero h = absurd (omega arith)
instances_more between (suc m) h =
    let after : suc m + 1 - 1 ≡ suc m = omega arith in
    let before : suc m - 1 ≡ m = omega arith in
    rw (after, before)

pub lines_more : (side : Side) (n : ℕ) → lines_text side (n + 1) ≡ lines_text side n ++ line_text side (name_text 109 [] n) (codes "p") (codes "q")
unfolding lines_text
lines_more side n = rw add-one
