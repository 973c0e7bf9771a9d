-- Lines and columns, counted from 1.
use Rattle.std.specs.Prelude.{ℕ, ◌+◌, ◌++◌, Bool, not, codes, count_by, decimal, ◌==◌}
use Rattle.std.specs.List.{suffix_len}
use Rattle.chart.specs.Words.{Text}
use Rattle.console.specs.declared.positions.Position.{Position}

abbrev pub is_line_feed : ℕ → Bool
is_line_feed b = b == 10

abbrev pub is_other : ℕ → Bool
is_other b = not (is_line_feed b)

-- the line that follows these bytes: one more than their line feeds
abbrev pub line_after : Text → ℕ
line_after bs = 1 + count_by is_line_feed bs

-- its column: one more than the bytes after the last line feed
abbrev pub column_after : Text → ℕ
column_after bs = 1 + suffix_len is_other bs

abbrev pub position_words : Position → Text
position_words p = codes "line " ++ (decimal p.line ++ (codes ", column " ++ decimal p.column))
