-- Words of a command line.
use Rattle.std.specs.Prelude.{Bool, false, [], ◌∷◌, ◌==◌}
use Rattle.chart.specs.Words.{Text}

-- a word that begins with a dash looks like an option
abbrev pub dashed : Text → Bool
dashed [] = false
dashed (b ∷ bs) = b == 45
