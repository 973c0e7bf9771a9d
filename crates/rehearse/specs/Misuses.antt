-- The words for a program that was called wrongly.
use Rattle.std.specs.Prelude.{codes}
use Rattle.chart.specs.Words.{Text}

-- how the program is called
abbrev pub usage_words : Text
usage_words = codes "usage: rehearse [FILE]\nShows the chart of FILE, or of standard input where FILE is left out or is -."
