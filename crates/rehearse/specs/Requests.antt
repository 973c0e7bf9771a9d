-- What a word of the command line asks for.
use Rattle.std.specs.Prelude.{Bool, false, cond, [], ◌∷◌, Some, None, string_bytes, codes, Option, ◌==◌}
use Rattle.std.specs.Str.{bytes_eq}
use Rattle.chart.specs.Words.{Text}
use Rattle.console.specs.Options.{dashed}
use Rattle.rehearse.specs.declared.arguments.Request.{Request}
use Rattle.rehearse.specs.declared.arguments.Request.TheVariants.{Help, Show}
use Rattle.console.specs.declared.source.Source.{Source}
use Rattle.console.specs.declared.source.Source.TheVariants.{Input, File}

-- how to use the program, the chart of standard input, or that of a file
pub data Wish : Type 0 where
  usage : Wish
  input : Wish
  file : Text → Wish

abbrev pub source_wish : Source → Wish
source_wish Input = input
source_wish (File path) = file (string_bytes path)

abbrev pub wish_of : Request → Wish
wish_of Help = usage
wish_of (Show source) = source_wish source

abbrev pub asked : Text → Option Wish
asked t = cond (bytes_eq t (codes "--help")) (Some usage) (cond (bytes_eq t (codes "-")) (Some input) (cond (dashed t) None (Some (file t))))
