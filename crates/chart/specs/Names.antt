-- A name by its text.
use Rattle.std.specs.Prelude.{cond, length, take, Ok, Err, Result, nat_lt}
use Rattle.chart.specs.Words.{Text, name_like}
use Rattle.chart.specs.declared.names.Name.{Name}
use Rattle.chart.specs.declared.names.NameRefusal.{NameRefusal}
use Rattle.chart.specs.declared.names.NameRefusal.TheVariants.{NotAName, TooLong}

abbrev pub text_of : Name → Text
text_of n = take n.len n.bytes

abbrev pub name_of : Result Name NameRefusal → Result Text NameRefusal
name_of (Ok n) = Ok (text_of n)
name_of (Err e) = Err e

-- the name that a text is, or why it is none
abbrev pub judged : Text → Result Text NameRefusal
judged t = cond (name_like t) (cond (nat_lt 24 (length t)) (Err TooLong) (Ok t)) (Err NotAName)
