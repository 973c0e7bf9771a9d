-- What a report of these pairs answers and leaves.
use Rattle.std.specs.Prelude.{ℕ, ◌*◌, Bool, cond, List, ◌++◌, length, drop, Ok, Err, Result, nat_lt}
use Rattle.analysis.specs.Records.{records}
use Rattle.analysis.specs.declared.races.Race.{Race}
use Rattle.analysis.specs.declared.refusals.ReportRefusal.{ReportRefusal}
use Rattle.analysis.specs.declared.refusals.ReportRefusal.TheVariants.{TooShort}

-- a buffer has no room for a record of each
abbrev pub too_short : List Race → List ℕ → Bool
too_short xs old = nat_lt (length old) (4 * length xs)

-- their count, or a refusal that tells it
abbrev pub counted : List Race → List ℕ → Result ℕ ReportRefusal
counted xs old = cond (too_short xs old) (Err (TooShort (length xs))) (Ok (length xs))

-- a record of each, and then what the buffer had there; or all that it had
abbrev pub reported : List Race → List ℕ → List ℕ
reported xs old = cond (too_short xs old) old (records xs ++ drop (4 * length xs) old)
