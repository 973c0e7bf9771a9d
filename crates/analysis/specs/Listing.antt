-- The listing, and what a call for one of its lines answers and leaves.
use Rattle.std.specs.Prelude.{ℕ, cond, List, [], ◌∷◌, ◌++◌, map, length, drop, Ok, Err, codes, decimal, Result, nat_lt, slice_index_or}
use Rattle.chart.specs.Content.{Content}
use Rattle.chart.specs.Words.{Text}
use Rattle.analysis.specs.declared.races.Race.{Race}
use Rattle.analysis.specs.declared.refusals.ListingRefusal.{ListingRefusal}
use Rattle.analysis.specs.declared.refusals.ListingRefusal.TheVariants.{TooShort, BeyondLast}

-- "race a b NAME" and a line feed
abbrev pub race_line : Content → Race → Text
race_line c x =
    codes "race " ++ (decimal x.first.0 ++ (codes " " ++ (decimal x.second.0 ++ (codes " " ++ (slice_index_or c.instances x.instance.0 [] ++ codes "\n")))))

-- "pairs N" and a line feed
abbrev pub count_line : ℕ → Text
count_line n = codes "pairs " ++ (decimal n ++ codes "\n")

-- a line for each pair, and then their count
abbrev pub listing : Content → List Race → List Text
listing c xs = map (race_line c) xs ++ count_line (length xs) ∷ []

abbrev pub line_of : Content → List Race → ℕ → Text
line_of c xs k = slice_index_or (listing c xs) k []

-- the length of the line, unless the buffer is too short for any line or there is no such line
abbrev pub line_answer : Content → List Race → ℕ → List ℕ → Result ℕ ListingRefusal
line_answer c xs k old = cond (nat_lt (length old) 48) (Err TooShort) (cond (nat_lt (length xs) k) (Err BeyondLast) (Ok (length (line_of c xs k))))

-- the line, and then what the buffer had there; or all that it had
abbrev pub line_written : Content → List Race → ℕ → List ℕ → List ℕ
line_written c xs k old = cond (nat_lt (length old) 48) old (cond (nat_lt (length xs) k) old (line_of c xs k ++ drop (length (line_of c xs k)) old))
