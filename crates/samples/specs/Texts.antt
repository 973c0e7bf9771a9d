-- Pieces of a chart's text, as bytes.
use Rattle.std.specs.Prelude.{ℕ, zero, suc, ◌+◌, ◌/◌, ◌%◌, List, [], ◌∷◌, ◌++◌, codes}
use Rattle.std.specs.List.{concat}
use Rattle.chart.specs.declared.pieces.Side.{Side}
use Rattle.chart.specs.declared.pieces.Side.TheVariants.{Out, In}

-- a letter, the bytes between, and the last two digits of a number
abbrev pub name_text : ℕ → List ℕ → ℕ → List ℕ
name_text letter between number = letter ∷ (between ++ (48 + number / 10 % 10) ∷ (48 + number % 10) ∷ [])

-- the name i00, and as many further ones, each after a comma
unfoldable pub instances_text : List ℕ → ℕ → List ℕ
instances_text between zero = name_text 105 between 0
instances_text between (suc n) = instances_text between n ++ codes ", " ++ name_text 105 between (suc n)

-- an event's line
abbrev pub line_text : Side → List ℕ → List ℕ → List ℕ → List ℕ
line_text Out message sender receiver = concat (sender ∷ codes ": out " ∷ message ∷ codes " to " ∷ receiver ∷ codes ";" ∷ [])
line_text In message sender receiver = concat (receiver ∷ codes ": in " ∷ message ∷ codes " from " ∷ sender ∷ codes ";" ∷ [])

-- the same by numbers, and a line feed
abbrev pub numbered_text : List ℕ → Side → ℕ → ℕ → ℕ → List ℕ
numbered_text between side message sender receiver = line_text side (name_text 109 between message) (name_text 105 between sender) (name_text 105 between receiver) ++ 10 ∷ []

-- a chart's title, its instances and its lines, with what stands between them
abbrev pub chart_text : List ℕ → List ℕ → List ℕ → List ℕ
chart_text title instances lines = concat (codes "msc " ∷ title ∷ codes "; inst " ∷ instances ∷ (59 ∷ 10 ∷ []) ∷ lines ∷ codes "endmsc;" ∷ [])

-- the lines of so many messages from p to q
unfoldable pub lines_text : Side → ℕ → List ℕ
lines_text side zero = []
lines_text side (suc n) = lines_text side n ++ line_text side (name_text 109 [] n) (codes "p") (codes "q")
