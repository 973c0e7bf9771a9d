-- The bytes of a report.
use Rattle.std.specs.Prelude.{ℕ, ◌<◌, List, [], ◌∷◌}
use Rattle.std.specs.List.{flat_map}
use Rattle.chart.specs.declared.pieces.Side.{Side}
use Rattle.chart.specs.declared.pieces.Side.TheVariants.{Out, In}
use Rattle.analysis.specs.declared.races.Race.{Race}

abbrev pub side_byte : Side → ℕ
side_byte Out = 1
side_byte In = 2

-- the record of a pair (a, b): a, b, the instance, and the side of a
abbrev pub record_of : Race → List ℕ
record_of x = x.first.0 ∷ x.second.0 ∷ x.instance.0 ∷ side_byte x.side ∷ []

abbrev pub records : List Race → List ℕ
records xs = flat_map record_of xs

-- each number fits a byte
pub record Small (x : Race) : Type 0 where
  pub first : x.first.0 < 256
  pub second : x.second.0 < 256
  pub instance : x.instance.0 < 256
