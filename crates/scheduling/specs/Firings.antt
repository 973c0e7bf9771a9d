-- The bytes of a schedule.
use Rattle.std.specs.Prelude.{ℕ, List, [], ◌∷◌}
use Rattle.std.specs.List.{flat_map}
use Rattle.chart.specs.Content.{Happening, message_of, Content}
use Rattle.order.specs.Scenes.{number_of}

-- the record of an event: its number, and that of its message
abbrev pub firing : Content → Happening → List ℕ
firing c e = number_of c e ∷ message_of e ∷ []

abbrev pub firings : Content → List Happening → List ℕ
firings c es = flat_map (firing c) es
