-- A bench's own copy of a chart.
use Rattle.std.specs.Prelude.{◌≡◌, ℕ, Bool, false, List, map, vec_items, ◌==◌}
use Rattle.chart.specs.Charted.{drawn}
use Rattle.chart.specs.Content.{Happening, message_of, Content}
use Rattle.order.specs.Scenes.{tag_of}
use Rattle.chart.specs.declared.charting.asking.Line.{Line}
use Rattle.chart.specs.declared.pieces.Side.{Side}
use Rattle.chart.specs.declared.pieces.Side.TheVariants.{Out, In}
use Rattle.bench.specs.declared.layout.Layout.{Layout}
use Rattle.bench.specs.declared.layout.Placed.{Placed}

-- an event as it is kept
abbrev pub placed : Content → Happening → Placed
placed c h = record { line = drawn c h; tag = tag_of c (message_of h) }

-- a chart as it is kept
abbrev pub copied : Content → List Placed
copied c = map (placed c) c.events

-- what a copy says of its chart, whichever chart it is a copy of
abbrev pub OnCopy : Layout → (Content → Type 0) → Type 0
OnCopy l Says = (c : Content) → vec_items l.places ≡ copied c → Says c

abbrev sends_on : ℕ → Side → ℕ → Bool
sends_on m Out n = n == m
sends_on m In n = false

-- the line is the out event of message m
abbrev pub line_sends : ℕ → Line → Bool
line_sends m l = sends_on m l.side l.message.0
