-- What a chart says.
use Rattle.std.specs.Prelude.{ℕ, cond, length, Some, None, Option, nat_lt, slice_index_or}
use Rattle.chart.specs.Content.{Content, Happening, sent, received, sender_of, receiver_of}
use Rattle.chart.specs.Shown.{content_of}
use Rattle.chart.specs.declared.charting.Chart.{Chart}
use Rattle.chart.specs.declared.charting.asking.Line.{Line}
use Rattle.chart.specs.declared.pieces.Side.TheVariants as side

abbrev pub content : Chart → Content
content c = content_of c.parts

-- a message is sent at its sender and received at its receiver
abbrev pub drawn : Content → Happening → Line
drawn c (sent m) = record { instance = record { 0 = sender_of c m }; side = side.Out; message = record { 0 = m } }
drawn c (received m) = record { instance = record { 0 = receiver_of c m }; side = side.In; message = record { 0 = m } }

abbrev pub line_of : Content → ℕ → Option Line
line_of c e = cond (nat_lt e (length c.events)) (Some (drawn c (slice_index_or c.events e (sent 0)))) None
