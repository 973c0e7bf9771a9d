-- The place of an event in a set: out(0), in(0), out(1), in(1), and so on.
use Rattle.std.specs.Prelude.{ℕ, ◌+◌, ◌*◌}
use Rattle.chart.specs.Content.{Happening, sent, received}

-- how many messages and how many events a chart has at most
abbrev pub message_limit : ℕ
message_limit = 64

abbrev pub event_limit : ℕ
event_limit = 128

abbrev pub place_of : Happening → ℕ
place_of (sent m) = 2 * m
place_of (received m) = 2 * m + 1
