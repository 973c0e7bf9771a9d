-- The names that a chart has for numbers.
use Rattle.std.specs.Prelude.{◌++◌, codes, nat_lt, cond, length, slice_index_or}
use Rattle.chart.specs.Content.{Content}
use Rattle.chart.specs.Words.{Text}
use Rattle.chart.specs.declared.numbers.MessageId.{MessageId}
use Rattle.delivery.specs.declared.parcel.Tag.{Tag}
use Rattle.delivery.specs.declared.station.Station.{Station}
use Rattle.reader.specs.Meaning.{message_name}

-- the name of a message, if the chart has it
abbrev pub message_words : Content → MessageId → Text
message_words c m = cond (nat_lt m.0 (length c.messages)) (message_name c m.0) (codes "unknown")

-- the name of the instance whose number a station shows, if there is one
abbrev pub station_words : Content → Station → Text
station_words c s = slice_index_or c.instances s.number (codes "unknown")

-- from whom to whom
abbrev pub ends_words : Content → Tag → Text
ends_words c t = station_words c t.sender ++ (codes " to " ++ station_words c t.receiver)
