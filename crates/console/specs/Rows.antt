-- What the row of an event tells.
use Rattle.std.specs.Prelude.{ℕ, cond, ◌++◌, length, Some, None, codes, Option, nat_lt, slice_index_or}
use Rattle.chart.specs.Words.{Text}
use Rattle.chart.specs.Names.{text_of}
use Rattle.chart.specs.Content.{Content, Happening, sent, received, sender_of, receiver_of}
use Rattle.chart.specs.declared.numbers.InstanceId.{InstanceId}
use Rattle.chart.specs.declared.pieces.Message.{Message}
use Rattle.chart.specs.declared.pieces.Side.{Side}
use Rattle.chart.specs.declared.pieces.Side.TheVariants as side
use Rattle.reader.specs.Meaning.{instance_name, message_name}
use Rattle.console.specs.declared.table.Row.{Row}

-- the instance of an event, its side and message, and the instance at the other end
pub record Telling : Type 0 where
  pub instance : Text
  pub side : Side
  pub message : Text
  pub partner : Text

abbrev pub telling_of : Content → Happening → Telling
telling_of c (sent m) = record { instance = instance_name c (sender_of c m); side = side.Out; message = message_name c m; partner = instance_name c (receiver_of c m) }
telling_of c (received m) = record { instance = instance_name c (receiver_of c m); side = side.In; message = message_name c m; partner = instance_name c (sender_of c m) }

abbrev pub row_of : Content → ℕ → Option Telling
row_of c e = cond (nat_lt e (length c.events)) (Some (telling_of c (slice_index_or c.events e (sent 0)))) None

-- a row of the code, without its references
abbrev pub told : Row → Telling
told r = record { instance = text_of r.instance.now; side = r.side; message = text_of r.message.now; partner = text_of r.partner.now }

abbrev pub partner_of : Side → Message → InstanceId
partner_of side.Out m = m.receiver
partner_of side.In m = m.sender

-- the words of a row's last column
abbrev pub line_words : Side → Text → Text → Text
line_words side.Out message partner = codes "out " ++ (message ++ (codes " to " ++ partner))
line_words side.In message partner = codes "in " ++ (message ++ (codes " from " ++ partner))

abbrev pub told_words : Telling → Text
told_words t = line_words t.side t.message t.partner
