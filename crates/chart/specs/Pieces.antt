-- The message and the side of an event, and where each side of a message is.
use Rattle.chart.specs.declared.numbers.InstanceId.{InstanceId}
use Rattle.chart.specs.declared.numbers.MessageId.{MessageId}
use Rattle.chart.specs.declared.pieces.Event.{Event}
use Rattle.chart.specs.declared.pieces.Event.TheVariants.{Out, In}
use Rattle.chart.specs.declared.pieces.Message.{Message}
use Rattle.chart.specs.declared.pieces.Side.{Side}
use Rattle.chart.specs.declared.pieces.Side.TheVariants as side

abbrev pub message_number : Event → MessageId
message_number (Out m) = m
message_number (In m) = m

abbrev pub side_of : Event → Side
side_of (Out m) = side.Out
side_of (In m) = side.In

-- out at the sender, in at the receiver
abbrev pub instance_at : Message → Side → InstanceId
instance_at m side.Out = m.sender
instance_at m side.In = m.receiver
