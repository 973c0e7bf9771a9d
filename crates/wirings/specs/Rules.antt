-- The hold rules of the bottoms.
use Rattle.std.specs.Prelude.{Bool, false, ◌&&◌, ◌==◌}
use Rattle.delivery.specs.declared.parcel.Tag.{Tag}

abbrev pub no_hold : Tag → Tag → Bool
no_hold a b = false

abbrev pub same_pair : Tag → Tag → Bool
same_pair a b = a.sender.number == b.sender.number && a.receiver.number == b.receiver.number

abbrev pub same_receiver : Tag → Tag → Bool
same_receiver a b = a.receiver.number == b.receiver.number
