-- A chart over a delivery, as a scene.
use Rattle.std.specs.Prelude.{◌≡◌, ℕ, ◌%◌, ◌<◌, ◌≤◌, Bool, cond, ◌&&◌, List, length, Some, None, Option, ◌==◌, nat_lt, slice_index_or}
use Rattle.std.proofs.Common.{mod-lt, lit<}
use Rattle.chart.specs.Content.{Happening, sent, received, Content, sender_of, receiver_of, sent_at, received_at, AllJoin, Numbered, AllSent, AllReceived}
use Rattle.delivery.specs.declared.station.Station.{Station}
use Rattle.delivery.specs.declared.parcel.Tag.{Tag}
use Rattle.order.specs.Lists.{Has}
use Rattle.order.specs.Order.{Scene}

-- what the analysis needs of a chart, all of it part of being accepted
pub record Laid (c : Content) : Type 0 where
  pub few_instances : length c.instances ≤ 16
  pub all_join : AllJoin c
  pub is_numbered : Numbered c
  pub all_sent : AllSent c
  pub received_once : AllReceived c

-- the instance at which an event stands, and its number
abbrev pub instance_of : Content → Happening → ℕ
instance_of c (sent m) = sender_of c m
instance_of c (received m) = receiver_of c m

abbrev pub number_of : Content → Happening → ℕ
number_of c (sent m) = sent_at m c.events
number_of c (received m) = received_at m c.events

-- e stands at the sender of message n, and has a smaller number than its out event
abbrev pub above : Content → Happening → ℕ → Bool
above c e n = nat_lt n (length c.messages) && (instance_of c e == sender_of c n && nat_lt (number_of c e) (sent_at n c.events))

-- an instance's number in a tag; those of a chart are below 16 and stay as they are
abbrev pub station : ℕ → Station
station n = record { number = n % 128; fits = mod-lt n (lit< tt) }

-- the tag of message m
abbrev pub tag_of : Content → ℕ → Tag
tag_of c m = record { sender = station (sender_of c m); receiver = station (receiver_of c m) }

-- the same, if the chart has the message
abbrev pub known_tag : Content → ℕ → Option Tag
known_tag c m = cond (nat_lt m (length c.messages)) (Some (tag_of c m)) None

-- a chart over a delivery with this hold rule and this capacity
abbrev pub scene_of : Content → (Tag → Tag → Bool) → ℕ → Scene
scene_of c rule room =
    record { messages = length c.messages; local = above c; holds = λ m n. rule (tag_of c m) (tag_of c n); capacity = room }

-- the event with number i
abbrev pub event_at : Content → ℕ → Happening
event_at c i = slice_index_or c.events i (sent 0)

-- a pair: two events of one instance, a drawn above b
pub record PairAt (c : Content) (a b : ℕ) : Type 0 where
  pub drawn : a < b
  pub inside : b < length c.events
  pub together : instance_of c (event_at c a) ≡ instance_of c (event_at c b)

-- each event of the chart is in the record
abbrev pub AllFired : Content → List Happening → Type 0
AllFired c r = (i : ℕ) → i < length c.events → Has (event_at c i) r
