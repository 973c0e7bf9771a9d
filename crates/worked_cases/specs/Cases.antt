-- Charts to work by, and their reversible pairs over the wirings.
use Rattle.std.specs.Prelude.{ℕ, min, Bool, true, false, List, [], ◌∷◌, replicate, codes}
use Rattle.chart.specs.Words.{Text}
use Rattle.chart.specs.Content.{sent, received, Post, Content}
use Rattle.delivery.specs.declared.parcel.Tag.{Tag}
use Rattle.delivery.specs.declared.station.Station.{Station}
use Rattle.delivery.specs.Waiting.{message_limit}
use Rattle.wirings.specs.Rules.{no_hold, same_pair, same_receiver}
use Rattle.layers.specs.Shown.{shown}
use Rattle.order.specs.Scenes.{station}
use Rattle.order.specs.Report.{Reports}

abbrev pub message : Text → ℕ → ℕ → Post
message name sender receiver = record { name = name; sender = sender; receiver = receiver }

-- pc sets gen and reads met; gen and met answer
abbrev pub step : Content
step = record {
  title = codes "step";
  instances = codes "pc" ∷ codes "gen" ∷ codes "met" ∷ [];
  messages = message (codes "set") 0 1 ∷ message (codes "read") 0 2 ∷ message (codes "lvl") 1 0 ∷ message (codes "val") 2 0 ∷ [];
  events = sent 0 ∷ received 0 ∷ sent 1 ∷ received 1 ∷ sent 2 ∷ received 2 ∷ sent 3 ∷ received 3 ∷ [];
}

-- p sends two messages to q
abbrev pub twin : Content
twin = record {
  title = codes "twin";
  instances = codes "p" ∷ codes "q" ∷ [];
  messages = message (codes "m0") 0 1 ∷ message (codes "m1") 0 1 ∷ [];
  events = sent 0 ∷ sent 1 ∷ received 0 ∷ received 1 ∷ [];
}

-- p sends two messages to r, and one to q, which then sends one to r
abbrev pub throng : Content
throng = record {
  title = codes "crowd";
  instances = codes "p" ∷ codes "q" ∷ codes "r" ∷ [];
  messages = message (codes "m0") 0 2 ∷ message (codes "m1") 0 2 ∷ message (codes "m2") 0 1 ∷ message (codes "m3") 1 2 ∷ [];
  events = sent 0 ∷ sent 1 ∷ sent 2 ∷ received 2 ∷ sent 3 ∷ received 0 ∷ received 1 ∷ received 3 ∷ [];
}

-- p sends two messages to q, which receives the second and only then, once r has been asked and before it answers, the first
abbrev pub detour : Content
detour = record {
  title = codes "detour";
  instances = codes "p" ∷ codes "q" ∷ codes "r" ∷ [];
  messages = message (codes "m0") 0 1 ∷ message (codes "m1") 0 1 ∷ message (codes "m2") 1 2 ∷ message (codes "m3") 2 1 ∷ [];
  events = sent 0 ∷ sent 1 ∷ received 1 ∷ sent 2 ∷ received 2 ∷ sent 3 ∷ received 0 ∷ received 3 ∷ [];
}

-- the hold rule of a relay with this number over one below, for a group that is told by its members' numbers
abbrev pub relayed : List Bool → Station → (Tag → Tag → Bool) → Tag → Tag → Bool
relayed group relay below a b = below (shown group relay a) (shown group relay b)

-- the group of instances 0 and 1
abbrev pub first_two : List Bool
first_two = true ∷ true ∷ replicate 14 false

-- a relay of these two over the paired line
abbrev pub relay_of_two : Tag → Tag → Bool
relay_of_two = relayed first_two (station 16) same_pair

-- the reversible pairs of these charts, each over the hold rule and the capacity of a wiring; a meeting (rendezvous) has the bag's rule,
-- a bound the smaller of its number and the capacity below
pub record WorkedCases : Type 0 where
  pub step_bag : Reports step no_hold message_limit ((2, 5) ∷ (5, 7) ∷ [])
  pub step_meeting : Reports step no_hold 1 ((2, 5) ∷ (5, 7) ∷ [])
  pub step_paired_line : Reports step same_pair message_limit ((2, 5) ∷ (5, 7) ∷ [])
  pub twin_bag : Reports twin no_hold message_limit ((2, 3) ∷ [])
  pub twin_paired_line : Reports twin same_pair message_limit []
  pub twin_mailbox : Reports twin same_receiver message_limit []
  pub throng_paired_line : Reports throng same_pair message_limit ((5, 7) ∷ (6, 7) ∷ [])
  pub throng_mailbox : Reports throng same_receiver message_limit []
  pub throng_relay : Reports throng relay_of_two message_limit []
  pub throng_bound_three : Reports throng same_pair (min 3 message_limit) ((5, 7) ∷ (6, 7) ∷ [])
  pub throng_bound_two : Reports throng same_pair (min 2 message_limit) ((6, 7) ∷ [])
