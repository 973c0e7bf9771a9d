-- Tags as given above a relay, and as shown below it.
use Rattle.std.specs.Prelude.{◌≡◌, ℕ, Bool, false, cond, ◌&&◌, List, [], ◌∷◌, map, Result, nat_lt, slice_index_or}
use Rattle.std.specs.Result.{result_map_both}
use Rattle.delivery.specs.declared.parcel.Tag.{Tag}
use Rattle.delivery.specs.declared.parcel.Parcel.{Parcel}
use Rattle.delivery.specs.declared.refusal.TakeRefusal.{TakeRefusal}
use Rattle.delivery.specs.declared.station.Station.{Station}

-- instance n is in the group
abbrev pub in_group : List Bool → ℕ → Bool
in_group group n = nat_lt n 16 && slice_index_or group n false

-- a sender of the group gives way to the relay
abbrev pub shown : List Bool → Station → Tag → Tag
shown group relay t = cond (in_group group t.sender.number) (record { sender = relay; receiver = t.receiver }) t

-- the tag with which a parcel that waits below was put above
abbrev pub given_tag : List Tag → Parcel → Tag
given_tag given p = slice_index_or given p.message.0 p.tag

abbrev pub lifted : List Tag → Parcel → Parcel
lifted given p = record { message = p.message; tag = given_tag given p }

-- what a take answers above: the parcel as it was given
abbrev pub take_lifted : List Tag → Result Parcel TakeRefusal → Result Parcel TakeRefusal
take_lifted given answer = result_map_both (lifted given) (λ e. e) answer

-- the waiting parcels as they were given
abbrev pub as_given : List Tag → List Parcel → List Parcel
as_given given w = map (lifted given) w

-- each parcel waits below with the tag that its given one is shown by
abbrev pub Agree : (Tag → Tag) → List Tag → List Parcel → Type 0
Agree show given [] = Unit {0}
Agree show given (p ∷ w) = (p.tag ≡ show (given_tag given p)) × Agree show given w
