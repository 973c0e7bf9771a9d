-- The messages that wait after a record, as the parcels that a delivery keeps.
use Rattle.std.specs.Prelude.{ℕ, List, map}
use Rattle.chart.specs.Content.{Happening, Content}
use Rattle.delivery.specs.declared.parcel.Parcel.{Parcel}
use Rattle.order.specs.Runs.{waits}
use Rattle.order.specs.Scenes.{tag_of}

-- the parcel of message m
abbrev pub parcel_of_message : Content → ℕ → Parcel
parcel_of_message c m = record { message = record { 0 = m }; tag = tag_of c m }

abbrev pub parcels : Content → List ℕ → List Parcel
parcels c w = map (parcel_of_message c) w

-- what waits in a delivery after a record of firings, the latest first
abbrev pub waiting_after : Content → List Happening → List Parcel
waiting_after c r = parcels c (waits r)
