-- The record of a bench: the events that were fired, in order.
use Rattle.std.specs.Prelude.{ℕ, Bool, true, not, ◌&&◌, List, [], ◌∷◌, map, reverse, ◌==◌, nat_lt}
use Rattle.std.specs.List.{list_any, list_all}
use Rattle.chart.specs.Content.{Happening, Content}
use Rattle.chart.specs.declared.numbers.EventId.{EventId}
use Rattle.order.specs.Scenes.{event_at}

-- event n is in the record
abbrev pub fired_in : ℕ → List EventId → Bool
fired_in n r = list_any (λ (e : EventId). e.0 == n) r

-- no event is there twice
abbrev pub once : List EventId → Bool
once [] = true
once (e ∷ r) = not (fired_in e.0 r) && once r

-- each of its events has a number below n
abbrev pub within : ℕ → List EventId → Bool
within n r = list_all (λ (e : EventId). nat_lt e.0 n) r

-- what its events do, and the same as a run has it, the latest first
abbrev pub happenings : Content → List EventId → List Happening
happenings c r = map (λ (e : EventId). event_at c e.0) r

abbrev pub past : Content → List EventId → List Happening
past c r = reverse (happenings c r)
