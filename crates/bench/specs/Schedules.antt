-- Schedules: what their bytes say, and which of their records are bad.
use Rattle.std.specs.Prelude.{◌≡◌, ◌≢◌, ℕ, ◌*◌, ◌<◌, Bool, true, false, ◌&&◌, ◌⊎◌, List, [], ◌∷◌, map, length, take, Some, None, Option, ◌==◌, nat_lt, slice_index, slice_index_or}
use Rattle.std.specs.Borrow.{Bor}
use Rattle.chart.specs.Content.{message_of, Content}
use Rattle.chart.specs.Repeats.{RepeatAt}
use Rattle.order.specs.Scenes.{event_at}
use Rattle.bench.specs.declared.schedule.Entry.{Entry}

abbrev pub entry : ℕ → ℕ → Entry
entry e m = record { event = record { 0 = e }; message = record { 0 = m } }

-- two bytes for each record: the event, then its message
abbrev pub decoded : List ℕ → List Entry
decoded [] = []
decoded (e ∷ []) = []
decoded (e ∷ m ∷ bs) = entry e m ∷ decoded bs

-- the two bytes of one record
abbrev pub entry_of : List ℕ → Entry
entry_of bs = entry (slice_index bs 0) (slice_index bs 1)

abbrev pub entry_at : List Entry → ℕ → Entry
entry_at es k = slice_index_or es k (entry 0 0)

abbrev pub same_event : Entry → Entry → Bool
same_event x y = x.event.0 == y.event.0

-- a record names an event of the chart, with its message
abbrev pub fits : Content → Entry → Bool
fits c x = nat_lt x.event.0 (length c.events) && message_of (event_at c x.event.0) == x.message.0

-- record k is bad: it names no event of the chart with its message, or an event that an earlier record names
abbrev pub BadAt : Content → List Entry → ℕ → Type 0
BadAt c es k = (fits c (entry_at es k) ≡ false) ⊎ RepeatAt same_event es k

abbrev pub FirstBad : Content → List Entry → ℕ → Type 0
FirstBad c es k = (k < length es) × BadAt c es k × ((j : ℕ) → j < k → BadAt c es j → ⊥)

-- bytes in pairs: so many, if there are just as many bytes as these need
abbrev pub Cut : List ℕ → ℕ → Option (Bor (List (List ℕ))) → Type 0
Cut bytes n None = length bytes ≢ 2 * n
Cut bytes n (Some records) = (length bytes ≡ 2 * n) × (length records.now ≡ n) × (map entry_of records.now ≡ decoded bytes)

-- the records were copied up to the first that does not fit
abbrev pub Walked : Content → List Entry → Option ℕ → List Entry → Type 0
Walked c es None taken = (taken ≡ es) × ((j : ℕ) → j < length es → fits c (entry_at es j) ≡ true)
Walked c es (Some k) taken =
    (k < length es) × (taken ≡ take k es) × (fits c (entry_at es k) ≡ false) × ((j : ℕ) → j < k → fits c (entry_at es j) ≡ true)

-- the whole schedule was copied, or its first bad record is named
abbrev pub Read : Content → List Entry → Option ℕ → List Entry → Type 0
Read c es None taken = (taken ≡ es) × ((k : ℕ) → k < length es → BadAt c es k → ⊥)
Read c es (Some k) taken = FirstBad c es k
