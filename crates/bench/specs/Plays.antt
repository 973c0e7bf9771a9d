-- What begin, advance and close do.
use Rattle.std.specs.Prelude.{◌≡◌, ℕ, ◌+◌, ◌*◌, ◌<◌, ◌≤◌, true, false, ◌⊎◌, List, [], length, is_some, Some, None, Option, Result, ◌≢◌}
use Rattle.chart.specs.declared.numbers.EventId.{EventId}
use Rattle.bench.specs.declared.refusal.Refusal.{Refusal}
use Rattle.bench.specs.declared.refusal.Refusal.TheVariants.{PlayOpen, NotInChart, Unfired, RecordNotEmpty, BadSchedule, NoPlay, NoEventLeft}
use Rattle.bench.specs.Firings.{Bars, FiredNext}
use Rattle.bench.specs.Schedules.{decoded, entry_at, FirstBad}
use Rattle.bench.specs.States.{Stage, Play, State, Does}

abbrev pub with_play : State → Option Play → State
with_play s p = record { fired = s.fired; waiting = s.waiting; play = p }

-- the schedule is not two bytes for each event, for which 0 is named, or its first bad record is named
abbrev pub Unplayable : Stage → List ℕ → ℕ → Type 0
Unplayable g bytes k =
    ((length bytes ≢ 2 * length g.chart.events) × (k ≡ 0))
    ⊎ ((length bytes ≡ 2 * length g.chart.events) × FirstBad g.chart (decoded bytes) k)

abbrev pub BarsBegin : Stage → State → List ℕ → Refusal → Type 0
BarsBegin g s bytes PlayOpen = is_some s.play ≡ true
BarsBegin g s bytes (NotInChart x) = ⊥
BarsBegin g s bytes (Unfired f o) = ⊥
BarsBegin g s bytes RecordNotEmpty = s.fired ≡ [] → ⊥
BarsBegin g s bytes (BadSchedule k) = Unplayable g bytes k
BarsBegin g s bytes NoPlay = ⊥
BarsBegin g s bytes NoEventLeft = ⊥

-- a play of just this schedule is open, and none of its events was fired
abbrev pub Begun : {X : Type 0} → Stage → State → List ℕ → Result X Refusal → State → Type 0
Begun g s bytes r t = Does (BarsBegin g s bytes) (λ _ u. u ≡ with_play s (Some (record { entries = decoded bytes; done = 0 }))) s r t

-- the next event of a play
abbrev pub next_of : Play → EventId
next_of p = (entry_at p.entries p.done).event

abbrev pub BarsNext : Stage → State → Option Play → Refusal → Type 0
BarsNext g s None PlayOpen = ⊥
BarsNext g s None (NotInChart x) = ⊥
BarsNext g s None (Unfired f o) = ⊥
BarsNext g s None RecordNotEmpty = ⊥
BarsNext g s None (BadSchedule k) = ⊥
BarsNext g s None NoPlay = Unit {0}
BarsNext g s None NoEventLeft = ⊥
BarsNext g s (Some p) PlayOpen = ⊥
BarsNext g s (Some p) (NotInChart x) = (p.done < length p.entries) × Bars g s (next_of p) (NotInChart x)
BarsNext g s (Some p) (Unfired f o) = (p.done < length p.entries) × Bars g s (next_of p) (Unfired f o)
BarsNext g s (Some p) RecordNotEmpty = ⊥
BarsNext g s (Some p) (BadSchedule k) = ⊥
BarsNext g s (Some p) NoPlay = ⊥
BarsNext g s (Some p) NoEventLeft = length p.entries ≤ p.done

-- the next event was fired, and the play is one event further
abbrev pub Onward : Stage → State → Option Play → State → Type 0
Onward g s None t = ⊥
Onward g s (Some p) t = FiredNext g s (next_of p) (Some (record { entries = p.entries; done = p.done + 1 })) t

abbrev pub Advanced : Stage → State → Result (Unit {0}) Refusal → State → Type 0
Advanced g s r t = Does (BarsNext g s s.play) (λ _. Onward g s s.play) s r t

abbrev pub BarsClose : State → Refusal → Type 0
BarsClose s PlayOpen = ⊥
BarsClose s (NotInChart x) = ⊥
BarsClose s (Unfired f o) = ⊥
BarsClose s RecordNotEmpty = ⊥
BarsClose s (BadSchedule k) = ⊥
BarsClose s NoPlay = is_some s.play ≡ false
BarsClose s NoEventLeft = ⊥

-- n events of the play were fired, which are all that the record has, and no play is open
abbrev pub Ended : State → Option Play → ℕ → State → Type 0
Ended s None n t = ⊥
Ended s (Some p) n t = (n ≡ p.done) × (n ≡ length s.fired) × (t ≡ with_play s None)

abbrev pub Closed : State → Result ℕ Refusal → State → Type 0
Closed s r t = Does (BarsClose s) (Ended s s.play) s r t
