-- Which refusal begin, advance and close give.
use Rattle.std.proofs.Common.{◌≡◌, ℕ, ◌+◌, ◌*◌, ◌<◌, false, List, [], ◌∷◌, ◌++◌, map, length, take, is_some, Some, sym, ap, ◌∙◌, inl, inr, arith}
use Rattle.std.proofs.lemmas.List.{map_more}
use Rattle.std.proofs.lemmas.Bool.{both_ways}
use Rattle.chart.specs.declared.numbers.EventId.{EventId}
use Rattle.bench.specs.Benches.{InStep}
use Rattle.bench.specs.Firings.{Bars}
use Rattle.bench.specs.Plays.{Unplayable, BarsBegin, BarsNext, next_of}
use Rattle.bench.specs.Refusals.{refusal_number}
use Rattle.bench.specs.Schedules.{entry, decoded, BadAt}
use Rattle.bench.specs.States.{Stage, Play, State, Least}
use Rattle.bench.specs.declared.refusal.Refusal.{Refusal}
use Rattle.bench.specs.declared.refusal.Refusal.TheVariants.{PlayOpen, NotInChart, Unfired, RecordNotEmpty, BadSchedule, NoPlay, NoEventLeft}
use Rattle.bench.specs.declared.schedule.Entry.{Entry}

module _ (g : Stage) (s : State) (bytes : List ℕ) (closed : is_some s.play ≡ false) where
  module _ (none : s.fired ≡ []) where
    pub begin_bad : (n : ℕ) → Unplayable g bytes n → Least (BarsBegin g s bytes) (BadSchedule n)
    begin_bad n bad = (bad, lower)
      where
        lower : (f : Refusal) → refusal_number f < 26 → BarsBegin g s bytes f → ⊥
        lower PlayOpen l k = both_ways (is_some s.play) closed k
        lower (NotInChart x) l k = k
        lower (Unfired f o) l k = k
        lower RecordNotEmpty l k = k none
        lower (BadSchedule p) l k = omega arith
        lower NoPlay l k = k
        lower NoEventLeft l k = k

    pub begin_good : length bytes ≡ 2 * length g.chart.events → ((k : ℕ) → k < length (decoded bytes) → BadAt g.chart (decoded bytes) k → ⊥) → (f : Refusal) → BarsBegin g s bytes f → ⊥
    begin_good long good PlayOpen k = both_ways (is_some s.play) closed k
    begin_good long good (NotInChart x) k = k
    begin_good long good (Unfired f o) k = k
    begin_good long good RecordNotEmpty k = k none
    begin_good long good (BadSchedule p) (inl k) = k.0 long
    begin_good long good (BadSchedule p) (inr k) = good p k.1.0 k.1.1
    begin_good long good NoPlay k = k
    begin_good long good NoEventLeft k = k

module _ (g : Stage) (s : State) (q : Play) (low : q.done < length q.entries) where
  from_next : (f : Refusal) → BarsNext g s (Some q) f → Bars g s (next_of q) f
  from_next PlayOpen k = k
  from_next (NotInChart x) k = k.1
  from_next (Unfired f o) k = k.1
  from_next RecordNotEmpty k = k
  from_next (BadSchedule p) k = k
  from_next NoPlay k = k
  from_next NoEventLeft k = absurd (omega arith)

  pub next_free : ((f : Refusal) → Bars g s (next_of q) f → ⊥) → (f : Refusal) → BarsNext g s (Some q) f → ⊥
  next_free none f k = none f (from_next f k)

-- the events of a play that were fired are the record
pub step_more : (r : List EventId) (p : Play) (e : EventId) → InStep r (Some p) → p.done < length p.entries → e ≡ next_of p → InStep (r ++ e ∷ []) (Some (record { entries = p.entries; done = p.done + 1 }))
step_more r p e (low, is) l next = (
  omega arith,
  ap (λ q. q ++ e ∷ []) is ∙ ap (λ x. map (λ (y : Entry). y.event) (take p.done p.entries) ++ x ∷ []) next
      ∙ sym (map_more (λ (y : Entry). y.event) p.entries p.done (entry 0 0) l),
)
