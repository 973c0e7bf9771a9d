use Rattle.std.proofs.Common.{◌≡◌, ℕ, ◌<◌, true, map, take, vec_items, vec_len, vec_capacity}
use Rattle.bench.specs.Layouts.{OnCopy}
use Rattle.bench.specs.Schedules.{entry_of, entry_at, fits}
use Rattle.bench.proofs.schedule.Script.walk.Given as goal

abbrev pub invariant-loop-place : goal.invariant-loop-place
invariant-loop-place l = record {
  copied : vec_items l.self.entries ≡ take l.place (map entry_of l.records);
  count : vec_len l.self.entries ≡ l.place;
  room : vec_capacity l.self.entries ≡ vec_capacity l.initial.self.entries;
  done : l.self.done ≡ l.initial.self.done;
  fit : OnCopy l.layout (λ c. (j : ℕ) → j < l.place → fits c (entry_at (map entry_of l.records) j) ≡ true);
}
