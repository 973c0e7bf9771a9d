-- The reversible pairs as programs have them, and what is proved of them.
use Rattle.std.specs.Prelude.{ℕ, ◌<◌, Bool, ◌↔◌, List, map, length}
use Rattle.chart.specs.Charted.{drawn}
use Rattle.chart.specs.Content.{Content}
use Rattle.delivery.specs.declared.parcel.Tag.{Tag}
use Rattle.order.specs.Lists.{Has}
use Rattle.order.specs.Report.{Reports, report}
use Rattle.order.specs.Runs.{CanReverse}
use Rattle.order.specs.Scenes.{scene_of, event_at, PairAt}
use Rattle.analysis.specs.declared.races.Race.{Race}

-- the pair (a, b), with the instance and the side of a
abbrev pub race_of : Content → ℕ × ℕ → Race
race_of c p =
    record {
      first = record { 0 = p.0 };
      second = record { 0 = p.1 };
      instance = (drawn c (event_at c p.0)).instance;
      side = (drawn c (event_at c p.0)).side;
    }

abbrev pub races_of : Content → (Tag → Tag → Bool) → ℕ → List Race
races_of c rule room = map (race_of c) (report c rule room)

-- the numbers of the pair are numbers of the chart
pub record InChart (c : Content) (x : Race) : Type 0 where
  pub first : x.first.0 < length c.events
  pub second : x.second.0 < length c.events
  pub instance : x.instance.0 < length c.instances

-- the pairs of a report rise, each stands there once, and they are exactly the reversible ones, which are exactly those
-- that some complete run reverses
pub record ExactPairs (c : Content) (rule : Tag → Tag → Bool) (room : ℕ) : Type 0 where
  pub reversible : Reports c rule room (report c rule room)
  pub by_runs : (a b : ℕ) → (Has (a, b) (report c rule room) ↔ (PairAt c a b × CanReverse (scene_of c rule room) (event_at c a) (event_at c b)))
