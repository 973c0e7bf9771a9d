-- The pairs that are told are exactly those that some complete run reverses.
use Rattle.std.proofs.Common.{ℕ, ◌≤◌, Bool}
use Rattle.chart.specs.Charted.{content}
use Rattle.chart.specs.declared.charting.Chart.{Chart}
use Rattle.delivery.specs.declared.parcel.Tag.{Tag}
use Rattle.order.proofs.Scenes.{Transitive, laws}
use Rattle.order.proofs.Verdict.{judged, chart_laid}
use Rattle.analysis.specs.Races.{ExactPairs}

pub exact_pairs : (chart : Chart) (rule : Tag → Tag → Bool) (room : ℕ) → Transitive rule → 1 ≤ room → ExactPairs (content chart) rule room
exact_pairs chart rule room transitive some =
    let j = judged (content chart) rule room (chart_laid chart) (laws (content chart) rule room (chart_laid chart) transitive some) in
    record { reversible = j.reported; by_runs = j.by_runs }
