use Rattle.std.proofs.Common.{◌≡◌}
use Rattle.chart.specs.Charted.{content}
use Rattle.analysis.specs.Walking.{Walks}
use Rattle.analysis.proofs.Sweeping.{unswept}
use Rattle.analysis.proofs.walking.WalkIterator.next.Given as goal

abbrev pub invariant-loop-self : goal.invariant-loop-self
invariant-loop-self g l =
    let w = l.self-inside in
    let d = w.survey.now.setting.delivery.now in
    record {
      place : Walks (content w.survey.now.setting.chart.now) (g.D.Delivery.rule d) (g.D.Delivery.room d) w.sweep w.given;
      left : l.initial.self-inside.survey ≡ w.survey;
      given : l.initial.self-inside.given ≡ w.given;
    }

abbrev pub decreases-loop-self : goal.decreases-loop-self
decreases-loop-self g l = unswept (content l.self-inside.survey.now.setting.chart.now) l.self-inside.sweep
