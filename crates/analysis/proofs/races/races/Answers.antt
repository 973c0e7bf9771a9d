use Rattle.std.proofs.Common.{ap, ◌∙◌}
use Rattle.std.proofs.lemmas.Iterator.{items_from_collect}
use Rattle.analysis.specs.Settings.{races_in}
use Rattle.analysis.proofs.ExactRaces.{exact_pairs}
use Rattle.analysis.proofs.Walked.{walked}
use Rattle.analysis.proofs.races.races.Goals as goal

pub returns : goal.returns
returns g c =
    let d = c.args.delivery.now in
    let all = ap (λ w. w.left) c.races-walk.ensures ∙ ap (races_in g.D.Delivery.rule g.D.Delivery.room) c.of-survey.ensures in
    record { lists = items_from_collect _ c.collect.ensures.ran (walked c.races-walk.result _ all); exact = exact_pairs c.args.chart.now _ _ (g.met.D.Delivery.transitive d) (g.met.D.Delivery.some d) }
