use Rattle.std.proofs.Common.{ℕ, refl, subst}
use Rattle.analysis.specs.Judging.{Foreseen}
use Rattle.analysis.specs.Settings.{scene}
use Rattle.analysis.proofs.Asked.{few_messages, message_inside}
use Rattle.analysis.proofs.Judged.{foreseen_by}
use Rattle.analysis.proofs.survey.Survey.prospect_of.Goals as goal

pub returns : goal.returns
returns g c =
    let survey = c.args.self.now in
    let chart = survey.setting.chart.now in
    let s = scene g.D.Delivery.rule g.D.Delivery.room survey.setting in
    let m = c.message_at-message.ensures in
    let inside = message_inside chart c.message_at-message.result.0 c.args.first.0 m c.requires in
    let seen = subst (λ (k : ℕ). Foreseen s k (record { first = c.args.first; after = c.column.result; held = c.hold_row.result })) m
    (foreseen_by s survey.order.now c.message_at-message.result.0 c.place_of.result.number c.args.first c.column.result c.hold_row.result (few_messages chart) survey.filled inside c.place_of.ensures c.column.ensures c.hold_row.ensures) in
    record { foresees = record { inside = c.requires; seen = seen }; first = refl }
