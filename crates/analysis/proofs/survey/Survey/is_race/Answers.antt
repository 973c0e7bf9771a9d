use Rattle.chart.specs.Charted.{content}
use Rattle.order.specs.Scenes.{event_at}
use Rattle.analysis.specs.Settings.{scene}
use Rattle.analysis.proofs.Asked.{few_messages, event_has_message}
use Rattle.analysis.proofs.Judged.{race_is}
use Rattle.analysis.proofs.survey.Survey.is_race.Goals as goal

pub returns-then-is_pair : goal.returns-then-is_pair
returns-then-is_pair g c =
    let survey = c.args.self.now in
    let chart = survey.setting.chart.now in
    let p = c.args.prospect.now in
    let d = content chart in
    race_is (scene g.D.Delivery.rule g.D.Delivery.room survey.setting) survey.order.now p (event_at d p.first.0) (event_at d c.args.second.0) _ _ _ c.can_turn.result (few_messages chart) survey.filled c.requires.foresees.seen
    (event_has_message chart p.first.0 c.requires.foresees.inside) (event_has_message chart c.args.second.0 c.requires.inside) c.event_at.ensures c.event_at-then-is_pair.ensures c.if-is_pair.ensures c.can_turn.ensures
