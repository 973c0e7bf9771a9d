use Rattle.std.proofs.Common.{◌≡◌, ℕ, refl, ap, ◌∙◌}
use Rattle.chart.specs.Charted.{content}
use Rattle.chart.specs.Content.{sent, message_of}
use Rattle.matrix.specs.Places.{place_of}
use Rattle.order.specs.Scenes.{event_at}
use Rattle.analysis.specs.Settings.{scene}
use Rattle.analysis.proofs.Asked.{event_has_message}
use Rattle.analysis.proofs.Verdicts.{outlooks}
use Rattle.analysis.proofs.survey.Survey.outlook_of.Goals as goal

place : (m n k : ℕ) → m ≡ n → k ≡ place_of (sent m) → k ≡ place_of (sent n)
place m n k e p = p ∙ ap (λ i. place_of (sent i)) e

pub returns : goal.returns
returns g c =
    let survey = c.args.self.now in
    let chart = survey.setting.chart.now in
    let p = c.args.prospect.now in
    outlooks (scene g.D.Delivery.rule g.D.Delivery.room survey.setting) survey.order.now p (message_of (event_at (content chart) p.first.0)) (message_of (event_at (content chart) c.args.second.0)) c.place_of.result.number _
    survey.filled c.requires.foresees.seen (event_has_message chart c.args.second.0 c.requires.inside)
    c.message_at.ensures c.message_at-second.ensures (place c.message_at-second.result.0 _ _ c.message_at-second.ensures c.place_of.ensures) c.row.ensures refl refl
