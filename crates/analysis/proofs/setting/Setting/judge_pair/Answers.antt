use Rattle.std.proofs.Common.{sym, ap, ◌∙◌, subst}
use Rattle.chart.specs.Charted.{content}
use Rattle.chart.specs.Content.{message_of}
use Rattle.chart.specs.declared.numbers.EventId.{EventId}
use Rattle.order.specs.Scenes.{event_at}
use Rattle.analysis.specs.Outlooks.{Outlooks}
use Rattle.analysis.specs.Settings.{scene, is_race}
use Rattle.analysis.proofs.Verdicts.{reversible, fixed}
use Rattle.analysis.proofs.setting.Setting.judge_pair.Goals as goal

pub returns-then-not-is_race : goal.returns-then-not-is_race
returns-then-not-is_race g c =
    let rule = g.D.Delivery.rule in
    let room = g.D.Delivery.room in
    let chart = c.args.self.now.chart.now in
    let d = c.args.self.now.delivery.now in
    let b = c.args.second.0 in
    let told = c.is_race.ensures ∙ ap (λ (a : EventId). is_race rule room c.of-survey.result.setting a.0 b) c.prospect_of-prospect.ensures.first ∙ ap (λ t. is_race rule room t c.args.first.0 b) c.of-survey.ensures in
    (c.requires, fixed chart (rule d) (room d) (g.met.D.Delivery.transitive d) (g.met.D.Delivery.some d) c.args.first.0 b c.requires (sym c.if-not-is_race.true ∙ told))

pub returns : goal.returns
returns g c =
    let rule = g.D.Delivery.rule in
    let room = g.D.Delivery.room in
    let chart = c.args.self.now.chart.now in
    let d = c.args.self.now.delivery.now in
    let b = c.args.second.0 in
    let told = c.is_race.ensures ∙ ap (λ (a : EventId). is_race rule room c.of-survey.result.setting a.0 b) c.prospect_of-prospect.ensures.first ∙ ap (λ t. is_race rule room t c.args.first.0 b) c.of-survey.ensures in (
      c.requires,
      reversible chart (rule d) (room d) (g.met.D.Delivery.transitive d) (g.met.D.Delivery.some d) c.args.first.0 b c.requires (sym c.if-not-is_race.false ∙ told),
      subst (λ t. Outlooks (scene rule room t) (message_of (event_at (content t.chart.now) c.args.first.0)) (message_of (event_at (content t.chart.now) b)) c.outlook_of.result) c.of-survey.ensures
          (subst (λ (a : EventId). Outlooks (scene rule room c.of-survey.result.setting) (message_of (event_at (content c.of-survey.result.setting.chart.now) a.0)) (message_of (event_at (content c.of-survey.result.setting.chart.now) b)) c.outlook_of.result)
          c.prospect_of-prospect.ensures.first c.outlook_of.ensures),
    )
