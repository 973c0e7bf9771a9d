use Rattle.std.proofs.Common.{rules, ◌≡◌, ℕ, ◌<◌, ◌≤◌, Bool, true, false, length, Option, Some, None, MatchOption, sym, subst, arith}
use Rattle.std.proofs.lemmas.Iterator.{serves_from_Range, first_from_Range}
use Rattle.chart.specs.Charted.{content}
use Rattle.analysis.specs.Settings.{is_race}
use Rattle.analysis.specs.Walking.{FirstFrom}
use Rattle.analysis.proofs.Asked.{as_many_events}
use Rattle.analysis.proofs.survey.Survey.next_second.Goals as goal

pub find-requires-clause-callable : goal.find-requires-clause-callable
find-requires-clause-callable g c =
    serves_from_Range (λ x q k. search rules)
    (λ x low high.
    let many = as_many_events c.args.self.now.setting.chart.now c.events.result.now c.events.ensures in
    let k : x < length (content c.args.self.now.setting.chart.now).events = omega arith in
    search rules)

-- what `find` answers over a range
module _ (race : ℕ → Bool) (low high : ℕ) where
  abbrev Found : Option ℕ → Type 0
  Found o =
      MatchOption o ((y : ℕ) → low ≤ y → y < high → race y ≡ false) (λ x. (low ≤ x) × (x < high) × (race x ≡ true) × ((y : ℕ) → low ≤ y → y < x → race y ≡ false))

  none_found : (o : Option ℕ) → Found o → o ≡ None → Found None
  none_found o m e = subst Found e m

  one_found : (o : Option ℕ) (x : ℕ) → Found o → o ≡ Some x → Found (Some x)
  one_found o x m e = subst Found e m

pub returns-in_err-number : goal.returns-in_err-number
returns-in_err-number g c =
    let race : ℕ → Bool = is_race g.D.Delivery.rule g.D.Delivery.room c.args.self.now.setting c.args.sweep.now.prospect.first.0 in
    let many = as_many_events c.args.self.now.setting.chart.now c.events.result.now c.events.ensures in
    let none = none_found race c.args.sweep.now.next (length c.events.result.now) c.find.result (first_from_Range _ _ _ c.find.result (λ x. race x ≡ true) (λ x. race x ≡ false) c.find.ensures.ran (λ x q k. search rules) (λ x q k. search rules)) c.in_err-number.was in
    subst (FirstFrom race c.args.sweep.now.next (length (content c.args.self.now.setting.chart.now).events)) (sym c.from_residual.ensures) (λ y low high. none y low (omega arith))

pub returns : goal.returns
returns g c =
    let race : ℕ → Bool = is_race g.D.Delivery.rule g.D.Delivery.room c.args.self.now.setting c.args.sweep.now.prospect.first.0 in
    let many = as_many_events c.args.self.now.setting.chart.now c.events.result.now c.events.ensures in
    let one = one_found race c.args.sweep.now.next (length c.events.result.now) c.find.result c.in_ok-number.number (first_from_Range _ _ _ c.find.result (λ x. race x ≡ true) (λ x. race x ≡ false) c.find.ensures.ran (λ x q k. search rules) (λ x q k. search rules)) c.in_ok-number.was in
    let l = one.1 in
    (one.0, omega arith, one.2, one.3)
