use native.Mathlib.Nat.{sub-zero}
use Rattle.std.proofs.Common.{◌≡◌, ℕ, ltb, refl, ap, ◌∙◌, rules, tests}
use Rattle.std.proofs.lemmas.Iterator.{YieldsList-from_range}
use Rattle.std.proofs.lemmas.Iterator.Search.{all_from_yields_List}
use Rattle.chart.specs.Drafted.{drafted}
use Rattle.chart.specs.Drafting.{all_below, times_received}
use Rattle.chart.proofs.drafting.Draft.all_received.Goals as goal

pub returns : goal.returns
returns c =
    let passes = λ (m : ℕ). ltb 0 (times_received (drafted c.args.self.now) m) in
    let each : c.all.result ≡ all_below passes c.message_count.result = all_from_yields_List passes _ _ _ c.all.ensures.ran (YieldsList-from_range 0 c.message_count.result c.message_count.result refl (sub-zero c.message_count.result)) (λ x b q k. search (rules, tests)) in
    each ∙ ap (all_below passes) c.message_count.ensures
