use Rattle.std.proofs.Common.{◌≡◌, true, false, sym, ◌∙◌, rules}
use Rattle.std.proofs.lemmas.Iterator.{IsFirst-from_position, YieldsList-from_slice}
use Rattle.chart.specs.Shown.{happening}
use Rattle.chart.specs.contracts.pieces.EventPartialEq.TheImpl as event
use Rattle.order.specs.Pass.{same}
use Rattle.analysis.proofs.Same.{equal_events}
use Rattle.scheduling.proofs.Numbers.{number_found}
use Rattle.scheduling.proofs.firings.number_of.Goals as goal

pub returns : goal.returns
returns c =
    let e = happening c.args.event in
    let xs = c.events-events.result.now in
    let first =
    IsFirst-from_position _ _ c.position-number.result (λ x. same e (happening x) ≡ true) (λ x. same e (happening x) ≡ false) c.position-number.ensures.ran (YieldsList-from_slice xs c.iter.ensures.rest)
    (λ x q k. let h : event.ghosts.eq x.now c.args.event ≡ true = search rules in sym (equal_events x.now c.args.event) ∙ h)
    (λ x q k. let h : event.ghosts.eq x.now c.args.event ≡ false = search rules in (search rules, sym (equal_events x.now c.args.event) ∙ h)) in
    c.unwrap_or.ensures ∙ number_found c.args.chart.now e xs c.events-events.ensures c.position-number.result first
