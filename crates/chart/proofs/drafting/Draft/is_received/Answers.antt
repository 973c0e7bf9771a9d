use Rattle.std.proofs.Common.{◌≡◌, vec_items, refl, ◌∙◌, rules, tests}
use Rattle.std.proofs.lemmas.Iterator.{YieldsList-from_slice}
use Rattle.std.proofs.lemmas.Iterator.Search.{any_from_yields_List}
use Rattle.chart.specs.Content.{is_received}
use Rattle.chart.specs.Shown.{happening}
use Rattle.chart.specs.contracts.pieces.EventPartialEq.TheImpl.{eq-value}
use Rattle.chart.specs.declared.numbers.MessageId.{MessageId}
use Rattle.chart.specs.declared.pieces.Event.{Event}
use Rattle.chart.specs.declared.pieces.Event.TheVariants.{Out, In}
use Rattle.chart.proofs.Counting.{any_counted}
use Rattle.chart.proofs.drafting.Draft.is_received.Goals as goal

is_receipt : (m : MessageId) (x : Event) → eq-value.it x (In m) ≡ is_received m.0 (happening x)
is_receipt m (Out n) = refl
is_receipt m (In n) = refl

pub returns : goal.returns
returns c =
    let events = vec_items c.args.self.now.parts.events in
    any_from_yields_List (λ x. eq-value.it x (In c.args.message)) _ _ c.any.result c.any.ensures.ran (YieldsList-from_slice events cc) (λ x b q k. search (rules, tests))
    ∙ any_counted _ (is_received c.args.message.0) happening (is_receipt c.args.message) events
