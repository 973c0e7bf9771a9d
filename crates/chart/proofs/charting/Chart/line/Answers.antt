use Rattle.std.proofs.Common.{◌≡◌, get_or, refl, ap, ◌∙◌, arith}
use Rattle.chart.specs.Content.{message_of}
use Rattle.chart.specs.Pieces.{message_number}
use Rattle.chart.specs.Shown.{happening}
use Rattle.chart.specs.declared.pieces.Event.{Event}
use Rattle.chart.specs.declared.pieces.Event.TheVariants.{Out, In}
use Rattle.chart.proofs.Stored.{event_inside}
use Rattle.chart.proofs.charting.Chart.line.Goals as goal

number_is : (x : Event) → (message_number x).0 ≡ message_of (happening x)
number_is (Out m) = refl
number_is (In m) = refl

pub index-ends-requires : goal.index-ends-requires
index-ends-requires c =
    let read = c.in_ok-event.ensures.lookup in
    let inside = event_inside c.args.self.now.parts c.args.self.now.inside c.args.number.0 c.in_ok-event.event.now (omega (arith, read.3.0, c.deref.ensures.len)) (read.1 ∙ ap (λ es. get_or es c.args.number.0 c.in_ok-event.event.now) c.deref.ensures.value) in
    omega (arith, inside, number_is c.in_ok-event.event.now, ap (λ m. m.0) c.message-message.ensures)
