-- The derived equality of events.
use Rattle.std.proofs.Common.{◌≡◌, refl}
use Rattle.chart.specs.Shown.{happening}
use Rattle.chart.specs.contracts.pieces.EventPartialEq.TheImpl as event
use Rattle.chart.specs.declared.pieces.Event.{Event}
use Rattle.chart.specs.declared.pieces.Event.TheVariants.{Out, In}
use Rattle.order.specs.Pass.{same}

pub equal_events : (x y : Event) → event.ghosts.eq x y ≡ same (happening y) (happening x)
equal_events (Out m) (Out n) = refl
equal_events (Out m) (In n) = refl
equal_events (In m) (Out n) = refl
equal_events (In m) (In n) = refl
