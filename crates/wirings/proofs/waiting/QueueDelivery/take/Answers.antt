use Rattle.std.proofs.Common.{Some, sym, refl, ap, ◌∙◌}
use Rattle.delivery.specs.Waiting.{distinct}
use Rattle.delivery.proofs.Distinct.{distinct_without}
use Rattle.wirings.proofs.Walks.{parcel_at, without_at, holder_at}
use Rattle.wirings.proofs.waiting.QueueDelivery.take.Goals as goal

pub returns-in-Some-first_holding-clause-takes : goal.returns-in-Some-first_holding-clause-takes
returns-in-Some-first_holding-clause-takes g c s =
    let found = rw c.deref.ensures.value at c.in-Some.ensures in
    let by = rw c.deref-2.ensures.value at c.in-Some-first_holding.ensures in
    let parcel = c.index-parcel.result.now in
    ((parcel, parcel_at _ _ _ found parcel ∙ ap Some (sym c.index-parcel.ensures), holder_at _ _ _ found (g.R.HoldRule.held c.args.self.now.rule) parcel.tag ∙ sym by), refl)

pub returns-clause-takes : goal.returns-clause-takes
returns-clause-takes g c s =
    let found = rw c.deref.ensures.value at c.in-Some.ensures in
    let by = rw c.deref-2.ensures.value at c.in_default-first_holding.ensures in
    let parcel = c.index-parcel.result.now in
    (parcel_at _ _ _ found parcel ∙ ap Some (sym c.index-parcel.ensures), holder_at _ _ _ found (g.R.HoldRule.held c.args.self.now.rule) parcel.tag ∙ sym by, c.remove.ensures.items ∙ sym (without_at _ _ _ found))

pub invariant_of-self-2-clause-once : goal.invariant_of-self-2-clause-once
invariant_of-self-2-clause-once g c =
    let found = rw c.deref.ensures.value at c.in-Some.ensures in
    ap distinct (c.remove.ensures.items ∙ sym (without_at _ _ _ found)) ∙ distinct_without c.args.message.0 _ c.args.self.now.once
