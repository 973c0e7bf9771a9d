use Rattle.std.proofs.Common.{◌≡◌, length, Ok, Err, vec_items, sym, refl, ap, ◌∙◌, subst, arith, rules}
use Rattle.std.proofs.lemmas.Option.{slice_get_within}
use Rattle.chart.specs.declared.numbers.EventId.{EventId}
use Rattle.order.specs.Scenes.{event_at}
use Rattle.bench.specs.Benches.{stage_of, state_of}
use Rattle.bench.specs.Firings.{Tried}
use Rattle.bench.specs.Steps.{Against, Handed}
use Rattle.bench.specs.declared.layout.Placed.{Placed}
use Rattle.bench.specs.declared.refusal.Firing.{Firing}
use Rattle.bench.specs.declared.refusal.Refusal.{Refusal}
use Rattle.bench.specs.declared.refusal.Refusal.TheVariants.{Unfired}
use Rattle.bench.proofs.Copies.{kept, firing_of_lem}
use Rattle.bench.proofs.Firings.{unstopped, accepted, refused}
use Rattle.bench.proofs.Refusing.{stopped, unbarred, told_as, passed}
use Rattle.bench.proofs.Standing.{same_state, ready}
use Rattle.bench.proofs.stand.Bench.fire_next.Goals as goal

abbrev firing : EventId → Placed → Firing
firing e p = record { event = e; instance = p.line.instance; message = p.line.message }

pub returns-in_err-map_err-clause-fires : goal.returns-in_err-map_err-clause-fires
returns-in_err-map_err-clause-fires g c = λ content s.
    let this = c.args.self.now in
    let e = c.args.event in
    let p = c.in_ok-place.place in
    let st = stage_of g.D.Delivery content this in
    let now = state_of g.D.Delivery this in
    let at = kept content (vec_items this.log.layout.places) s.copy e.0 p (sym c.at.ensures ∙ c.in_ok-place.ensures.ok_part) in
    let told = told_as c.from_residual-in_err-map_err.result c.admits.result c.in_err-map_err.field-0.0 c.from_residual-in_err-map_err.ensures.1 c.in_err-map_err.ensures.cases in
    let named : c.in_err-map_err.field-0.0 ≡ Unfired (firing e p) told.0 = search rules in
    let says = subst (λ r. Against st now e (event_at content e.0) r) told.1 (c.admits.ensures.says st now.waiting now.play s.copy at.1) in
    subst (λ r. Tried st now e r now) (sym (told.2 ∙ ap (λ (f : Refusal). Err f) named)) (stopped st now e at.0 (firing e p) told.0 (firing_of_lem content e p at.1) says, refl)

pub returns-in_err-map_err-2-clause-fires : goal.returns-in_err-map_err-2-clause-fires
returns-in_err-map_err-2-clause-fires g c = λ content s.
    let this = c.args.self.now in
    let e = c.args.event in
    let p = c.in_ok-place.place in
    let st = stage_of g.D.Delivery content this in
    let now = state_of g.D.Delivery this in
    let at = kept content (vec_items this.log.layout.places) s.copy e.0 p (sym c.at.ensures ∙ c.in_ok-place.ensures.ok_part) in
    let admitted = passed c.admits.result c.in_ok-map_err.ensures.variant in
    let says = subst (λ r. Against st now e (event_at content e.0) r) admitted (c.admits.ensures.says st now.waiting now.play s.copy at.1) in
    let told = told_as c.from_residual-in_err-map_err-2.result c.hand_over.result c.in_err-map_err-2.field-0.0 c.from_residual-in_err-map_err-2.ensures.1 c.in_err-map_err-2.ensures.cases in
    let named : c.in_err-map_err-2.field-0.0 ≡ Unfired (firing e p) told.0 = search rules in
    let w = g.D.Delivery.waiting c.hand_over.new.delivery in
    let hands = subst (λ (q : Placed). Handed st.rule st.room (st.layer (length now.waiting)) now.waiting q (Err told.0) w) at.1
    (subst (λ r. Handed st.rule st.room (st.layer (length now.waiting)) now.waiting p r w) told.1 (c.hand_over.ensures.hands s.started)) in
    let rd = ready g.D.Delivery content this (g.met.D.Delivery.transitive this.delivery) (g.met.D.Delivery.some this.delivery) s in
    let back = refused st now rd e at.0 (λ h is. subst (λ x. Against st now e x (Ok tt)) is says) w (event_at content e.0) told.0 refl hands in
    subst (λ r. Tried st now e r (record { fired = now.fired; waiting = w; play = now.play })) (sym (told.2 ∙ ap (λ (f : Refusal). Err f) named))
    (stopped st now e at.0 (firing e p) told.0 (firing_of_lem content e p at.1) back.0, same_state refl back.1 refl)

pub push-requires-clause-inside : goal.push-requires-clause-inside
push-requires-clause-inside g c =
    let places = c.args.self.now.log.layout.places in
    let l = slice_get_within (vec_items places) c.args.event.0 c.in_ok-place.place (sym c.at.ensures ∙ c.in_ok-place.ensures.ok_part) in
    omega (arith, places.ok.0)

pub returns-clause-fires : goal.returns-clause-fires
returns-clause-fires g c = λ content s.
    let this = c.args.self.now in
    let e = c.args.event in
    let p = c.in_ok-place.place in
    let st = stage_of g.D.Delivery content this in
    let now = state_of g.D.Delivery this in
    let at = kept content (vec_items this.log.layout.places) s.copy e.0 p (sym c.at.ensures ∙ c.in_ok-place.ensures.ok_part) in
    let admitted = passed c.admits.result c.in_ok-map_err.ensures.variant in
    let says = subst (λ r. Against st now e (event_at content e.0) r) admitted (c.admits.ensures.says st now.waiting now.play s.copy at.1) in
    let w = g.D.Delivery.waiting c.hand_over.new.delivery in
    let taken = passed c.hand_over.result c.in_ok-map_err-2.ensures.variant in
    let hands = subst (λ (q : Placed). Handed st.rule st.room (st.layer (length now.waiting)) now.waiting q (Ok tt) w) at.1
    (subst (λ r. Handed st.rule st.room (st.layer (length now.waiting)) now.waiting p r w) taken (c.hand_over.ensures.hands s.started)) in
    let rd = ready g.D.Delivery content this (g.met.D.Delivery.transitive this.delivery) (g.met.D.Delivery.some this.delivery) s in
    let acc = accepted st now rd e at.0 (λ h is. subst (λ x. Against st now e x (Ok tt)) is says) w (event_at content e.0) tt refl hands in
    (unbarred st now e at.0 (unstopped st now rd e at.0 acc.0), ((at.0, acc.0), same_state c.push.ensures.fired acc.1 refl))
