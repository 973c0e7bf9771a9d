use Rattle.std.proofs.Common.{vec_items, ◌∙◌}
use Rattle.bench.specs.Benches.{stage_of, state_of}
use Rattle.bench.proofs.Standing.{ready, fire_does, by_rules, tried, open_same}
use Rattle.bench.proofs.stand.Bench.fire.Goals as goal

pub returns-clause-remains : goal.returns-clause-remains
returns-clause-remains g c =
    let this = c.args.self.now in
    let fired = c.fire_next.ensures in
    let closed = open_same this.play.done (vec_items this.play.entries) ∙ c.in_ok-must_be_closed.ensures in
    record {
      same = fired.same;
      sound = λ content s. tried g.D.Delivery content this c.fire_next.new.self s fired.same (fired.starts s.started) c.args.event (g.met.D.Delivery.transitive this.delivery) (g.met.D.Delivery.some this.delivery) closed c.fire_next.result (fired.fires content s);
    }

pub returns-clause-fires : goal.returns-clause-fires
returns-clause-fires g c = λ content s.
    let this = c.args.self.now in
    let closed = open_same this.play.done (vec_items this.play.entries) ∙ c.in_ok-must_be_closed.ensures in
    fire_does (stage_of g.D.Delivery content this) (state_of g.D.Delivery this) c.args.event closed c.fire_next.result (state_of g.D.Delivery c.fire_next.new.self) (c.fire_next.ensures.fires content s)

pub returns-clause-by_rules : goal.returns-clause-by_rules
returns-clause-by_rules g c = λ content s.
    let this = c.args.self.now in
    let closed = open_same this.play.done (vec_items this.play.entries) ∙ c.in_ok-must_be_closed.ensures in
    by_rules (stage_of g.D.Delivery content this) (state_of g.D.Delivery this) c.args.event closed c.fire_next.result (state_of g.D.Delivery c.fire_next.new.self)
    (ready g.D.Delivery content this (g.met.D.Delivery.transitive this.delivery) (g.met.D.Delivery.some this.delivery) s) (c.fire_next.ensures.fires content s)
