use Rattle.std.proofs.Common.{◌≡◌, ◌<◌, ◌≤◌, length, take, vec_items, refl, subst, ◌∙◌, arith, take_all}
use Rattle.std.proofs.lemmas.List.{take_more}
use Rattle.promise.specs.Clients.{Performs}
use Rattle.promise.specs.Sessions.{start}
use Rattle.promise.proofs.Makes.{onward_all, onward_more, one_more}
use Rattle.promise.proofs.performing.Client.perform.Goals as goal

pub loop-call-init : goal.loop-call-init
loop-call-init g c = record {
  onward = onward_all g.D.Delivery _;
  slips = omega arith;
  room = refl;
  count = omega arith;
  performs = λ d s. rw c.requires.none start;
}

pub make-answer-requires : goal.make-answer-requires
make-answer-requires g c =
    let i = c.loop-call.invariant in
    omega (arith, i.slips, i.onward.room)

pub loop-call-preserved : goal.loop-call-preserved
loop-call-preserved g c =
    let i = c.loop-call.invariant in
    let e = c.make-answer.ensures in
    let p = c.push_reserved.ensures in
    let l : c.loop-call.call-index < length c.args.calls.now = c.loop-call-test.true in
    record {
      onward = onward_more g.D.Delivery _ _ _ i.onward e.onward;
      slips = omega (arith, e.makes.0, i.slips);
      room = p.capacity ∙ i.room;
      count = omega (arith, p.len, i.count);
      performs = λ d s. one_more g.D.Delivery d _ _ i.onward.remains.same (i.performs d s) (e.makes.1 d (i.onward.remains.sound d s)) (take_more _ _ _ l) p.items;
    }

pub returns : goal.returns
returns g c =
    let i = c.loop-call.invariant in
    let past : length c.args.calls.now ≤ c.loop-call.call-index = c.loop-call-test.false in
    let all : take c.loop-call.call-index c.args.calls.now ≡ c.args.calls.now = take_all _ _ past in
    record { onward = i.onward; performs = subst (λ (cs : _). Performs g.D.Delivery c.args.self.now cs (vec_items c.loop-call.answers) c.loop-call.self) all i.performs }
