use Rattle.std.proofs.Common.{◌≡◌, ◌≤◌, true, vec_items, vec_len, vec_capacity, sym, subst, arith}
use Rattle.bench.specs.Records.{once, within}
use Rattle.bench.proofs.Records.{room_left, once_push, within_push}
use Rattle.bench.proofs.record.Record.push.Goals as goal

pub push_reserved-requires : goal.push_reserved-requires
push_reserved-requires c =
    let r = c.args.self.now in
    let room : vec_len r.layout.places ≤ vec_capacity r.fired = r.room in
    let few = room_left (vec_len r.layout.places) (vec_items r.fired) c.args.event r.apart r.inside c.requires.fresh c.requires.inside in
    omega (arith, r.fired.ok.0)

pub invariant_of-self : goal.invariant_of-self
invariant_of-self c =
    let r = c.args.self.now in
    let n = vec_len r.layout.places in
    let pushed = sym c.push_reserved.ensures.items in
    let room : n ≤ vec_capacity r.fired = r.room in
    record {
      room = omega (arith, c.push_reserved.ensures.capacity);
      inside = subst (λ q. within n q ≡ true) pushed (within_push n (vec_items r.fired) c.args.event r.inside c.requires.inside);
      apart = subst (λ q. once q ≡ true) pushed (once_push (vec_items r.fired) c.args.event c.requires.fresh r.apart);
    }
