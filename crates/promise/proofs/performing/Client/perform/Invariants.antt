use Rattle.std.proofs.Common.{◌≡◌, ◌+◌, ◌≤◌, take, vec_items, vec_len, vec_capacity}
use Rattle.promise.specs.Clients.{Onward, Performs}
use Rattle.promise.proofs.performing.Client.perform.Given as goal

abbrev pub invariant-loop-call : goal.invariant-loop-call
invariant-loop-call g l = record {
  onward : Onward g.D.Delivery l.initial.self l.self;
  slips : vec_len l.self.slips ≤ vec_len l.initial.self.slips + l.call-index;
  room : vec_capacity l.answers ≡ vec_capacity l.initial.answers;
  count : vec_len l.answers ≡ vec_len l.initial.answers + l.call-index;
  performs : Performs g.D.Delivery l.initial.self (take l.call-index l.calls) (vec_items l.answers) l.self;
}
