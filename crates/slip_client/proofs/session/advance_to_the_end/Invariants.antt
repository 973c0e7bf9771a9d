use Rattle.bench.specs.Benches.{Keeps}
use Rattle.slip_client.proofs.session.advance_to_the_end.Given as goal

abbrev pub invariant-loop : goal.invariant-loop
invariant-loop g l = Keeps g.D.Delivery l.initial.bench l.bench
