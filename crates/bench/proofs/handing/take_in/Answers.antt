use Rattle.bench.proofs.handing.take_in.Goals as goal

pub returns-clause-takes : goal.returns-clause-takes
returns-clause-takes g c = λ s. let t = c.in_ok-take.ensures.takes s in (_, t.0, t.1, t.2)
