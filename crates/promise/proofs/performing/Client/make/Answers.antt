use Rattle.std.proofs.Common.{vec_len, arith}
use Rattle.promise.proofs.Makes.{as_fire, as_clear, as_begin, same_call, slips_few}
use Rattle.promise.proofs.performing.Client.make.Goals as goal

pub returns-in-Fire-clause-makes : goal.returns-in-Fire-clause-makes
returns-in-Fire-clause-makes g c = (omega arith, λ d s. as_fire c.in-Fire.is (c.fire.ensures.fires d s))

pub returns-in-Clear-clause-makes : goal.returns-in-Clear-clause-makes
returns-in-Clear-clause-makes g c = (omega arith, λ d s. as_clear c.in-Clear.is c.clear.ensures.clears)

pub returns-in-Begin-clause-makes : goal.returns-in-Begin-clause-makes
returns-in-Begin-clause-makes g c =
    let e = c.begin.ensures.begins in
    (omega (arith, e.0, slips_few c.begin.result (vec_len c.args.self.now.slips)), λ d s. as_begin c.in-Begin.is (e.1 d s) _ e.0)

pub returns-in-Advance-clause-makes : goal.returns-in-Advance-clause-makes
returns-in-Advance-clause-makes g c =
    let e = c.advance.ensures.makes in
    (e.0, λ d s. same_call c.in-Advance.is (e.1 d s))

pub returns-in-Close-clause-makes : goal.returns-in-Close-clause-makes
returns-in-Close-clause-makes g c =
    let e = c.close.ensures.makes in
    (e.0, λ d s. same_call c.in-Close.is (e.1 d s))
