use Rattle.std.proofs.Common.{◌<◌, ◌≤◌, vec_len, arith}
use Rattle.promise.specs.Sessions.{close, no_close}
use Rattle.promise.proofs.performing.Client.close.Goals as goal

pub returns-then-place-len-clause-makes : goal.returns-then-place-len-clause-makes
returns-then-place-len-clause-makes g c =
    let i : vec_len c.args.self.now.slips ≤ c.args.place = omega (arith, c.if-place-len.true, c.len.ensures) in
    (omega arith, λ d s. no_close i)

pub returns-clause-makes : goal.returns-clause-makes
returns-clause-makes g c =
    let r = c.remove-slip.ensures in
    let i : c.args.place < vec_len c.args.self.now.slips = omega (arith, c.if-place-len.false, c.len.ensures) in
    (omega (arith, r.len), λ d s. close i r.len (c.close.ensures.closes d s))
