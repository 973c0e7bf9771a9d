use Rattle.std.proofs.Common.{◌<◌, ◌≤◌, vec_len, rules, arith}
use Rattle.promise.specs.Sessions.{advance, no_advance}
use Rattle.promise.proofs.performing.Client.advance.Goals as goal

pub returns-in-Some-clause-makes : goal.returns-in-Some-clause-makes
returns-in-Some-clause-makes g c =
    let i : c.args.place < vec_len c.args.self.now.slips = search rules in
    (omega arith, λ d s. advance i (c.advance.ensures.advances d s))

pub returns-in-None-clause-makes : goal.returns-in-None-clause-makes
returns-in-None-clause-makes g c =
    let i : vec_len c.args.self.now.slips ≤ c.args.place = search rules in
    (omega arith, λ d s. no_advance i)
