use Rattle.std.proofs.Common.{subst, sym, arith}
use Rattle.std.proofs.lemmas.Bool.Decides.{nat_tests}
use Rattle.bench.specs.Schedules.{Cut}
use Rattle.bench.proofs.Schedules.{cut_of}
use Rattle.bench.proofs.schedule.records_of.Goals as goal
use Rattle.bench.proofs.schedule.records_of.Goals.{then-is_empty, else-is_empty}

pub returns : goal.returns
returns c =
    let bytes = c.args.schedule.now in
    let records = c.as_chunks.result.0 in
    let says = c.as_chunks.ensures in
    subst (λ o. Cut bytes c.args.count o) (sym c.then_some.ensures)
    (cut_of bytes c.args.count records c.if-is_empty.then_some says.front says.front_len
    (elim c.if-is_empty.branch [ then-is_empty w ↦ λ t. grind (arith, nat_tests) | else-is_empty w ↦ λ t. grind (arith, nat_tests) ])
    (elim c.if-is_empty.branch [ then-is_empty w ↦ λ t. grind (arith, nat_tests) | else-is_empty w ↦ λ t. grind (arith, nat_tests) ]))
