use Rattle.std.proofs.Common.{◌≡◌, ◌≤◌, true, false, length, vec_items, rules, tests, arith}
use Rattle.std.proofs.lemmas.Iterator.{first_from_Range}
use Rattle.bench.proofs.Copies.{copy_length, test_missing, first_lacking}
use Rattle.bench.proofs.record.Record.first_missing.Goals as goal

pub returns : goal.returns
returns c = λ content copy is.
    let r = c.args.self.now in
    let n = copy_length content (vec_items r.layout.places) copy in
    let low : c.args.event.0 ≤ length content.events = omega (arith, r.layout.places.ok.0) in
    let test = test_missing content (vec_items r.fired) c.args.instance.0 in
    first_lacking content (vec_items r.fired) c.args.event c.args.instance.0 is low c.find.result c.map.result
    (first_from_Range _ _ _ c.find.result (λ i. test i ≡ true) (λ i. test i ≡ false) c.find.ensures.ran (λ x q k. search (rules, tests)) (λ x q k. search (rules, tests)))
    c.map.ensures.cases
