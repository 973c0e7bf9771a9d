use Rattle.std.proofs.Common.{◌≡◌, true, vec_items, ◌∙◌, subst, rules, tests}
use Rattle.std.proofs.lemmas.Iterator.{YieldsList-from_slice}
use Rattle.std.proofs.lemmas.Iterator.Search.{any_from_yields_List}
use Rattle.bench.specs.Records.{within}
use Rattle.bench.proofs.Copies.{copy_length, test_sends, any_sends}
use Rattle.bench.proofs.record.Record.was_sent.Goals as goal

pub returns : goal.returns
returns c = λ content copy.
    let r = c.args.self.now in
    let inside = subst (λ n. within n (vec_items r.fired) ≡ true) (r.layout.places.ok.0 ∙ copy_length content (vec_items r.layout.places) copy) r.inside in
    any_from_yields_List (test_sends content c.args.message.0) _ _ c.any.result c.any.ensures.ran (YieldsList-from_slice (vec_items r.fired) cc) (λ x b q k. search (rules, tests))
    ∙ any_sends content c.args.message.0 (vec_items r.fired) inside
