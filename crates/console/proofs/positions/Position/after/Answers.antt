use Rattle.std.proofs.Common.{rules, tests, ap, ◌∙◌, ◌+◌, reverse}
use Rattle.std.proofs.lemmas.Iterator.Adapters.{YieldsList-from_rev_slice}
use Rattle.std.proofs.lemmas.Iterator.Consumers.{count_from_yields_List, YieldsList-at}
use Rattle.std.proofs.lemmas.Iterator.Search.{YieldsList-from_take_while}
use Rattle.std.proofs.lemmas.List.Folds.{length-prefix_len}
use Rattle.console.specs.Positions.{is_other}
use Rattle.console.proofs.positions.Position.after.Goals as goal

pub returns-clause-column : goal.returns-clause-column
returns-clause-column c =
    ap (λ n. 1 + n)
    (count_from_yields_List c.take_while.result _ c.count-others.ensures.ran
    (YieldsList-from_take_while _ is_other (YieldsList-at c.take_while.ensures.source (YieldsList-from_rev_slice c.args.before.now (cc))) c.take_while.ensures.closure c.take_while.ensures.done (λ x r q k. search (rules, tests)))
    ∙ length-prefix_len is_other (reverse c.args.before.now))
