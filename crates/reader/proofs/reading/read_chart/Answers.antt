use Rattle.std.proofs.Common.{sym, ◌∙◌}
use Rattle.std.proofs.lemmas.Result.{err_from_is_err_and}
use Rattle.chart.specs.Drafted.{drafted}
use Rattle.reader.proofs.Goings.{heading_goes}
use Rattle.reader.proofs.reading.read_chart.Goals as goal

pub returns-in_err-chart : goal.returns-in_err-chart
returns-in_err-chart c =
    let p = err_from_is_err_and c.from_residual-in_err-chart.result c.from_residual-in_err-chart.ensures.1 in
    rw (p.1, p.2)
    (heading_goes c.args.text.now _ (drafted c.in_ok-draft.draft) c.if-whole-gt-TEXT_LIMIT.false c.in_ok-title.ensures.names c.in_ok-draft.ensures ∙ sym (rw c.heading.ensures.whole at c.in_err-chart.ensures))

pub returns : goal.returns
returns c =
    heading_goes c.args.text.now _ (drafted c.in_ok-draft.draft) c.if-whole-gt-TEXT_LIMIT.false c.in_ok-title.ensures.names c.in_ok-draft.ensures ∙ sym (rw c.heading.ensures.whole at c.in_ok-chart.ensures)
