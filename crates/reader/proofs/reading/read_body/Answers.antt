use Rattle.std.proofs.Common.{sym, ap, ◌∙◌, Ok}
use Rattle.std.proofs.lemmas.Result.{err_from_is_err_and}
use Rattle.chart.specs.Charted.{content}
use Rattle.chart.specs.Drafted.{drafted}
use Rattle.reader.specs.Reading.{then}
use Rattle.reader.proofs.Goings.{body_goes}
use Rattle.reader.proofs.reading.read_body.Goals as goal

pub returns-in_err-closing : goal.returns-in_err-closing
returns-in_err-closing c =
    let p = err_from_is_err_and c.from_residual-in_err-closing.result c.from_residual-in_err-closing.ensures.1 in
    let goes = body_goes c.args.scanner.whole (drafted c.args.draft) c.args.scanner.rest.now _ _ (content c.in-Some.chart) c.in_ok-instances.ensures.part (rw c.instances.ensures.whole at c.in_ok-at.ensures.part) c.in-Some.ensures in
    rw (p.1, p.2) (ap (λ r. then r (λ _. Ok (content c.in-Some.chart))) (rw (c.lines.ensures.whole, c.instances.ensures.whole) at c.in_err-closing.ensures) ∙ sym goes)

pub returns : goal.returns
returns c =
    let goes = body_goes c.args.scanner.whole (drafted c.args.draft) c.args.scanner.rest.now _ _ (content c.in-Some.chart) c.in_ok-instances.ensures.part (rw c.instances.ensures.whole at c.in_ok-at.ensures.part) c.in-Some.ensures in
    ap (λ r. then r (λ _. Ok (content c.in-Some.chart))) (rw (c.lines.ensures.whole, c.instances.ensures.whole) at c.in_ok-closing.ensures) ∙ sym goes
