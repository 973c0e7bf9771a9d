use Rattle.std.proofs.Common.{Ok, Err}
use Rattle.std.proofs.lemmas.Result.{err_from_is_err_and}
use Rattle.chart.specs.Charted.{content}
use Rattle.reader.specs.Reading.{reading}
use Rattle.reader.proofs.Meanings.{place_refused, place_means, reads_texts}
use Rattle.reader.proofs.reading.read.Goals as goal

pub returns-in_err-chart-clause-meaning : goal.returns-in_err-chart-clause-meaning
returns-in_err-chart-clause-meaning c =
    let p = err_from_is_err_and c.from_residual.result c.from_residual.ensures.1 in
    rw (p.1, p.2) (place_means (Err c.in_err-chart.field-0.0) (content c.args.place.now) c.args.text.now (place_refused c.in_err-chart.field-0.0 (content c.args.place.now) (reading c.args.text.now) c.in_err-chart.ensures))

pub returns-in_err-chart-clause-exact : goal.returns-in_err-chart-clause-exact
returns-in_err-chart-clause-exact c = reads_texts c.args.text.now

pub returns-clause-meaning : goal.returns-clause-meaning
returns-clause-meaning c = place_means (Ok tt) (content c.in_ok-chart.chart) c.args.text.now c.in_ok-chart.ensures

pub returns-clause-exact : goal.returns-clause-exact
returns-clause-exact c = reads_texts c.args.text.now
