use Rattle.std.proofs.Common.{◌≡◌, Err, MatchResult, rules, subst, sym}
use Rattle.console.specs.Failures.{failure_of}
use Rattle.console.specs.Reading.{ReadIn}
use Rattle.console.proofs.Refusing.{is_told}
use Rattle.console.proofs.reading.chart_in.Goals as goal

pub returns-in_err-map_err : goal.returns-in_err-map_err
returns-in_err-map_err g c =
    let told : MatchResult c.read.result (λ u. ⊥) (λ e. c.in_err-map_err.field-0.0 ≡ failure_of e c.args.text.now) = search rules in
    let result : c.from_residual.result ≡ Err c.in_err-map_err.field-0.0 = search rules in
    subst (λ r. ReadIn c.args.text.now r) (sym result) (is_told c.args.text.now c.read.result _ c.in_err-map_err.field-0.0 c.read.ensures.answer told)
