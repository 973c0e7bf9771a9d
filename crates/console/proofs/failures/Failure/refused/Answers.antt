use Rattle.console.proofs.Locating.{located}
use Rattle.console.proofs.failures.Failure.refused.Goals as goal

pub returns-in-Refused : goal.returns-in-Refused
returns-in-Refused g c =
    located c.args.text.now c.args.error c.in-Refused.refusal c.place.result c.min.result c.after.result c.in-Refused.is c.place.ensures c.min.ensures c.after.ensures.line c.after.ensures.column
