use Rattle.std.proofs.Common.{rules, of_calls, sym, refl}
use Rattle.chart.specs.Drafted.{drafted}
use Rattle.reader.specs.Reading.{line_step}
use Rattle.reader.proofs.Moving.{drawing, step_shorter}
use Rattle.reader.proofs.lines.Drawing.lines.Goals as goal

pub to_end-requires : goal.to_end-requires
to_end-requires c k =
    ((refl, tt), (search (of_calls, rules), record { keeps = λ d r e h. search rules; shortens = λ d e h. step_shorter drawing d.now.scanner.whole (drafted d.now.draft) d.now.scanner.rest.now (drafted e.now.draft) e.now.scanner.rest.now (sym h.0) }))

pub returns-clause-part : goal.returns-clause-part
returns-clause-part c = c.to_end.ensures.part line_step (record { reads = λ d r e h. search rules })
