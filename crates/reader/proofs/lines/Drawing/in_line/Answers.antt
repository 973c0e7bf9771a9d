use Rattle.std.proofs.Common.{◌≡◌, sym, rules}
use Rattle.chart.specs.Drafted.{drafted}
use Rattle.chart.specs.Drafting.{with_receipt}
use Rattle.reader.proofs.Drawing.{receiving}
use Rattle.reader.proofs.lines.Drawing.in_line.Goals as goal

pub unreachable-requires : goal.unreachable-requires
unreachable-requires c =
    let fits = receiving (drafted c.args.self.now.draft) c.args.receiver.0 c.in_ok-word.field-0.text.now c.in_ok-word.field-0.at c.in_ok-message.message.number.0 (sym c.in_ok-message.ensures.number) in
    cc (fits, c.in_default.ensures.answer)

pub returns-clause-line : goal.returns-clause-line
returns-clause-line c =
    let fits = receiving (drafted c.args.self.now.draft) c.args.receiver.0 c.in_ok-word.field-0.text.now c.in_ok-word.field-0.at c.in_ok-message.message.number.0 (sym c.in_ok-message.ensures.number) in
    let drawn : drafted c.receive.new.self ≡ with_receipt (drafted c.args.self.now.draft) c.in_ok-message.message.number.0 = cc (fits, c.in-Ok.ensures.answer) in
    search rules
