use Rattle.std.proofs.Common.{◌≡◌, sym, rules}
use Rattle.chart.specs.Drafted.{drafted}
use Rattle.chart.specs.Drafting.{with_message}
use Rattle.chart.specs.Names.{text_of}
use Rattle.reader.proofs.Drawing.{sending}
use Rattle.reader.proofs.lines.Drawing.out_line.Goals as goal

pub unreachable-requires : goal.unreachable-requires
unreachable-requires c =
    let fits = sending (drafted c.args.self.now.draft) c.args.sender.0 c.in_ok-word.field-0.text.now c.in_ok-word.field-0.at (text_of c.in_ok-message.message) c.in_ok-word-2.field-0.text.now c.in_ok-word-2.field-0.at c.in_ok-receiver.receiver.0 c.requires (sym c.in_ok-message.ensures) (sym c.in_ok-receiver.ensures) in
    cc (fits, c.in_default.ensures.answer)

pub returns-clause-line : goal.returns-clause-line
returns-clause-line c =
    let fits = sending (drafted c.args.self.now.draft) c.args.sender.0 c.in_ok-word.field-0.text.now c.in_ok-word.field-0.at (text_of c.in_ok-message.message) c.in_ok-word-2.field-0.text.now c.in_ok-word-2.field-0.at c.in_ok-receiver.receiver.0 c.requires (sym c.in_ok-message.ensures) (sym c.in_ok-receiver.ensures) in
    let drawn : drafted c.send.new.self ≡ with_message (drafted c.args.self.now.draft) (text_of c.in_ok-message.message) c.args.sender.0 c.in_ok-receiver.receiver.0 = cc (fits, c.in-Ok.ensures.answer) in
    search rules
