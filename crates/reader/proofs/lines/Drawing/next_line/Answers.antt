use Rattle.std.proofs.Common.{sym}
use Rattle.chart.specs.Drafted.{drafted}
use Rattle.reader.proofs.Inversion.{instance_in}
use Rattle.reader.proofs.lines.Drawing.next_line.Goals as goal

pub event_line-requires : goal.event_line-requires
event_line-requires c = instance_in (drafted c.args.self.now.draft) c.in_ok-word.word.text.now c.in_ok-word.word.at c.in_ok-instance.instance.0 (sym c.in_ok-instance.ensures)
