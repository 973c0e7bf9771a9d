use Rattle.std.proofs.Common.{◌≡◌}
use Rattle.samples.specs.Texts.{lines_text}
use Rattle.samples.proofs.texts.lines.Given as goal

abbrev pub invariant-loop-number : goal.invariant-loop-number
invariant-loop-number l = l.text.items ≡ lines_text l.side l.number
