use Rattle.std.proofs.Common.{rules}
use Rattle.samples.specs.Texts.{lines_text}
use Rattle.samples.proofs.Grown.{lines_more}
use Rattle.samples.proofs.texts.lines.Goals as goal

pub loop-number-init : goal.loop-number-init
unfolding lines_text
loop-number-init c = search rules

pub loop-number-preserved : goal.loop-number-preserved
loop-number-preserved c =
    let more = lines_more c.args.side c.loop-number.number in rw more (search rules)
