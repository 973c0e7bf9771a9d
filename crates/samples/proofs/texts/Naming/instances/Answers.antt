use Rattle.std.proofs.Common.{arith, rules}
use Rattle.samples.specs.Texts.{instances_text}
use Rattle.samples.proofs.Grown.{instances_more}
use Rattle.samples.proofs.texts.Naming.instances.Goals as goal

pub loop-number-init : goal.loop-number-init
unfolding instances_text
loop-number-init c = search rules

pub loop-number-preserved : goal.loop-number-preserved
loop-number-preserved c =
    let more = instances_more c.args.self.now.between.now c.loop-number.number (omega arith) in
    record { made = rw more (search rules); within = omega arith }
