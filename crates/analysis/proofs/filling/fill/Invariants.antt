use Rattle.std.proofs.Common.{◌*◌}
use Rattle.analysis.specs.Filling.{Within, Covers}
use Rattle.analysis.specs.Settings.{scene}
use Rattle.analysis.proofs.filling.fill.Given as goal

abbrev pub invariant-loop-m : goal.invariant-loop-m
invariant-loop-m g l =
    Within (scene g.D.Delivery.rule g.D.Delivery.room l.setting) l.order × Covers (scene g.D.Delivery.rule g.D.Delivery.room l.setting) l.order (2 * l.m)
