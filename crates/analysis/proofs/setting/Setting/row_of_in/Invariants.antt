use Rattle.analysis.specs.Filling.{Consists, BeforeIn}
use Rattle.analysis.specs.Settings.{scene}
use Rattle.analysis.proofs.setting.Setting.row_of_in.Given as goal

abbrev pub invariant-loop-m : goal.invariant-loop-m
invariant-loop-m g l = Consists l.row (BeforeIn (scene g.D.Delivery.rule g.D.Delivery.room l.self) l.order l.message.0 l.m)
