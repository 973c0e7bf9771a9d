use Rattle.analysis.specs.Settings.{scene}
use Rattle.analysis.proofs.Judged.{HeldTo}
use Rattle.analysis.proofs.setting.Setting.hold_row.Given as goal

abbrev pub invariant-loop-h : goal.invariant-loop-h
invariant-loop-h g l = HeldTo ((scene g.D.Delivery.rule g.D.Delivery.room l.self).holds l.fn.message.0) l.row l.h
