use Rattle.std.proofs.Common.{◌+◌, sym, ap, ◌∙◌, subst}
use Rattle.matrix.specs.Places.{place_of}
use Rattle.matrix.specs.Models.{has}
use Rattle.matrix.specs.declared.sets.EventSet.{EventSet}
use Rattle.analysis.specs.Filling.{Consists, BeforeIn}
use Rattle.analysis.specs.Settings.{scene}
use Rattle.analysis.proofs.Filled.{in_yes, in_no}
use Rattle.analysis.proofs.setting.Setting.row_of_in.Goals as goal
use Rattle.analysis.proofs.setting.Setting.row_of_in.Goals.{then-is_holder, else-is_holder}

pub loop-m-preserved : goal.loop-m-preserved
loop-m-preserved g c =
    let s = scene g.D.Delivery.rule g.D.Delivery.room c.args.self.now in
    let o = c.args.order.now in
    let n = c.args.message.0 in
    let k = c.loop-m.m in
    elim c.if-is_holder.branch [
      | then-is_holder w ↦
          in_yes s o n k c.loop-m.row c.if-is_holder.row (sym w.if-is_holder.ensures)
          (λ e. ap (λ (r : EventSet). has r (place_of e)) w.row-is ∙ w.join-then-is_holder.ensures e) c.loop-m.invariant
      | else-is_holder w ↦
          subst (λ (r : EventSet). Consists r (BeforeIn s o n (k + 1))) (sym w.row-is) (in_no s o n k c.loop-m.row (sym w.if-is_holder.ensures) c.loop-m.invariant)
    ]
