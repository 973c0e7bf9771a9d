use Rattle.std.proofs.Common.{◌≡◌, ℕ, ◌<◌, List, length, sym, subst, arith}
use Rattle.chart.specs.Charted.{content}
use Rattle.analysis.specs.Writing.{Puts}
use Rattle.analysis.proofs.Asked.{as_many_messages}
use Rattle.scheduling.proofs.Orders.{done_in, done_more, done_grows}
use Rattle.analysis.proofs.Putting.{puts_more}
use Rattle.scheduling.proofs.passes.Plan.put_stage.Goals as goal

pub put_turn-requires-clause-room : goal.put_turn-requires-clause-room
put_turn-requires-clause-room c =
    let plan = c.args.self.now in
    let chart = content plan.chart.now in
    let e = as_many_messages plan.chart.now c.messages-h-end.result.now c.messages-h-end.ensures in
    let b = c.loop-h-test.true in
    let l : c.loop-h.h < length chart.messages = omega arith in
    omega (arith, done_grows chart plan.outlook.now c.args.stage c.loop-h.h (length chart.messages) l, c.loop-h.invariant.len, c.loop-h.invariant.room, c.requires)

pub loop-h-preserved : goal.loop-h-preserved
loop-h-preserved c =
    let plan = c.args.self.now in
    let chart = content plan.chart.now in
    subst (λ (ys : List ℕ). Puts c.args.writer.now ys c.put_turn.new.writer) (sym (done_more chart plan.outlook.now c.args.stage c.loop-h.h))
    (puts_more c.args.writer.now c.loop-h.writer c.put_turn.new.writer _ _ c.loop-h.invariant c.put_turn.ensures)

pub returns : goal.returns
returns c =
    let plan = c.args.self.now in
    let chart = content plan.chart.now in
    let e = as_many_messages plan.chart.now c.messages-h-end.result.now c.messages-h-end.ensures in
    let all : c.loop-h.h ≡ length chart.messages = omega arith in
    subst (λ (n : ℕ). Puts c.args.writer.now (done_in chart plan.outlook.now c.args.stage n) c.loop-h.writer) all c.loop-h.invariant
