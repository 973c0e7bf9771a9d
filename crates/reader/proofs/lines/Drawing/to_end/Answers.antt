use Rattle.std.proofs.lemmas.Result.{err_from_is_err_and}
use Rattle.std.proofs.Common.{◌∙◌}
use Rattle.reader.proofs.Stepping.{refused_there, ended_there, goes_on}
use Rattle.reader.proofs.lines.Drawing.to_end.Goals as goal

pub returns-in_err-at-clause-part : goal.returns-in_err-at-clause-part
returns-in_err-at-clause-part g c steps f =
    let p = err_from_is_err_and c.from_residual.result c.from_residual.ensures.1 in
    rw (p.1, p.2) (refused_there steps c.args.self.now c.loop-step.self c.step.new.arg2 _ (c.loop-step.invariant.goes steps f) (rw c.in_err-at.was at (f.reads _ _ _ c.step.ensures)))

pub returns-in-Some-clause-part : goal.returns-in-Some-clause-part
returns-in-Some-clause-part g c steps f =
    ended_there steps c.args.self.now c.loop-step.self c.step.new.arg2 c.in-Some.at (c.loop-step.invariant.goes steps f) (rw (c.in_ok-at.was, c.in-Some.is) at (f.reads _ _ _ c.step.ensures))

pub loop-step-preserved : goal.loop-step-preserved
loop-step-preserved g c =
    let keeps = c.requires.steps.keeps _ _ _ c.step.ensures in
    record {
      whole = keeps ∙ c.loop-step.invariant.whole;
      goes = λ steps f. goes_on steps c.args.self.now c.loop-step.self c.step.new.arg2 (c.loop-step.invariant.goes steps f) (rw (c.in_ok-at.was, c.in_default.is) at (f.reads _ _ _ c.step.ensures)) keeps
          (c.requires.steps.shortens _ _ (rw (c.in_ok-at.was, c.in_default.is) at c.step.ensures));
    }
