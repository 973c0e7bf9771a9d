use Rattle.std.proofs.Common.{◌≡◌}
use Rattle.analysis.specs.Records.{records}
use Rattle.analysis.specs.Writing.{Wrote}
use Rattle.analysis.proofs.reporting.report.Given as goal

abbrev pub invariant-loop-race : goal.invariant-loop-race
invariant-loop-race g l =
    record {
      same : l.writer.buffer.ghost_name ≡ l.initial.writer.buffer.ghost_name;
      wrote : Wrote l.fn.buffer (records l.yielded) l.writer;
    }
