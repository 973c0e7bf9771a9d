use Rattle.std.proofs.Common.{◌≡◌, length}
use Rattle.reader.specs.Answers.{Follows}
use Rattle.reader.specs.Reading.{Stepping}
use Rattle.reader.proofs.Stepping.{Goes}
use Rattle.reader.proofs.lines.Drawing.to_end.Given as goal

abbrev pub invariant-loop-step : goal.invariant-loop-step
invariant-loop-step g l =
    record {
      whole : l.self.scanner.whole ≡ l.initial.self.scanner.whole;
      goes : (steps : Stepping) → Follows (λ d r e. goal.F-post g l.step d r e) steps → Goes steps l.initial.self l.self;
    }

abbrev pub decreases-loop-step : goal.decreases-loop-step
decreases-loop-step g l = length l.self.scanner.rest.now
