-- The worked schedules, by computing.
use Rattle.std.proofs.Common.{refl}
use Rattle.worked_cases.specs.Scheduled.{WorkedSchedules}

pub worked_schedules : WorkedSchedules
worked_schedules = record {
  step_bag = (refl, refl);
  step_answers = (refl, refl);
  twin_bag = (refl, refl);
  throng_paired_line = (refl, refl);
  throng_second = (refl, refl);
}
