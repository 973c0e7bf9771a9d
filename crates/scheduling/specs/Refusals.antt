-- The number of each refusal, and which one stands for each of those of a judgement.
use Rattle.std.specs.Prelude.{ℕ}
use Rattle.analysis.specs.declared.refusals.JudgeRefusal.{JudgeRefusal}
use Rattle.analysis.specs.declared.refusals.JudgeRefusal.TheVariants as judged
use Rattle.scheduling.specs.declared.refusals.ScheduleRefusal.{ScheduleRefusal}
use Rattle.scheduling.specs.declared.refusals.ScheduleRefusal.TheVariants.{NotPair, NotReversible, TooShort}

abbrev pub schedule_number : ScheduleRefusal → ℕ
schedule_number NotPair = 14
schedule_number NotReversible = 15
schedule_number TooShort = 16

abbrev pub unjudged : JudgeRefusal → ScheduleRefusal
unjudged judged.NotPair = NotPair
unjudged judged.Fixed = NotReversible
