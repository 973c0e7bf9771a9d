-- What a program learns of a chart text.
use Rattle.std.specs.Prelude.{◌≡◌, ◌⊎◌, Ok, Err, Result}
use Rattle.chart.specs.Words.{Text}
use Rattle.chart.specs.Charted.{content}
use Rattle.chart.specs.declared.charting.Chart.{Chart}
use Rattle.reader.specs.Reading.{reading}
use Rattle.reader.specs.declared.reading.ReadError.TheVariants.{Refused}
use Rattle.reader.specs.declared.refusals.Refusal.{Refusal}
use Rattle.console.specs.Failures.{failure_of}
use Rattle.console.specs.declared.failures.Failure.{Failure}
use Rattle.console.specs.declared.failures.Failure.TheVariants.{OutOfMemory}

-- the chart of the text, or the refusal of the text, with its position; memory may be wanting too
abbrev pub ReadIn : {M : Type 0} → Text → Result Chart (Failure M) → Type 0
ReadIn t (Ok chart) = reading t ≡ Ok (content chart)
ReadIn t (Err f) = (f ≡ OutOfMemory) ⊎ ((e : Refusal) × (reading t ≡ Err e) × (f ≡ failure_of (Refused e) t))
