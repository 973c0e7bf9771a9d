-- What is said of a text that was not read.
use Rattle.std.specs.Prelude.{◌++◌, take, Some, None, codes, decimal, Option}
use Rattle.chart.specs.Words.{Text}
use Rattle.reader.specs.Refusals.{number, place}
use Rattle.reader.specs.declared.reading.ReadError.{ReadError}
use Rattle.reader.specs.declared.reading.ReadError.TheVariants as reading
use Rattle.reader.specs.declared.refusals.Refusal.{Refusal}
use Rattle.reader.specs.declared.refusals.Refusal.TheVariants.{TextTooLong, Unexpected, NameTooLong, TooManyInstances, NamedTwice, UnknownInstance, SentToItself, TooManyMessages, NotAsSent, NotReceived}
use Rattle.console.specs.Positions.{line_after, column_after, position_words}
use Rattle.console.specs.declared.failures.Failure.{Failure}
use Rattle.console.specs.declared.failures.Failure.TheVariants as failure
use Rattle.console.specs.declared.positions.Position.{Position}

-- a refusal comes with the line and the column of its place
abbrev pub failure_of : {M : Type 0} → ReadError → Text → Failure M
failure_of reading.OutOfMemory t = failure.OutOfMemory
failure_of (reading.Refused e) t = failure.Refused e (record { line = line_after (take (place e) t); column = column_after (take (place e) t) })

abbrev pub meaning : Refusal → Text
meaning TextTooLong = codes "the text is longer than 16384 bytes"
meaning (Unexpected at) = codes "this is not what the form of a chart wants here, or the text ends early"
meaning (NameTooLong at) = codes "the name is longer than 24 bytes"
meaning (TooManyInstances at) = codes "this instance is one more than 16"
meaning (NamedTwice at) = codes "the name stands here a second time"
meaning (UnknownInstance at) = codes "the list of instances lacks this name"
meaning (SentToItself at) = codes "the receiver is the sender"
meaning (TooManyMessages at) = codes "this message is one more than 64"
meaning (NotAsSent at) = codes "no message that waits to be received was sent like this: see its out line, its receiver and its sender"
meaning (NotReceived at) = codes "the chart ends, and some message was not received"

-- a refusal's number and place, what it means, and where it stands
abbrev pub refusal_words : Refusal → Position → Text
refusal_words e p =
    codes "refused " ++ (decimal (number e) ++ (codes " at " ++ (decimal (place e) ++ (codes "\n" ++ (meaning e ++ (codes "\n" ++ position_words p))))))

-- a program's own words where it was misused; nothing is said of how the system words its errors
abbrev pub failure_words : {M : Type 0} → (M → Option Text) → Failure M → Option Text
failure_words out (failure.Misused how) = out how
failure_words out (failure.NoArguments error) = None
failure_words out (failure.Unreadable error) = None
failure_words out failure.OutOfMemory = Some (codes "out of memory")
failure_words out (failure.Refused e p) = Some (refusal_words e p)
failure_words out (failure.Unwritten error) = None
