-- The number and the place of each refusal.
use Rattle.std.specs.Prelude.{ℕ}
use Rattle.reader.specs.declared.refusals.Refusal.{Refusal}
use Rattle.reader.specs.declared.refusals.Refusal.TheVariants.{TextTooLong, Unexpected, NameTooLong, TooManyInstances, NamedTwice, UnknownInstance, SentToItself, TooManyMessages, NotAsSent, NotReceived}

abbrev pub number : Refusal → ℕ
number TextTooLong = 1
number (Unexpected p) = 2
number (NameTooLong p) = 3
number (TooManyInstances p) = 4
number (NamedTwice p) = 5
number (UnknownInstance p) = 6
number (SentToItself p) = 7
number (TooManyMessages p) = 8
number (NotAsSent p) = 9
number (NotReceived p) = 10

abbrev pub place : Refusal → ℕ
place TextTooLong = 16384
place (Unexpected p) = p
place (NameTooLong p) = p
place (TooManyInstances p) = p
place (NamedTwice p) = p
place (UnknownInstance p) = p
place (SentToItself p) = p
place (TooManyMessages p) = p
place (NotAsSent p) = p
place (NotReceived p) = p
