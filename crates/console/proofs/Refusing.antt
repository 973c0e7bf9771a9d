-- A text that was not read, as a program learns of it.
use Rattle.std.proofs.Common.{◌≡◌, Ok, Err, Result, MatchResult, inl, inr}
use Rattle.chart.specs.Words.{Text}
use Rattle.chart.specs.Content.{Content}
use Rattle.reader.specs.Answers.{PlaceRead}
use Rattle.reader.specs.Reading.{reading}
use Rattle.reader.specs.declared.reading.ReadError.{ReadError}
use Rattle.reader.specs.declared.reading.ReadError.TheVariants.{Refused, OutOfMemory}
use Rattle.console.specs.Failures.{failure_of}
use Rattle.console.specs.Reading.{ReadIn}
use Rattle.console.specs.declared.failures.Failure.{Failure}

pub is_told : {M : Type 0} (t : Text) (r : Result (Unit {0}) ReadError) (c : Content) (f : Failure M) → PlaceRead r c (reading t) → MatchResult r (λ u. ⊥) (λ e. f ≡ failure_of e t) → ReadIn t (Err f)
is_told t (Ok u) c f answer told = absurd told
is_told t (Err OutOfMemory) c f answer same = inl same
is_told t (Err (Refused r)) c f answer same = inr (r, answer, same)
