-- What an answer of the reading means.
use Rattle.std.proofs.Common.{Ok, Err, Result, sym, ◌∙◌}
use Rattle.chart.specs.Content.{Content}
use Rattle.chart.specs.Words.{Text}
use Rattle.reader.specs.Answers.{ChartRead, PlaceRead, PlaceMeans, ReadsTexts}
use Rattle.reader.specs.Reading.{Outcome, reading}
use Rattle.reader.specs.declared.reading.ReadError.{ReadError}
use Rattle.reader.specs.declared.reading.ReadError.TheVariants.{Refused, OutOfMemory}
use Rattle.reader.proofs.Inversion.{same_ok}
use Rattle.reader.proofs.Sounding.{reading_sound}
use Rattle.reader.proofs.Completing.{reading_complete}

-- an error says the same of a place as of a chart
pub place_refused : (e : ReadError) (c : Content) (s : Outcome Content) → ChartRead (Err e) s → PlaceRead (Err e) c s
place_refused (Refused e) c s h = h
place_refused OutOfMemory c s h = tt

pub place_means : (r : Result (Unit {0}) ReadError) (c : Content) (bs : Text) → PlaceRead r c (reading bs) → PlaceMeans r c bs
place_means (Ok u) c bs h = record { is_text = reading_sound bs c h; only = λ d t. same_ok d c (sym (reading_complete bs d t) ∙ h) }
place_means (Err (Refused e)) c bs h = λ d t. cc (reading_complete bs d t)
place_means (Err OutOfMemory) c bs h = tt

pub reads_texts : (bs : Text) → ReadsTexts bs
reads_texts bs c = (reading_sound bs c, reading_complete bs c)
