-- What the code answers, without its references.
use Rattle.std.specs.Prelude.{◌≡◌, ℕ, ◌<◌, length, ◌↔◌, Some, None, Option, Ok, Err, Result}
use Rattle.std.specs.Borrow.{MutBor}
use Rattle.chart.specs.Words.{Text}
use Rattle.chart.specs.Names.{text_of}
use Rattle.chart.specs.Content.{Content}
use Rattle.chart.specs.Charted.{content}
use Rattle.chart.specs.Drafted.{drafted}
use Rattle.chart.specs.declared.charting.Chart.{Chart}
use Rattle.chart.specs.declared.names.Name.{Name}
use Rattle.chart.specs.declared.numbers.InstanceId.{InstanceId}
use Rattle.chart.specs.declared.drafting.consulting.Sent.{Sent}
use Rattle.reader.specs.Reading.{Outcome, Step, more, ended, Stepping, reading}
use Rattle.reader.specs.Meaning.{TextOf}
use Rattle.reader.specs.declared.lines.Drawing.{Drawing}
use Rattle.reader.specs.declared.tokens.Word.{Word}
use Rattle.reader.specs.declared.reading.ReadError.{ReadError}
use Rattle.reader.specs.declared.reading.ReadError.TheVariants.{Refused, OutOfMemory}

abbrev pub name_read : Outcome Name → Outcome Text
name_read (Ok n) = Ok (text_of n)
name_read (Err e) = Err e

abbrev pub instance_read : Outcome InstanceId → Outcome ℕ
instance_read (Ok i) = Ok i.0
instance_read (Err e) = Err e

abbrev pub message_read : Outcome Sent → Outcome ℕ
message_read (Ok m) = Ok m.number.0
message_read (Err e) = Err e

abbrev pub word_read : Outcome Word → Outcome (Text × ℕ)
word_read (Ok w) = Ok (w.text.now, w.at)
word_read (Err e) = Err e

-- what is left of the text
abbrev pub rest_read : Outcome (Unit {0}) → Text → Outcome Text
rest_read (Ok u) rest = Ok rest
rest_read (Err e) rest = Err e

-- the title and the first instance, and what is left of the text
abbrev pub heading_read : Outcome (Name × Name) → Text → Outcome (Text × Text × Text)
heading_read (Ok names) rest = Ok (text_of names.0, text_of names.1, rest)
heading_read (Err e) rest = Err e

-- a draft alone
abbrev pub draft_read : Outcome (Unit {0}) → Content → Outcome Content
draft_read (Ok u) c = Ok c
draft_read (Err e) c = Err e

-- what is said where a drawing stands: of the length of the text, the draft, and what is left of the text
abbrev pub at : {X : Type 0} → (ℕ → Content → Text → X) → Drawing → X
at f d = f d.scanner.whole (drafted d.draft) d.scanner.rest.now

-- a draft, and what is left of the text
abbrev pub line_read : Outcome (Unit {0}) → Drawing → Outcome (Content × Text)
line_read (Ok u) d = Ok (drafted d.draft, d.scanner.rest.now)
line_read (Err e) d = Err e

-- the part goes on, or has ended at a place
abbrev pub step_read : Outcome (Option ℕ) → Drawing → Outcome Step
step_read (Ok None) d = Ok (more (drafted d.draft) d.scanner.rest.now)
step_read (Ok (Some p)) d = Ok (ended (drafted d.draft) p d.scanner.rest.now)
step_read (Err e) d = Err e

-- a draft, the place where the part ended, and what is left of the text
abbrev pub part_read : Outcome ℕ → Drawing → Outcome (Content × ℕ × Text)
part_read (Ok p) d = Ok (drafted d.draft, p, d.scanner.rest.now)
part_read (Err e) d = Err e

-- what one step of the code may do: the drawing before it, its answer, and the drawing after it
module _ (Call : MutBor Drawing → Outcome (Option ℕ) → MutBor Drawing → Type 0) where
  -- each step is of the same text, and one that goes on leaves less of it
  pub record Stepped : Type 0 where
    pub keeps : (d : MutBor Drawing) (r : Outcome (Option ℕ)) (e : MutBor Drawing) → Call d r e → e.now.scanner.whole ≡ d.now.scanner.whole
    pub shortens : (d e : MutBor Drawing) → Call d (Ok None) e → length e.now.scanner.rest.now < length d.now.scanner.rest.now

  -- each step is one of these
  pub record Follows (step : Stepping) : Type 0 where
    pub reads : (d : MutBor Drawing) (r : Outcome (Option ℕ)) (e : MutBor Drawing) → Call d r e → step_read r e.now ≡ at step d.now

abbrev pub content_read : Outcome Chart → Outcome Content
content_read (Ok chart) = Ok (content chart)
content_read (Err e) = Err e

-- a chart as the reading gives it; nothing is said of a want of memory
abbrev pub ChartRead : Result Chart ReadError → Outcome Content → Type 0
ChartRead (Ok chart) s = s ≡ Ok (content chart)
ChartRead (Err (Refused e)) s = s ≡ Err e
ChartRead (Err OutOfMemory) s = Unit {0}

-- the same of a place that was filled with c
abbrev pub PlaceRead : Result (Unit {0}) ReadError → Content → Outcome Content → Type 0
PlaceRead (Ok u) c s = s ≡ Ok c
PlaceRead (Err (Refused e)) c s = s ≡ Err e
PlaceRead (Err OutOfMemory) c s = Unit {0}

-- the text is that of the chart c, and of no other
pub record Means (bs : Text) (c : Content) : Type 0 where
  pub is_text : TextOf c bs
  pub only : (d : Content) → TextOf d bs → d ≡ c

-- a place that was filled holds the one chart whose text it is; a refused text is that of no chart
abbrev pub PlaceMeans : Result (Unit {0}) ReadError → Content → Text → Type 0
PlaceMeans (Ok u) c bs = Means bs c
PlaceMeans (Err (Refused e)) c bs = (d : Content) → TextOf d bs → ⊥
PlaceMeans (Err OutOfMemory) c bs = Unit {0}

-- reading from left to right accepts the texts of charts, each with its chart, and no others
abbrev pub ReadsTexts : Text → Type 0
ReadsTexts bs = (c : Content) → (reading bs ≡ Ok c) ↔ TextOf c bs
