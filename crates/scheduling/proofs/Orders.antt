-- What the stages write is the schedule.
use Rattle.std.proofs.Common.{◌≡◌, ℕ, ◌+◌, ◌*◌, ◌<◌, ◌≤◌, Bool, List, ◌++◌, length, drop, Ok, Err, Result, IsErr, IsErrAnd, refl, sym, ap, ◌∙◌, subst, ap₂, add-one, arith, length-append}
use Rattle.chart.specs.Charted.{content}
use Rattle.chart.specs.Content.{Happening, message_of, Content}
use Rattle.chart.specs.declared.charting.Chart.{Chart}
use Rattle.delivery.specs.declared.parcel.Tag.{Tag}
use Rattle.order.specs.Scenes.{scene_of, event_at, PairAt}
use Rattle.order.proofs.Scenes.{Transitive}
use Rattle.order.proofs.Verdict.{chart_laid}
use Rattle.schedules.specs.Plan.{pass}
use Rattle.schedules.specs.Planned.{Scheduled}
use Rattle.schedules.proofs.Charts.{scheduled}
use Rattle.scheduling.specs.Firings.{firings}
use Rattle.analysis.specs.Outlooks.{Outlooks, Judges}
use Rattle.analysis.specs.declared.refusals.JudgeRefusal.{JudgeRefusal}
use Rattle.analysis.specs.declared.refusals.JudgeRefusal.TheVariants as judged
use Rattle.scheduling.specs.Refusals.{unjudged}
use Rattle.scheduling.specs.declared.refusals.ScheduleRefusal.{ScheduleRefusal}
use Rattle.scheduling.specs.declared.refusals.ScheduleRefusal.TheVariants.{TooShort}
use Rattle.scheduling.specs.Passes.{sends, receives, turn_of, listed}
use Rattle.scheduling.specs.Scheduling.{order, Turns, Gives, Schedules}
use Rattle.analysis.specs.Writing.{Fronted}
use Rattle.analysis.specs.declared.outlook.Outlook.{Outlook}
use Rattle.scheduling.specs.declared.passes.Stage.{Stage}
use Rattle.analysis.proofs.Asked.{chart_laws, few_messages, event_has_message}
use Rattle.scheduling.proofs.Stages.{firings_append, length_firings, pass_grows, listed_planned}

module _ (c : Content) where
  module _ (o : Outlook) where
    -- what a stage does, over the first k messages
    abbrev pub done_in : Stage → ℕ → List ℕ
    done_in t k = firings c (pass (sends o t) (receives o t) k)

    pub done_more : (t : Stage) (h : ℕ) → done_in t (h + 1) ≡ done_in t h ++ firings c (turn_of o t h)
    done_more t h = rw add-one (firings_append c (pass (sends o t) (receives o t) h) (turn_of o t h))

    -- there is room for the next message
    pub done_grows : (t : Stage) (h k : ℕ) → h < k → length (done_in t h) + length (firings c (turn_of o t h)) ≤ length (done_in t k)
    done_grows t h k l =
        let g = pass_grows (sends o t) (receives o t) (h + 1) k (omega arith) in
        let a = length_firings c (pass (sends o t) (receives o t) (h + 1)) in
        let b = length_firings c (pass (sends o t) (receives o t) k) in
        omega (arith, ap length (done_more t h), length-append (done_in t h) (firings c (turn_of o t h)))

-- a pair that is not judged to be reversible is refused, and leaves the buffer as it was
pub unturned :
    (c : Content) (rule : Tag → Tag → Bool) (room a b : ℕ) (old : List ℕ) (e : JudgeRefusal) (r : Result ℕ ScheduleRefusal) → Judges c (scene_of c rule room) a b (Err e) → IsErr r × IsErrAnd r (λ x. x ≡ unjudged e) →
    Schedules c rule room a b old r old
unturned c rule room a b old e (Ok n) told h = absurd h.1
unturned c rule room a b old judged.NotPair (Err x) told (is, so) = subst (λ y. Schedules c rule room a b old (Err y) old) (sym so) (told, refl)
unturned c rule room a b old judged.Fixed (Err x) told (is, so) = subst (λ y. Schedules c rule room a b old (Err y) old) (sym so) (told.0, told.1, refl)

-- a buffer with no room is refused as too short, and is left as it was
pub no_room : (c : Content) (rule : Tag → Tag → Bool) (room a b : ℕ) (old : List ℕ) → PairAt c a b → Turns c rule room a b → length old < 2 * length c.events → Schedules c rule room a b old (Err TooShort) old
no_room c rule room a b old pair turns less = (pair, turns, less, refl)

-- the schedule of a reversible pair
module _ (chart : Chart) (rule : Tag → Tag → Bool) (room : ℕ) (transitive : Transitive rule) (some : 1 ≤ room) (a b : ℕ) (pair : PairAt (content chart) a b) (turns : Turns (content chart) rule room a b) (o : Outlook) (told : Outlooks (scene_of (content chart) rule room) (message_of (event_at (content chart) a)) (message_of (event_at (content chart) b)) o) where
  abbrev c : Content
  c = content chart

  all : Scheduled c rule room
  all = scheduled c rule room (chart_laid chart) (chart_laws chart rule room transitive some)

  in_order : listed o (length c.messages) ≡ order c rule room a b
  in_order =
      let l = pair.drawn in
      let i = pair.inside in
      listed_planned (scene_of c rule room) (message_of (event_at c a)) (message_of (event_at c b)) o told (few_messages chart) (event_has_message chart a (omega arith))

  pub long : length (firings c (listed o (length c.messages))) ≡ 2 * length c.events
  long = length_firings c (listed o (length c.messages)) ∙ ap (λ (es : List Happening). 2 * length es) in_order ∙ ap (λ n. 2 * n) ((all.pairs a b pair turns).size ∙ sym all.size)

  pub gives : (old new : List ℕ) (count : ℕ) → 2 * length c.events ≤ length old → Fronted old (firings c (listed o (length c.messages))) new → count ≡ length c.events → Gives c rule room a b old count new
  gives old new count l h e =
      record {
        pair = pair;
        turns = turns;
        fits = l;
        counted = e;
        written = h ∙ ap₂ (λ (es : List Happening) (n : ℕ). firings c es ++ drop n old) in_order long;
        planned = all.pairs a b pair turns;
      }
