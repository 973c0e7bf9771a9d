-- What is read from a chart, as what the chart says.
use Rattle.std.proofs.Common.{◌≡◌, ℕ, ◌<◌, ◌≤◌, Bool, List, length, get_or, vec_items, vec_len, sym, refl, ap, ◌∙◌, subst, arith}
use Rattle.std.proofs.lemmas.List.{get_or-map, length-map}
use Rattle.chart.specs.Charted.{content}
use Rattle.chart.specs.Content.{sent, message_of}
use Rattle.chart.specs.Pieces.{message_number}
use Rattle.chart.specs.Shown.{happening, post}
use Rattle.chart.specs.declared.charting.Chart.{Chart}
use Rattle.chart.specs.declared.pieces.Event.{Event}
use Rattle.chart.specs.declared.pieces.Event.TheVariants.{Out, In}
use Rattle.chart.specs.declared.pieces.Message.{Message}
use Rattle.chart.proofs.Stored.{message_count}
use Rattle.matrix.specs.Places.{message_limit}
use Rattle.delivery.specs.declared.parcel.Tag.{Tag}
use Rattle.order.specs.Order.{Laws}
use Rattle.order.specs.Scenes.{event_at, scene_of}
use Rattle.order.proofs.Scenes.{Transitive, laws, event_inside}
use Rattle.order.proofs.Verdict.{chart_laid}

pub number_is : (x : Event) → (message_number x).0 ≡ message_of (happening x)
number_is (Out m) = refl
number_is (In m) = refl

-- the scene of a chart over a delivery has its laws
pub chart_laws : (chart : Chart) (rule : Tag → Tag → Bool) (room : ℕ) → Transitive rule → 1 ≤ room → Laws (scene_of (content chart) rule room)
chart_laws chart rule room = laws (content chart) rule room (chart_laid chart)

module _ (chart : Chart) where
  pub few_messages : length (content chart).messages ≤ 64
  few_messages =
      let few : vec_len chart.parts.messages ≤ 64 = chart.parts.few_messages in
      let e = message_count chart.parts in
      omega arith

  pub small : (m : ℕ) → m < length (content chart).messages → m < message_limit
  small m l = let few = few_messages in omega arith

  pub event_has_message : (i : ℕ) → i < length (content chart).events → message_of (event_at (content chart) i) < length (content chart).messages
  event_has_message = event_inside (content chart) (chart_laid chart)

  pub message_inside : (k i : ℕ) → k ≡ message_of (event_at (content chart) i) → i < length (content chart).events → k < length (content chart).messages
  message_inside k i e l = subst (λ (m : ℕ). m < length (content chart).messages) (sym e) (event_has_message i l)

  module _ (xs : List Event) (is : xs ≡ vec_items chart.parts.events) where
    pub as_many_events : length (content chart).events ≡ length xs
    as_many_events = length-map (vec_items chart.parts.events) happening ∙ sym (ap length is)

    pub event_read : (i : ℕ) (d : Event) → i < length xs → happening (get_or xs i d) ≡ event_at (content chart) i
    event_read i d l =
        ap (λ (ys : List Event). happening (get_or ys i d)) is
        ∙ sym (get_or-map happening (vec_items chart.parts.events) i d (sent 0) (subst (λ (ys : List Event). i < length ys) is l))

    pub event_known : (i : ℕ) (d : Event) → i < length xs → message_of (happening (get_or xs i d)) < length (content chart).messages
    event_known i d l =
        let e = as_many_events in
        let here : message_of (happening (get_or xs i d)) ≡ message_of (event_at (content chart) i) = ap message_of (event_read i d l) in
        let k : message_of (event_at (content chart) i) < length (content chart).messages = event_has_message i (omega arith) in
        omega arith

  module _ (xs : List Message) (is : xs ≡ vec_items chart.parts.messages) where
    pub as_many_messages : length (content chart).messages ≡ length xs
    as_many_messages = length-map (vec_items chart.parts.messages) post ∙ sym (ap length is)
