use Rattle.std.proofs.Common.{◌≡◌, ℕ, ◌<◌, ◌≤◌, ◌⊎◌, List, length, get_or, Some, None, vec_items, vec_len, Option, sym, ap, ◌∙◌, subst, inl, inr, arith, MatchOption}
use Rattle.std.proofs.lemmas.Bool.{cond-true, cond-false, lt-ltb, le-ltb}
use Rattle.chart.specs.Charted.{content}
use Rattle.chart.specs.Content.{Post, nobody, sender_of, receiver_of}
use Rattle.chart.specs.Shown.{post}
use Rattle.chart.specs.declared.charting.Chart.{Chart}
use Rattle.chart.specs.declared.pieces.Message.{Message}
use Rattle.chart.proofs.Stored.{message_at, message_count}
use Rattle.delivery.specs.declared.parcel.Tag.{Tag}
use Rattle.delivery.specs.declared.station.Station.{Station}
use Rattle.order.specs.Scenes.{station, known_tag}
use Rattle.order.proofs.Scenes.{ends_few, station_is}
use Rattle.order.proofs.Verdict.{chart_laid}
use Rattle.order.proofs.tags.tag_of.Goals as goal

abbrev tagged : Station → Station → Option Tag
tagged s r = Some (record { sender = s; receiver = r })

module _ (chart : Chart) (m : ℕ) (xs : List Message) (is : xs ≡ vec_items chart.parts.messages) where
  count : length (content chart).messages ≡ length xs
  count =
      let a : length (content chart).messages ≡ vec_len chart.parts.messages = message_count chart.parts in
      let b : vec_len chart.parts.messages ≡ length (vec_items chart.parts.messages) = chart.parts.messages.ok.0 in
      a ∙ b ∙ sym (ap length is)

  unknown : length xs ≤ m → known_tag (content chart) m ≡ None
  unknown l = cond-false _ _ _ (le-ltb m (length (content chart).messages) (omega (arith, count)))

  module _ (x : Message) (l : m < length xs) (here : x ≡ get_or xs m x) where
    inside : m < length (content chart).messages
    inside = omega (arith, count)

    kept : post x ≡ get_or (content chart).messages m nobody
    kept =
        let b : vec_len chart.parts.messages ≡ length (vec_items chart.parts.messages) = chart.parts.messages.ok.0 in
        message_at chart.parts m x (omega (arith, ap length is)) (subst (λ ys. x ≡ get_or ys m x) is here) nobody

    sender_is : x.sender.0 ≡ sender_of (content chart) m
    sender_is = ap (λ (p : Post). p.sender) kept

    receiver_is : x.receiver.0 ≡ receiver_of (content chart) m
    receiver_is = ap (λ (p : Post). p.receiver) kept

    small : (x.sender.0 < 128) × (x.receiver.0 < 128)
    small = let k = ends_few (content chart) (chart_laid chart) m inside in (subst (λ n. n < 128) (sym sender_is) k.0, subst (λ n. n < 128) (sym receiver_is) k.1)

    known : (s r : Station) → s.number ≡ x.sender.0 → r.number ≡ x.receiver.0 → tagged s r ≡ known_tag (content chart) m
    known s r p q =
        ap (λ (z : Station). tagged z r) (station_is s (sender_of (content chart) m) (p ∙ sender_is))
        ∙ ap (λ (z : Station). tagged (station (sender_of (content chart) m)) z) (station_is r (receiver_of (content chart) m) (q ∙ receiver_is))
        ∙ sym (cond-true _ _ _ (lt-ltb m (length (content chart).messages) inside))

    too_far : (128 ≤ x.sender.0) ⊎ (128 ≤ x.receiver.0) → ⊥
    too_far (inl l) = let k = small in omega arith
    too_far (inr l) = let k = small in omega arith

    between :
        (o : Option Tag) → MatchOption o ((128 ≤ x.sender.0) ⊎ (128 ≤ x.receiver.0)) (λ t. (t.sender.number ≡ x.sender.0) × (t.receiver.number ≡ x.receiver.0)) →
        o ≡ known_tag (content chart) m
    between None far = absurd (too_far far)
    between (Some t) same = known t.sender t.receiver same.0 same.1

pub returns-in_err-ends : goal.returns-in_err-ends
returns-in_err-ends c =
    c.from_residual.ensures ∙ sym (unknown c.args.chart.now c.args.message.0 c.messages.result.now c.messages.ensures c.in_err-ends.ensures.lookup.3)

pub returns : goal.returns
returns c =
    let f = c.in_ok-ends.ensures.lookup in
    between c.args.chart.now c.args.message.0 c.messages.result.now c.messages.ensures c.in_ok-ends.ends.now f.3.0 f.1 c.tag_between.result c.tag_between.ensures
