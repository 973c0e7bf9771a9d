-- What holds of every scene, told of a chart over a delivery.
use Rattle.std.proofs.Common.{◌≡◌, ℕ, ◌<◌, ◌≤◌, Bool, ◌↔◌, List, length, vec_len, refl, subst, arith}
use Rattle.chart.specs.Content.{Happening, sent, received, message_of, Content}
use Rattle.chart.specs.Charted.{content}
use Rattle.chart.specs.declared.charting.Chart.{Chart}
use Rattle.chart.proofs.Stored.{instance_count}
use Rattle.delivery.specs.declared.parcel.Tag.{Tag}
use Rattle.order.specs.Order.{Scene, Laws, drawn}
use Rattle.order.specs.Runs.{Run, Reversed, Reverses, CanReverse, peak}
use Rattle.order.specs.Reversible.{Reversible, LeastWaiting}
use Rattle.order.specs.Scenes.{Laid, scene_of, event_at, PairAt}
use Rattle.order.specs.Verdict.{Judged}
use Rattle.order.proofs.Tests.{from_true}
use Rattle.order.proofs.Runs.{sound}
use Rattle.order.proofs.Exact.{needed, sends_wait, at_reversal}
use Rattle.order.proofs.Theory.{theory}
use Rattle.order.proofs.Scenes.{event_inside, number_of_event, pair_above, all_fired, tag_ends}
use Rattle.order.proofs.Report.{reports}

module _ (c : Content) (rule : Tag → Tag → Bool) (room : ℕ) (laid : Laid c) (law : Laws (scene_of c rule room)) where
  abbrev s : Scene
  s = scene_of c rule room

  abbrev Least : Happening → Happening → Type 0
  Least a b =
      (k : ℕ) × LeastWaiting s a b k × ((r : List Happening) × Reverses s a b r × (peak r ≡ k)) × ((r : List Happening) → Run s r → Reversed a b r → k ≤ peak r)

  module _ (a b : ℕ) (p : PairAt c a b) where
    -- the second event is an in event, or an out event below the first at its instance
    waits_for : (n : ℕ) → event_at c b ≡ sent n → (¬ Reversible s (event_at c a) (sent n)) × (¬ CanReverse s (event_at c a) (sent n))
    waits_for n e = sends_wait s law (event_at c a) n (from_true _ (pair_above c laid a b n p e))

    inside : (n : ℕ) → event_at c b ≡ received n → n < length c.messages
    inside n e = subst (λ x. message_of x < length c.messages) e (event_inside c laid b p.inside)

    pair_exact : (f : Happening) → event_at c b ≡ f → Reversible s (event_at c a) f ↔ CanReverse s (event_at c a) f
    pair_exact (sent n) e = let w = waits_for n e in ((λ v. absurd (w.0 v)), λ v. absurd (w.1 v))
    pair_exact (received n) e = (theory s law).exact (event_at c a) n (inside n e)

    pair_needed : (r : List Happening) → Run s r → (f : Happening) → event_at c b ≡ f → Reversed (event_at c a) f r → Reversible s (event_at c a) f
    pair_needed r run (sent n) e v =
        let t = at_reversal s run v in
        absurd (t.2 (sound s (drawn (from_true _ (pair_above c laid a b n p e))) t.0 t.1))
    pair_needed r run (received n) e v = needed s law (event_at c a) n r run v

    pair_least : (f : Happening) → event_at c b ≡ f → Reversible s (event_at c a) f → Least (event_at c a) f
    pair_least (sent n) e v = absurd ((waits_for n e).0 v)
    pair_least (received n) e v = (theory s law).least_peak (event_at c a) n (inside n e) v

  pub judged : Judged c rule room
  judged = record {
    tagged = tag_ends c laid;
    numbers = number_of_event c laid;
    whole = all_fired c laid rule room;
    theory = theory s law;
    pairs = λ a b p. pair_exact a b p (event_at c b) refl;
    needed = λ a b r p run v. pair_needed a b p r run (event_at c b) refl v;
    least_peak = λ a b p v. pair_least a b p (event_at c b) refl v;
    reported = reports c rule room laid law;
    by_runs = λ a b.
        (let k = (reports c rule room laid law).exact a b in (
          (λ h. let x = k.0 h in (x.0, (pair_exact a b x.0 (event_at c b) refl).0 x.1)),
          λ (p, v). k.1 (p, (pair_exact a b p (event_at c b) refl).1 v),
        ));
  }

-- an accepted chart, or a blank place, is laid out as the analysis needs it
pub chart_laid : (chart : Chart) → Laid (content chart)
chart_laid chart =
    let few : vec_len chart.parts.instances ≤ 16 = chart.parts.few_instances in
    let e = instance_count chart.parts in
    record {
      few_instances = omega arith;
      all_join = chart.parts.all_join;
      is_numbered = chart.parts.numbered;
      all_sent = chart.parts.all_sent;
      received_once = chart.received_once;
    }
