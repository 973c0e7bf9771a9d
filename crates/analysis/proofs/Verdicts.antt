-- From the tests of two events to the verdict on them.
use Rattle.std.proofs.Common.{◌≡◌, ℕ, ◌<◌, ◌≤◌, Bool, true, false, ◌&&◌, T, eqb, ltb, length, sym, ap, ◌∙◌}
use Rattle.std.proofs.lemmas.Bool.{both_ways, and_parts, and_from, lt-ltb, ltb-true, eq-eqb, eqb-true}
use Rattle.chart.specs.Charted.{content}
use Rattle.chart.specs.Content.{sent, Content}
use Rattle.chart.specs.declared.charting.Chart.{Chart}
use Rattle.delivery.specs.declared.parcel.Tag.{Tag}
use Rattle.matrix.specs.Places.{place_of}
use Rattle.matrix.specs.Models.{has, row_of}
use Rattle.matrix.specs.declared.matrices.OrderMatrix.{OrderMatrix}
use Rattle.matrix.specs.declared.sets.EventSet.{EventSet}
use Rattle.order.specs.Order.{Scene}
use Rattle.order.specs.Pass.{rows, turns}
use Rattle.order.specs.Report.{is_reported}
use Rattle.order.specs.Reversible.{Reversible}
use Rattle.order.specs.Scenes.{scene_of, instance_of, event_at, PairAt}
use Rattle.order.proofs.Scenes.{Transitive}
use Rattle.order.proofs.Tests.{from_true, to_true}
use Rattle.order.proofs.Theory.{theory}
use Rattle.analysis.specs.Judging.{Filled, Foreseen}
use Rattle.analysis.specs.Outlooks.{Outlooks}
use Rattle.analysis.specs.declared.judging.Prospect.{Prospect}
use Rattle.analysis.specs.declared.outlook.Outlook.{Outlook}
use Rattle.analysis.proofs.Asked.{chart_laws, event_has_message}

module _ (c : Content) (a b : ℕ) where
  -- whether both stand at one instance, a above b
  abbrev paired : Bool
  paired = ltb a b && eqb (instance_of c (event_at c a)) (instance_of c (event_at c b))

  pub a_pair : b < length c.events → true ≡ paired → PairAt c a b
  a_pair l t =
      let k = and_parts (ltb a b) (eqb (instance_of c (event_at c a)) (instance_of c (event_at c b))) (sym t) in
      record { drawn = ltb-true a b k.0; inside = l; together = eqb-true _ _ k.1 }

module _ (chart : Chart) (rule : Tag → Tag → Bool) (room : ℕ) (transitive : Transitive rule) (some : 1 ≤ room) (a b : ℕ) (pair : PairAt (content chart) a b) where
  abbrev c : Content
  c = content chart

  abbrev s : Scene
  s = scene_of c rule room

  abbrev turned : Bool
  turned = turns s (rows s (length c.messages)) (event_at c a) (event_at c b)

  same_instance : (ltb a b && eqb (instance_of c (event_at c a)) (instance_of c (event_at c b))) ≡ true
  same_instance = and_from _ _ (lt-ltb a b pair.drawn) (eq-eqb _ _ pair.together)

  tested : (T turned → Reversible s (event_at c a) (event_at c b)) × (Reversible s (event_at c a) (event_at c b) → T turned)
  tested =
      let k = (theory s (chart_laws chart rule room transitive some)).tested (event_at c a) (event_at c b) (event_has_message chart b pair.inside) in
      (k.0, k.1)

  pub reversible : true ≡ is_reported c s (rows s (length c.messages)) a b → Reversible s (event_at c a) (event_at c b)
  reversible t = tested.0 (from_true turned (and_parts _ turned (sym t)).1)

  pub fixed : false ≡ is_reported c s (rows s (length c.messages)) a b → ¬ Reversible s (event_at c a) (event_at c b)
  fixed f r = both_ways _ (sym f) (and_from _ turned same_instance (to_true turned (tested.1 r)))

-- the row of an out event, and the prospect
pub outlooks :
    (s : Scene) (o : OrderMatrix) (p : Prospect) (m n k : ℕ) (x : Outlook) → Filled s o → Foreseen s m p → n < s.messages →
    x.first.0 ≡ m → x.second.0 ≡ n → k ≡ place_of (sent n) → x.before ≡ row_of o k → x.after ≡ p.after → x.held ≡ p.held → Outlooks s m n x
outlooks s o p m n k x filled foreseen l first second place before after held =
    record {
      first = first;
      second = second;
      before = λ h b. ap (λ (r : EventSet). has r (place_of (sent h))) (before ∙ ap (row_of o) place) ∙ filled (sent h) (sent n) b l;
      after = λ h b. ap (λ (r : EventSet). has r (place_of (sent h))) after ∙ foreseen.after h b;
      held = λ h b. ap (λ (r : EventSet). has r (place_of (sent h))) held ∙ foreseen.held (sent h) ∙ ap (λ t. t && s.holds m h) (lt-ltb h s.messages b);
    }
