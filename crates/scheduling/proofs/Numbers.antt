-- The number of an event, found by looking at one event after another.
use Rattle.std.proofs.Common.{◌≡◌, ℕ, ◌+◌, ◌<◌, ◌≤◌, Bool, true, false, cond, not, List, [], ◌∷◌, map, length, vec_items, vec_len, MatchOption, Option, sym, refl, ap, ◌∙◌, arith}
use Rattle.std.specs.List.{prefix_len, AllWithin, HoldsAt}
use Rattle.std.specs.Option.{unwrap_or}
use Rattle.std.proofs.lemmas.Iterator.{index_from_first}
use Rattle.std.proofs.lemmas.List.Sums.{prefix_len-le-length}
use Rattle.chart.specs.Charted.{content}
use Rattle.chart.specs.Content.{Happening, sent, received, Content}
use Rattle.chart.specs.Shown.{happening}
use Rattle.chart.specs.declared.charting.Chart.{Chart}
use Rattle.chart.specs.declared.pieces.Event.{Event}
use Rattle.chart.proofs.Stored.{event_count}
use Rattle.order.specs.Pass.{same}
use Rattle.order.specs.Scenes.{number_of}

leading_map : {X Y : Type 0} (p : Y → Bool) (f : X → Y) (xs : List X) → prefix_len p (map f xs) ≡ prefix_len (λ x. p (f x)) xs
leading_map p f [] = refl
leading_map p f (x ∷ xs) = ap (λ n. cond (p (f x)) (1 + n) 0) (leading_map p f xs)

number_is : (c : Content) (e : Happening) → number_of c e ≡ prefix_len (λ f. not (same e f)) c.events
number_is c (sent m) = refl
number_is c (received m) = refl

-- whether x is another event than e
abbrev pub is_other : Happening → Event → Bool
is_other e x = not (same e (happening x))

module _ (chart : Chart) (e : Happening) (xs : List Event) (is : xs ≡ vec_items chart.parts.events) where
  counted : number_of (content chart) e ≡ prefix_len (is_other e) xs
  counted = number_is (content chart) e ∙ leading_map (λ f. not (same e f)) happening (vec_items chart.parts.events) ∙ ap (prefix_len (is_other e)) (sym is)

  -- what `position` answers of them
  pub number_found :
      (r : Option ℕ) →
      MatchOption r (AllWithin (λ x. same e (happening x) ≡ false) xs 0 (length xs)) (λ i. (i < length xs) × HoldsAt (λ x. same e (happening x) ≡ true) xs i × AllWithin (λ x. same e (happening x) ≡ false) xs 0 i) →
      unwrap_or r (length xs) ≡ number_of (content chart) e
  number_found r first =
      sym (index_from_first (prefix_len (is_other e)) (λ x. same e (happening x) ≡ true) (λ x. same e (happening x) ≡ false) refl
      (λ x ys t. ap (λ b. cond (not b) (1 + prefix_len (is_other e) ys) 0) t)
      (λ x ys t. ap (λ b. cond (not b) (1 + prefix_len (is_other e) ys) 0) t ∙ omega arith) xs r first)
      ∙ sym counted

pub number_small : (chart : Chart) (e : Happening) → number_of (content chart) e ≤ 128
number_small chart e =
    let n = number_is (content chart) e in
    let l = prefix_len-le-length (λ f. not (same e f)) (content chart).events in
    let k : vec_len chart.parts.events ≤ 128 = chart.few_events in
    let m = event_count chart.parts in
    omega arith
