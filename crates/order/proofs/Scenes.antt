-- A chart over a delivery is a scene with its laws.
use Rattle.std.proofs.Common.{◌≡◌, ℕ, zero, suc, ◌+◌, ◌%◌, ◌<◌, ◌≤◌, Bool, true, false, cond, not, ◌&&◌, eqb, ltb, ◌⊎◌, ◌↔◌, List, [], ◌∷◌, length, get_or, count_by, sym, refl, ap, ◌∙◌, subst, inl, inr, mod-eq_of_lt, arith}
use native.Mathlib.Bridge.{le_prop}
use Rattle.std.specs.List.{prefix_len}
use Rattle.std.proofs.lemmas.Bool.{eq-eqb, ltb-true, lt-ltb, and_parts, and_from, cases_Bool, both_ways}
use Rattle.chart.specs.Content.{Happening, sent, received, message_of, Content, nobody, sender_of, receiver_of, is_sending, is_sent, numbered, sent_at}
use Rattle.chart.proofs.Counting.{count_yes, count_no}
use Rattle.chart.proofs.Numbering.{at_send, at_receipt, sent_once, inside}
use Rattle.delivery.specs.declared.parcel.Tag.{Tag}
use Rattle.delivery.specs.declared.station.Station.{Station}
use Rattle.order.specs.Lists.{Has}
use Rattle.order.specs.Order.{Laws}
use Rattle.order.specs.Runs.{Complete}
use Rattle.order.specs.Pass.{same}
use Rattle.order.specs.Scenes.{Laid, instance_of, number_of, above, station, tag_of, scene_of, event_at, PairAt, AllFired}
use Rattle.order.proofs.Tests.{to_true, from_true, same_is, is_same}

-- the number of an event among a list of them
abbrev at : Happening → List Happening → ℕ
at e es = prefix_len (λ x. not (same e x)) es

number_at : (c : Content) (e : Happening) → number_of c e ≡ at e c.events
number_at c (sent m) = refl
number_at c (received m) = refl

at_here : (e x : Happening) (es : List Happening) → same e x ≡ true → at e (x ∷ es) ≡ 0
at_here e x es p = ap (λ b. cond (not b) (1 + at e es) 0) p

at_later : (e x : Happening) (es : List Happening) → same e x ≡ false → at e (x ∷ es) ≡ 1 + at e es
at_later e x es p = ap (λ b. cond (not b) (1 + at e es) 0) p

-- above the out event of message n stand only messages of smaller numbers
low_number : (es : List Happening) (j : ℕ) (e : Happening) (n : ℕ) → numbered j es ≡ true → j ≤ n → at e es < at (sent n) es → message_of e < n
low_number [] j e n h low l = absurd (omega arith)
low_number (sent m ∷ es) j e n h low l = go (low_number es (suc j) e n) (cases_Bool (same e (sent m))) (cases_Bool (same (sent n) (sent m)))
  where
    p : (m ≡ j) × (numbered (suc j) es ≡ true)
    p = at_send j m es h

    go :
        (numbered (suc j) es ≡ true → suc j ≤ n → at e es < at (sent n) es → message_of e < n) →
        (same e (sent m) ≡ true) ⊎ (same e (sent m) ≡ false) → (same (sent n) (sent m) ≡ true) ⊎ (same (sent n) (sent m) ≡ false) → message_of e < n
    go ih x (inl y) = let z = at_here (sent n) (sent m) es y in absurd (omega arith)
    go ih (inl x) (inr y) =
        let q : message_of e ≡ m = ap message_of (same_is e (sent m) (from_true _ x)) in
        let r : m ≡ j = p.0 in
        let d : (m ≡ n) → ⊥ = λ w. both_ways (eqb m n) y (eq-eqb m n w) in
        omega arith
    go ih (inr x) (inr y) =
        let u = at_later e (sent m) es x in
        let v = at_later (sent n) (sent m) es y in
        let r : m ≡ j = p.0 in
        let d : (m ≡ n) → ⊥ = λ w. both_ways (eqb m n) y (eq-eqb m n w) in
        ih p.1 (omega arith) (omega arith)
low_number (received m ∷ es) j e n h low l = go (low_number es j e n) (cases_Bool (same e (received m)))
  where
    p : (m < j) × (numbered j es ≡ true)
    p = at_receipt j m es h

    go : (numbered j es ≡ true → j ≤ n → at e es < at (sent n) es → message_of e < n) → (same e (received m) ≡ true) ⊎ (same e (received m) ≡ false) → message_of e < n
    go ih (inl x) =
        let q : message_of e ≡ m = ap message_of (same_is e (received m) (from_true _ x)) in
        let r : m < j = p.0 in
        omega arith
    go ih (inr x) =
        let u = at_later e (received m) es x in
        let v = at_later (sent n) (received m) es refl in
        ih p.1 low (omega arith)

-- what stands there is counted
counted : (es : List Happening) (e : Happening) (i : ℕ) (d : Happening) → i < length es → get_or es i d ≡ e → 0 < count_by (same e) es
counted [] e i d l p = absurd (omega arith)
counted (x ∷ es) e zero d l p = let z = count_yes (same e) x es (to_true _ (is_same (sym p))) in omega arith
counted (x ∷ es) e (suc i) d l p = go (counted es e i d (omega arith) p) (cases_Bool (same e x))
  where
    go : 0 < count_by (same e) es → (same e x ≡ true) ⊎ (same e x ≡ false) → 0 < count_by (same e) (x ∷ es)
    go ih (inl y) = let z = count_yes (same e) x es y in omega arith
    go ih (inr y) = let z = count_no (same e) x es y in omega arith

-- an event that stands once has one place
at_only : (es : List Happening) (e : Happening) (i : ℕ) (d : Happening) → i < length es → get_or es i d ≡ e → count_by (same e) es ≤ 1 → at e es ≡ i
at_only [] e i d l p c = absurd (omega arith)
at_only (x ∷ es) e zero d l p c = at_here e x es (to_true _ (is_same (sym p)))
at_only (x ∷ es) e (suc i) d l p c = go (at_only es e i d (omega arith) p) (counted es e i d (omega arith) p) (cases_Bool (same e x))
  where
    go : (count_by (same e) es ≤ 1 → at e es ≡ i) → 0 < count_by (same e) es → (same e x ≡ true) ⊎ (same e x ≡ false) → at e (x ∷ es) ≡ suc i
    go ih some (inl y) = let z = count_yes (same e) x es y in absurd (omega arith)
    go ih some (inr y) =
        let z = count_no (same e) x es y in
        let k : at e es ≡ i = ih (omega arith) in
        let w = at_later e x es y in
        omega arith

-- what is counted stands there
found : (es : List Happening) (e : Happening) → 0 < count_by (same e) es → (i : ℕ) × (i < length es) × ((d : Happening) → get_or es i d ≡ e)
found [] e l = absurd (omega arith)
found (x ∷ es) e l = go (found es e) (cases_Bool (same e x))
  where
    go : (0 < count_by (same e) es → (i : ℕ) × (i < length es) × ((d : Happening) → get_or es i d ≡ e)) → (same e x ≡ true) ⊎ (same e x ≡ false) → (i : ℕ) × (i < length (x ∷ es)) × ((d : Happening) → get_or (x ∷ es) i d ≡ e)
    go ih (inl y) = (0, omega arith, λ d. sym (same_is e x (from_true _ y)))
    go ih (inr y) =
        let z = count_no (same e) x es y in
        let t = ih (omega arith) in
        let l : t.0 < length es = t.1 in
        (suc t.0, omega arith, t.2)

module _ (c : Content) (laid : Laid c) where
  -- each event belongs to a message of the chart
  pub event_inside : (i : ℕ) → i < length c.events → message_of (event_at c i) < length c.messages
  event_inside i l =
      let k = inside c.events 0 laid.is_numbered i (sent 0) l in
      let e : count_by is_sending c.events ≡ length c.messages = laid.all_sent in
      omega arith

  sends_once : (m : ℕ) → m < length c.messages → count_by (is_sent m) c.events ≡ 1
  sends_once m l =
      let e : count_by is_sending c.events ≡ length c.messages = laid.all_sent in
      sent_once c.events 0 m laid.is_numbered (omega arith) (omega arith)

  stands_once : (e : Happening) → message_of e < length c.messages → count_by (same e) c.events ≡ 1
  stands_once (sent m) l = sends_once m l
  stands_once (received m) l = laid.received_once m l

  -- an event has its own number, and each event of a message has one
  pub number_of_event : (i : ℕ) → i < length c.events → number_of c (event_at c i) ≡ i
  number_of_event i l =
      let e = stands_once (event_at c i) (event_inside i l) in
      number_at c (event_at c i) ∙ at_only c.events (event_at c i) i (sent 0) l refl (omega arith)

  pub event_of_message : (e : Happening) → message_of e < length c.messages → (i : ℕ) × (i < length c.events) × (event_at c i ≡ e)
  event_of_message e l =
      let k = stands_once e l in
      let t = found c.events e (omega arith) in
      (t.0, t.1, t.2 (sent 0))

  -- what is drawn above an out event at its instance is above it in the scene
  pub pair_above : (a b n : ℕ) → PairAt c a b → event_at c b ≡ sent n → above c (event_at c a) n ≡ true
  pair_above a b n p e =
      let drawn : a < b = p.drawn in
      let l : b < length c.events = p.inside in
      let na : number_of c (event_at c a) ≡ a = number_of_event a (omega arith) in
      let nb : sent_at n c.events ≡ b = ap (number_of c) (sym e) ∙ number_of_event b l in
      let i : n < length c.messages = subst (λ x. message_of x < length c.messages) e (event_inside b l) in
      and_from _ _ (lt-ltb n (length c.messages) i)
      (and_from _ _ (eq-eqb (instance_of c (event_at c a)) (sender_of c n) (p.together ∙ ap (instance_of c) e))
      (lt-ltb (number_of c (event_at c a)) (sent_at n c.events) (omega arith)))

  -- a record is complete exactly if it has each event of the chart
  pub all_fired : (rule : Tag → Tag → Bool) (room : ℕ) (r : List Happening) → Complete (scene_of c rule room) r ↔ AllFired c r
  all_fired rule room r = ((λ k i l. each (event_at c i) k (event_inside i l)), λ k m l. (fired k (sent m) l, fired k (received m) l))
    where
      each : (e : Happening) → Complete (scene_of c rule room) r → message_of e < length c.messages → Has e r
      each (sent m) k l = (k m l).0
      each (received m) k l = (k m l).1

      fired : AllFired c r → (e : Happening) → message_of e < length c.messages → Has e r
      fired k e l = let t = event_of_message e l in subst (λ x. Has x r) t.2 (k t.0 t.1)

  -- the numbers in a tag are those of the instances
  pub ends_few : (m : ℕ) → m < length c.messages → (sender_of c m < 128) × (receiver_of c m < 128)
  ends_few m l =
      let few : length c.instances ≤ 16 = laid.few_instances in
      let i = and_parts (ltb (sender_of c m) (length c.instances)) (ltb (receiver_of c m) (length c.instances) && not (eqb (sender_of c m) (receiver_of c m))) (laid.all_join m nobody l) in
      let j = and_parts (ltb (receiver_of c m) (length c.instances)) (not (eqb (sender_of c m) (receiver_of c m))) i.1 in
      let s : sender_of c m < length c.instances = ltb-true (sender_of c m) (length c.instances) i.0 in
      let r : receiver_of c m < length c.instances = ltb-true (receiver_of c m) (length c.instances) j.0 in
      (omega arith, omega arith)

  pub tag_ends : (m : ℕ) → m < length c.messages → ((tag_of c m).sender.number ≡ sender_of c m) × ((tag_of c m).receiver.number ≡ receiver_of c m)
  tag_ends m l = (mod-eq_of_lt (ends_few m l).0, mod-eq_of_lt (ends_few m l).1)

-- a station is known by its number
pub station_is : (x : Station) (n : ℕ) → x.number ≡ n → x ≡ station n
station_is x n e =
    let small : x.number < 128 = x.fits in
    let same_number : x.number ≡ n % 128 = e ∙ sym (mod-eq_of_lt (subst (λ k. k < 128) e small)) in
    by_number x.number (n % 128) same_number x.fits (station n).fits
  where
    by_number : (m k : ℕ) → m ≡ k → (f : m < 128) (g : k < 128) → ◌≡◌ {A = Station} (record { number = m; fits = f }) (record { number = k; fits = g })
    by_number m k p f = subst (λ k. (g : k < 128) → ◌≡◌ {A = Station} (record { number = m; fits = f }) (record { number = k; fits = g })) p (λ g. ap (λ h. record { number = m; fits = h }) (le_prop f g))

-- what a delivery promises of its hold rule
abbrev pub Transitive : (Tag → Tag → Bool) → Type 0
Transitive rule = (a b c : Tag) → rule a b ≡ true → rule b c ≡ true → rule a c ≡ true

pub laws : (c : Content) (rule : Tag → Tag → Bool) (room : ℕ) → Laid c → Transitive rule → 1 ≤ room → Laws (scene_of c rule room)
laws c rule room laid passes some =
    record {
      low = λ e n t. low e n (to_true _ t);
      inside = λ e n t. ltb-true n (length c.messages) (and_parts _ _ (to_true _ t)).0;
      passes = λ l m n t u. from_true _ (passes (tag_of c l) (tag_of c m) (tag_of c n) (to_true _ t) (to_true _ u));
      room = omega arith;
    }
  where
    low : (e : Happening) (n : ℕ) → above c e n ≡ true → message_of e < n
    low e n t =
        let u = and_parts (ltb n (length c.messages)) (eqb (instance_of c e) (sender_of c n) && ltb (number_of c e) (sent_at n c.events)) t in
        let v = and_parts (eqb (instance_of c e) (sender_of c n)) (ltb (number_of c e) (sent_at n c.events)) u.1 in
        let l : number_of c e < sent_at n c.events = ltb-true (number_of c e) (sent_at n c.events) v.1 in
        let p : number_of c e ≡ at e c.events = number_at c e in
        let q : sent_at n c.events ≡ at (sent n) c.events = refl in
        low_number c.events 0 e n laid.is_numbered (omega arith) (omega arith)
