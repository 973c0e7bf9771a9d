-- What a copy of a chart says of it.
use Rattle.std.proofs.Common.{◌≡◌, ℕ, ◌<◌, ◌≤◌, Bool, true, false, not, ◌&&◌, ◌||◌, eqb, ltb, List, [], ◌∷◌, length, get_or, Some, None, Option, MatchOption, IsSomeAnd, slice_get, sym, refl, ap, ◌∙◌, ⊎_elim, arith}
use Rattle.std.proofs.lemmas.Option.{none-some, slice_get_within, get_or_from_slice_get}
use Rattle.std.proofs.lemmas.List.{get_or-map, length-map}
use Rattle.std.specs.List.{list_any}
use Rattle.std.proofs.lemmas.Bool.{both_ways, lt-ltb, and_from, and_parts, cases_Bool, eq-eqb, eqb-true, not_from_false, not-true}
use Rattle.chart.specs.Charted.{drawn}
use Rattle.chart.specs.Content.{Happening, sent, received, message_of, Content}
use Rattle.chart.specs.declared.numbers.EventId.{EventId}
use Rattle.order.specs.Pass.{same, listed}
use Rattle.order.specs.Scenes.{event_at, instance_of}
use Rattle.bench.specs.Layouts.{placed, copied, line_sends}
use Rattle.bench.specs.Firings.{Lacks, FirstLacking, firing_of}
use Rattle.bench.specs.declared.refusal.Firing.{Firing}
use Rattle.bench.specs.Records.{fired_in, within, happenings}
use Rattle.bench.specs.declared.layout.Placed.{Placed}
use Rattle.bench.proofs.Records.{in_has, not_in}

module _ (c : Content) (ps : List Placed) (is : ps ≡ copied c) where
  pub copy_length : length ps ≡ length c.events
  copy_length = ap length is ∙ length-map c.events (placed c)

  -- an event that the copy has
  pub kept : (i : ℕ) (p : Placed) → slice_get ps i ≡ Some p → (i < length c.events) × (p ≡ placed c (event_at c i))
  kept i p here =
      let n = copy_length in
      let l = slice_get_within ps i p here in (
        omega arith,
        sym (get_or_from_slice_get ps i p p here) ∙ ap (λ qs. get_or qs i p) is ∙ get_or-map (placed c) c.events i (sent 0) p (omega arith),
      )

pub line_sends_lem : (c : Content) (m : ℕ) (h : Happening) → line_sends m (drawn c h) ≡ same (sent m) h
line_sends_lem c m (sent n) = refl
line_sends_lem c m (received n) = refl

pub line_instance : (c : Content) (h : Happening) → (drawn c h).instance.0 ≡ instance_of c h
line_instance c (sent n) = refl
line_instance c (received n) = refl

-- the test of what an event lacks shows just that
abbrev pub test_missing : Content → List EventId → ℕ → ℕ → Bool
test_missing c r n i = (ltb i (length c.events) && eqb (instance_of c (event_at c i)) n) && not (fired_in i r)

module _ (c : Content) (r : List EventId) (e x : EventId) (n : ℕ) (is : n ≡ instance_of c (event_at c e.0)) (low : e.0 ≤ length c.events) where
  lacks_shown : Lacks c r e x → test_missing c r n x.0 ≡ true
  lacks_shown k =
      let above : x.0 < e.0 = k.above in
      and_from (ltb x.0 (length c.events) && eqb (instance_of c (event_at c x.0)) n) (not (fired_in x.0 r))
      (and_from (ltb x.0 (length c.events)) (eqb (instance_of c (event_at c x.0)) n) (lt-ltb x.0 (length c.events) (omega arith)) (eq-eqb (instance_of c (event_at c x.0)) n (k.together ∙ sym is)))
      (⊎_elim (λ t. absurd (k.missing (in_has x r t))) (λ t. not_from_false (fired_in x.0 r) t) (cases_Bool (fired_in x.0 r)))

  pub shown_lacks : x.0 < e.0 → test_missing c r n x.0 ≡ true → Lacks c r e x
  shown_lacks l t =
      let both = and_parts (ltb x.0 (length c.events) && eqb (instance_of c (event_at c x.0)) n) (not (fired_in x.0 r)) t in
      let stands = and_parts (ltb x.0 (length c.events)) (eqb (instance_of c (event_at c x.0)) n) both.0 in
      record {
        above = l;
        together = eqb-true (instance_of c (event_at c x.0)) n stands.1 ∙ is;
        missing = not_in x r (not-true (fired_in x.0 r) both.1);
      }

module _ (c : Content) (r : List EventId) (e : EventId) (n : ℕ) (is : n ≡ instance_of c (event_at c e.0)) (low : e.0 ≤ length c.events) where
  -- the first number that passes the test, as an event
  pub first_lacking :
      (o : Option ℕ) (p : Option EventId) →
      MatchOption o ((k : ℕ) → 0 ≤ k → k < e.0 → test_missing c r n k ≡ false)
      (λ i. (0 ≤ i) × (i < e.0) × (test_missing c r n i ≡ true) × ((k : ℕ) → 0 ≤ k → k < i → test_missing c r n k ≡ false)) →
      MatchOption o (p ≡ None) (λ i. IsSomeAnd p (λ x. x.0 ≡ i)) → MatchOption p ((x : EventId) → Lacks c r e x → ⊥) (λ x. FirstLacking c r e x)
  first_lacking None None none gone = λ x k. let l : x.0 < e.0 = k.above in both_ways (test_missing c r n x.0) (none x.0 (omega arith) l) (lacks_shown c r e x n is low k)
  first_lacking None (Some x) none gone = absurd (none-some x (sym gone))
  first_lacking (Some i) None found gone = absurd gone
  first_lacking (Some i) (Some x) (z, l, t, below) named =
      let number : x.0 ≡ i = named in (
        shown_lacks c r e x n is low (omega arith) (ap (test_missing c r n) number ∙ t),
        λ y b k. both_ways (test_missing c r n y.0) (below y.0 (omega arith) (omega arith)) (lacks_shown c r e y n is low k),
      )

-- in a record that is inside the chart, the out event of message m is looked for by the line of each event
abbrev pub test_sends : Content → ℕ → EventId → Bool
test_sends c m e = ltb e.0 (length c.events) && same (sent m) (event_at c e.0)

pub any_sends : (c : Content) (m : ℕ) (r : List EventId) → within (length c.events) r ≡ true → list_any (test_sends c m) r ≡ listed (sent m) (happenings c r)
any_sends c m [] w = refl
any_sends c m (e ∷ r) w =
    let both = and_parts (ltb e.0 (length c.events)) (within (length c.events) r) w in
    ap (λ b. (b && same (sent m) (event_at c e.0)) || list_any (test_sends c m) r) both.0 ∙ ap (λ b. same (sent m) (event_at c e.0) || b) (any_sends c m r both.1)

-- the instance and the message of a line that was kept
pub line_message : (c : Content) (h : Happening) → (drawn c h).message.0 ≡ message_of h
line_message c (sent n) = refl
line_message c (received n) = refl

pub firing_of_lem : (c : Content) (e : EventId) (p : Placed) → p ≡ placed c (event_at c e.0) → ◌≡◌ {A = Firing} (record { event = e; instance = p.line.instance; message = p.line.message }) (firing_of c e)
firing_of_lem c e p is = ap (λ (q : Placed). record { event = e; instance = q.line.instance; message = q.line.message }) is ∙ go (event_at c e.0)
  where
    go : (h : Happening) → ◌≡◌ {A = Firing} (record { event = e; instance = (drawn c h).instance; message = (drawn c h).message }) (record { event = e; instance = record { 0 = instance_of c h }; message = record { 0 = message_of h } })
    go (sent n) = refl
    go (received n) = refl
