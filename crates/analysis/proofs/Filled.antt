-- The rows that the pass collects are those of the order.
use Rattle.std.proofs.Common.{◌≡◌, ℕ, zero, suc, ◌+◌, ◌*◌, ◌<◌, ◌≤◌, Bool, true, false, cond, not, ◌&&◌, ◌||◌, eqb, ltb, ◌⊎◌, List, [], ◌∷◌, length, get_or, sym, ap, ◌∙◌, subst, inl, inr, ⊎_elim, arith}
use Rattle.std.specs.List.{prefix_len}
use Rattle.std.proofs.lemmas.List.Sums.{prefix_len-le-length}
use Rattle.std.proofs.lemmas.Bool.{cases_eq, cases_Bool, both_ways, or_cases, or_left, or_right, and_parts, and_from, eqb-true, eq-eqb, ne_eqb, ltb-true, lt-ltb, cond-true, cond-false, not_from_false, not_from_true}
use Rattle.chart.specs.Content.{Happening, sent, received, message_of, Content, sender_of, is_sent, sent_at}
use Rattle.delivery.specs.declared.parcel.Tag.{Tag}
use Rattle.matrix.specs.Places.{place_of}
use Rattle.matrix.specs.Models.{has, precedes}
use Rattle.matrix.specs.declared.sets.EventSet.{EventSet}
use Rattle.matrix.specs.declared.matrices.OrderMatrix.{OrderMatrix}
use Rattle.order.specs.Order.{Scene, Laws, Enforced}
use Rattle.order.specs.Pass.{same, rows}
use Rattle.order.specs.Scenes.{Laid, instance_of, number_of, scene_of, event_at}
use Rattle.order.proofs.Tests.{from_true, to_true, same_is, is_same}
use Rattle.order.proofs.Order.{UpTo, LastStep, last_step, from_last_step, sends_rise, order_inside}
use Rattle.order.proofs.Pass.{enforces_is, all_right}
use Rattle.order.proofs.Scenes.{number_of_event, event_of_message}
use Rattle.analysis.specs.Filling.{holds, reaches, Within, Covers, CoversAll, Consists, BeforeOut, is_holder, BeforeIn}
use Rattle.analysis.specs.Judging.{Filled}
use Rattle.analysis.proofs.Places.{both_true, one_place, place_below}

-- one event joins a set, with all that comes before it
abbrev pub Joined : OrderMatrix → EventSet → Happening → EventSet → Type 0
Joined o r g r' = (e : Happening) → has r' (place_of e) ≡ (has r (place_of e) || reaches o e g)

-- then the set consists of what it did, and of these
consists_more :
    (o : OrderMatrix) (r r' : EventSet) (g : Happening) (P Q : Happening → Type 0) → Joined o r g r' →
    ((e : Happening) → P e → Q e) → ((e : Happening) → reaches o e g ≡ true → Q e) → ((e : Happening) → Q e → P e ⊎ (reaches o e g ≡ true)) →
    Consists r P → Consists r' Q
consists_more o r r' g P Q j up new back h e = (
  (λ t. ⊎_elim (λ u. up e ((h e).0 u)) (new e) (or_cases (has r (place_of e)) (reaches o e g) (sym (j e) ∙ t))),
  λ q. j e ∙ ⊎_elim (λ p. or_left (has r (place_of e)) (reaches o e g) ((h e).1 p)) (or_right (has r (place_of e)) (reaches o e g)) (back e q),
)

consists_same : (r : EventSet) (P Q : Happening → Type 0) → ((e : Happening) → P e → Q e) → ((e : Happening) → Q e → P e) → Consists r P → Consists r Q
consists_same r P Q to from h e = ((λ t. to e ((h e).0 t)), λ q. (h e).1 (from e q))

-- a front that goes on, and one that ends
module _ {X : Type 0} (p : X → Bool) where
  front_more : (xs : List X) (i : ℕ) (d : X) → i < length xs → i ≤ prefix_len p xs → p (get_or xs i d) ≡ true → i + 1 ≤ prefix_len p xs
  front_more [] i d l h t = absurd (omega arith)
  front_more (x ∷ xs) zero d l h t = let e : prefix_len p (x ∷ xs) ≡ 1 + prefix_len p xs = cond-true (p x) (1 + prefix_len p xs) 0 t in omega arith
  front_more (x ∷ xs) (suc i) d l h t = go (front_more xs i d (omega arith)) (cases_Bool (p x))
    where
      go : (i ≤ prefix_len p xs → p (get_or xs i d) ≡ true → i + 1 ≤ prefix_len p xs) → (p x ≡ true) ⊎ (p x ≡ false) → suc i + 1 ≤ prefix_len p (x ∷ xs)
      go ih (inl y) =
          let e : prefix_len p (x ∷ xs) ≡ 1 + prefix_len p xs = cond-true (p x) (1 + prefix_len p xs) 0 y in
          let k = ih (omega arith) t in
          omega arith
      go ih (inr y) = let e : prefix_len p (x ∷ xs) ≡ 0 = cond-false (p x) (1 + prefix_len p xs) 0 y in absurd (omega arith)

  front_ends : (xs : List X) (i : ℕ) (d : X) → i < length xs → i ≤ prefix_len p xs → p (get_or xs i d) ≡ false → prefix_len p xs ≡ i
  front_ends [] i d l h t = absurd (omega arith)
  front_ends (x ∷ xs) zero d l h t = cond-false (p x) (1 + prefix_len p xs) 0 t
  front_ends (x ∷ xs) (suc i) d l h t = go (front_ends xs i d (omega arith)) (cases_Bool (p x))
    where
      go : (i ≤ prefix_len p xs → p (get_or xs i d) ≡ false → prefix_len p xs ≡ i) → (p x ≡ true) ⊎ (p x ≡ false) → prefix_len p (x ∷ xs) ≡ suc i
      go ih (inl y) =
          let e : prefix_len p (x ∷ xs) ≡ 1 + prefix_len p xs = cond-true (p x) (1 + prefix_len p xs) 0 y in
          let k = ih (omega arith) t in
          omega arith
      go ih (inr y) = let e : prefix_len p (x ∷ xs) ≡ 0 = cond-false (p x) (1 + prefix_len p xs) 0 y in absurd (omega arith)

-- e is one of the first i events and stands at the sender of message n, or the matrix has it before one that does
abbrev Passed : Content → OrderMatrix → ℕ → ℕ → Happening → Type 0
Passed c o n i e = (j : ℕ) × (j < i) × (instance_of c (event_at c j) ≡ sender_of c n) × (reaches o e (event_at c j) ≡ true)

-- the out event of message n is not among the first i events, and the row has what these give
pub record Passing (c : Content) (o : OrderMatrix) (n : ℕ) (r : EventSet) (i : ℕ) : Type 0 where
  pub ahead : i ≤ sent_at n c.events
  pub gathered : Consists r (Passed c o n i)

module _ (c : Content) (o : OrderMatrix) (n : ℕ) where
  module _ (i : ℕ) (l : i < length c.events) (other : is_sent n (event_at c i) ≡ false) where
    not_yet : (r : EventSet) → Passing c o n r i → i + 1 ≤ sent_at n c.events
    not_yet r h = front_more (λ e. not (is_sent n e)) c.events i (sent 0) l h.ahead (not_from_false _ other)

    later : (e : Happening) → Passed c o n i e → Passed c o n (i + 1) e
    later e q = let k : q.0 < i = q.1 in (q.0, omega arith, q.2, q.3)

    before : (e : Happening) → Passed c o n (i + 1) e → Passed c o n i e ⊎ ((instance_of c (event_at c i) ≡ sender_of c n) × (reaches o e (event_at c i) ≡ true))
    before e q =
        let k : q.0 < i + 1 = q.1 in
        elim (cases_eq q.0 i) [
          | inl p ↦ inr (subst (λ (j : ℕ). (instance_of c (event_at c j) ≡ sender_of c n) × (reaches o e (event_at c j) ≡ true)) p (q.2, q.3))
          | inr d ↦ inl (q.0, omega arith, q.2, q.3)
        ]

    pub passing_yes : (r r' : EventSet) → instance_of c (event_at c i) ≡ sender_of c n → Joined o r (event_at c i) r' → Passing c o n r i → Passing c o n r' (i + 1)
    passing_yes r r' here j h =
        record {
          ahead = not_yet r h;
          gathered =
              consists_more o r r' (event_at c i) (Passed c o n i) (Passed c o n (i + 1)) j later (λ e t. (i, omega arith, here, t))
              (λ e q. ⊎_elim inl (λ x. inr x.1) (before e q)) h.gathered;
        }

    pub passing_no : (r : EventSet) → (instance_of c (event_at c i) ≡ sender_of c n → ⊥) → Passing c o n r i → Passing c o n r (i + 1)
    passing_no r away h =
        record {
          ahead = not_yet r h;
          gathered = consists_same r (Passed c o n i) (Passed c o n (i + 1)) later (λ e q. ⊎_elim (λ x. x) (λ x. absurd (away x.0)) (before e q)) h.gathered;
        }

  module _ (rule : Tag → Tag → Bool) (room : ℕ) (laid : Laid c) (law : Laws (scene_of c rule room)) (within : n < length c.messages) (r : EventSet) (i : ℕ) (h : Passing c o n r i) where
    all_passed : sent_at n c.events ≡ i → Consists r (BeforeOut (scene_of c rule room) o n)
    all_passed end = consists_same r (Passed c o n i) (BeforeOut (scene_of c rule room) o n) to from h.gathered
      where
        few : i ≤ length c.events
        few = subst (λ (k : ℕ). k ≤ length c.events) end (prefix_len-le-length (λ e. not (is_sent n e)) c.events)

        to : (e : Happening) → Passed c o n i e → BeforeOut (scene_of c rule room) o n e
        to e q =
            let l : q.0 < i = q.1 in
            let k = few in
            let number : number_of c (event_at c q.0) ≡ q.0 = number_of_event c laid q.0 (omega arith) in (
              event_at c q.0,
              from_true _ (and_from _ _ (lt-ltb n (length c.messages) within)
                  (and_from _ _ (eq-eqb (instance_of c (event_at c q.0)) (sender_of c n) q.2) (lt-ltb (number_of c (event_at c q.0)) (sent_at n c.events) (omega arith)))),
              q.3,
            )

        from : (e : Happening) → BeforeOut (scene_of c rule room) o n e → Passed c o n i e
        from e (g, t, u) =
            let low : message_of g < n = law.low g n t in
            let x = event_of_message c laid g (omega arith) in
            let number : number_of c g ≡ x.0 = ap (number_of c) (sym x.2) ∙ number_of_event c laid x.0 x.1 in
            let v = and_parts (ltb n (length c.messages)) (eqb (instance_of c g) (sender_of c n) && ltb (number_of c g) (sent_at n c.events)) (to_true _ t) in
            let w = and_parts (eqb (instance_of c g) (sender_of c n)) (ltb (number_of c g) (sent_at n c.events)) v.1 in
            let l : number_of c g < sent_at n c.events = ltb-true (number_of c g) (sent_at n c.events) w.1 in (
              x.0,
              omega arith,
              subst (λ (f : Happening). instance_of c f ≡ sender_of c n) (sym x.2) (eqb-true (instance_of c g) (sender_of c n) w.0),
              subst (λ (f : Happening). reaches o e f ≡ true) (sym x.2) u,
            )

    -- the out event has come, or there are no more events
    pub passing_stops : i < length c.events → is_sent n (event_at c i) ≡ true → Consists r (BeforeOut (scene_of c rule room) o n)
    passing_stops l this = all_passed (front_ends (λ e. not (is_sent n e)) c.events i (sent 0) l h.ahead (not_from_true _ this))

    pub passing_all : length c.events ≤ i → Consists r (BeforeOut (scene_of c rule room) o n)
    passing_all l =
        let k : sent_at n c.events ≤ length c.events = prefix_len-le-length (λ e. not (is_sent n e)) c.events in
        let a : i ≤ sent_at n c.events = h.ahead in
        all_passed (omega arith)

module _ (s : Scene) (o : OrderMatrix) (n : ℕ) where
  module _ (k : ℕ) where
    in_later : (e : Happening) → BeforeIn s o n k e → BeforeIn s o n (k + 1) e
    in_later e = ⊎_elim inl (λ q. let l : q.0 < k = q.1 in inr (q.0, omega arith, q.2, q.3))

    in_before : (e : Happening) → BeforeIn s o n (k + 1) e → BeforeIn s o n k e ⊎ ((is_holder s o n k ≡ true) × (reaches o e (received k) ≡ true))
    in_before e = ⊎_elim (λ t. inl (inl t)) (λ q.
        let l : q.0 < k + 1 = q.1 in
        elim (cases_eq q.0 k) [
          | inl p ↦ inr (subst (λ (m : ℕ). (is_holder s o n m ≡ true) × (reaches o e (received m) ≡ true)) p (q.2, q.3))
          | inr d ↦ inl (inr (q.0, omega arith, q.2, q.3))
        ])

    pub in_yes : (r r' : EventSet) → is_holder s o n k ≡ true → Joined o r (received k) r' → Consists r (BeforeIn s o n k) → Consists r' (BeforeIn s o n (k + 1))
    in_yes r r' holder j =
        consists_more o r r' (received k) (BeforeIn s o n k) (BeforeIn s o n (k + 1)) j in_later (λ e t. inr (k, omega arith, holder, t))
        (λ e q. ⊎_elim inl (λ x. inr x.1) (in_before e q))

    pub in_no : (r : EventSet) → is_holder s o n k ≡ false → Consists r (BeforeIn s o n k) → Consists r (BeforeIn s o n (k + 1))
    in_no r none = consists_same r (BeforeIn s o n k) (BeforeIn s o n (k + 1)) in_later (λ e q. ⊎_elim (λ x. x) (λ x. absurd (both_ways _ none x.0)) (in_before e q))

module _ (s : Scene) (law : Laws s) (o : OrderMatrix) (within : Within s o) where
  reached : (e g : Happening) → reaches o e g ≡ true → UpTo s e g
  reached e g t = ⊎_elim (λ u. inr (within e g u)) (λ u. inl (same_is e g (from_true _ u))) (or_cases (holds o e g) (same e g) t)

  module _ (k : ℕ) (covers : Covers s o k) where
    reaching : (e g : Happening) → place_of g < k → UpTo s e g → reaches o e g ≡ true
    reaching e g l = ⊎_elim (λ p. or_right (holds o e g) (same e g) (to_true _ (is_same p))) (λ d. or_left (holds o e g) (same e g) (covers e g l d))

  -- the row of an out event
  pub out_exact : (n : ℕ) (r : EventSet) → Covers s o (2 * n) → Consists r (BeforeOut s o n) → Consists r (λ e. Enforced s e (sent n))
  out_exact n r covers =
      consists_same r (BeforeOut s o n) (λ e. Enforced s e (sent n)) (λ e (g, l, t). from_last_step s e (sent n) (g, l, reached e g t))
      (λ e d. let x = last_step s d in (x.0, x.1, reaching (2 * n) covers e x.0 (place_below x.0 n (law.low x.0 n x.1)) x.2))

  -- the row of an in event
  pub in_exact : (n : ℕ) (r : EventSet) → n < s.messages → Covers s o (2 * n + 1) → Consists r (BeforeIn s o n n) → Consists r (λ e. Enforced s e (received n))
  in_exact n r inside covers = consists_same r (BeforeIn s o n n) (λ e. Enforced s e (received n)) to (λ e d. from e (last_step s d))
    where
      to : (e : Happening) → BeforeIn s o n n e → Enforced s e (received n)
      to e (inl t) = from_last_step s e (received n) (inl (inside, reached e (sent n) t))
      to e (inr (m, l, h, t)) =
          let x = and_parts (holds o (sent m) (sent n)) (s.holds m n) h in
          from_last_step s e (received n) (inr (m, within (sent m) (sent n) x.0, from_true _ x.1, reached e (received m) t))

      from : (e : Happening) → LastStep s e (received n) → BeforeIn s o n n e
      from e (inl (i, u)) = inl (reaching (2 * n + 1) covers e (sent n) (omega arith) u)
      from e (inr (m, d, h, u)) =
          let l : m < n = sends_rise s law d in
          inr (m, l, and_from _ _ (covers (sent m) (sent n) (omega arith) d) (to_true _ h), reaching (2 * n + 1) covers e (received m) (omega arith) u)

-- one row more
module _ (s : Scene) (o o' : OrderMatrix) (g : Happening) (r : EventSet) (put : (x y : ℕ) → precedes o' x y ≡ cond (eqb y (place_of g)) (has r x) (precedes o x y)) (exact : Consists r (λ e. Enforced s e g)) where
  new_row : (e f : Happening) → place_of f ≡ place_of g → holds o' e f ≡ has r (place_of e)
  new_row e f p = put (place_of e) (place_of f) ∙ cond-true _ _ _ (eq-eqb (place_of f) (place_of g) p)

  old_row : (e f : Happening) → (place_of f ≡ place_of g → ⊥) → holds o' e f ≡ holds o e f
  old_row e f p = put (place_of e) (place_of f) ∙ cond-false _ _ _ (ne_eqb (place_of f) (place_of g) p)

  pub still_within : Within s o → Within s o'
  still_within within e f t =
      elim (cases_eq (place_of f) (place_of g)) [
        | inl p ↦ subst (λ (x : Happening). Enforced s e x) (sym (one_place f g p)) ((exact e).0 (sym (new_row e f p) ∙ t))
        | inr p ↦ within e f (sym (old_row e f p) ∙ t)
      ]

  pub covers_more : Covers s o (place_of g) → Covers s o' (place_of g + 1)
  covers_more covers e f l d =
      elim (cases_eq (place_of f) (place_of g)) [
        | inl p ↦ new_row e f p ∙ (exact e).1 (subst (λ (x : Happening). Enforced s e x) (one_place f g p) d)
        | inr p ↦ old_row e f p ∙ covers e f (omega arith) d
      ]

-- the row at a place, of a matrix that is like another one but for that row
abbrev Put : OrderMatrix → ℕ → EventSet → OrderMatrix → Type 0
Put o k r o' = (x y : ℕ) → precedes o' x y ≡ cond (eqb y k) (has r x) (precedes o x y)

-- both rows of a message
module _ (s : Scene) (law : Laws s) (n : ℕ) (inside : n < s.messages) (o o₁ o₂ : OrderMatrix) (r₁ r₂ : EventSet) (k₁ k₂ : ℕ)
    (at_out : k₁ ≡ place_of (sent n)) (at_in : k₂ ≡ place_of (received n)) (put_out : Put o k₁ r₁ o₁) (put_in : Put o₁ k₂ r₂ o₂)
    (out_row : Consists r₁ (BeforeOut s o n)) (in_row : Consists r₂ (BeforeIn s o₁ n n)) where
  pub message_step : Within s o → Covers s o (2 * n) → Within s o₂ × Covers s o₂ (2 * (n + 1))
  message_step within covers =
      let out_put : Put o (place_of (sent n)) r₁ o₁ = λ x y. put_out x y ∙ ap (λ (k : ℕ). cond (eqb y k) (has r₁ x) (precedes o x y)) at_out in
      let in_put : Put o₁ (place_of (received n)) r₂ o₂ = λ x y. put_in x y ∙ ap (λ (k : ℕ). cond (eqb y k) (has r₂ x) (precedes o₁ x y)) at_in in
      let out-right = out_exact s law o within n r₁ covers out_row in
      let within₁ = still_within s o o₁ (sent n) r₁ out_put out-right within in
      let covers₁ = covers_more s o o₁ (sent n) r₁ out_put out-right covers in
      let in_right = in_exact s law o₁ within₁ n r₂ inside covers₁ in_row in
      let e : 2 * n + 1 + 1 ≡ 2 * (n + 1) = omega arith in
      (still_within s o₁ o₂ (received n) r₂ in_put in_right within₁, subst (Covers s o₂) e (covers_more s o₁ o₂ (received n) r₂ in_put in_right covers₁))

module _ (s : Scene) (law : Laws s) (o : OrderMatrix) where
  pub covers_all : Covers s o (2 * s.messages) → CoversAll s o
  covers_all covers e f d = covers e f (place_below f s.messages (order_inside s law d)) d

  pub filled : Within s o → CoversAll s o → Filled s o
  filled within covers e f k l =
      let x = enforces_is s law (rows s s.messages) (all_right s law) e f l in
      both_true _ _ (λ t. to_true _ (x.1 (within e f t))) (λ t. covers e f (x.0 (from_true _ t)))
