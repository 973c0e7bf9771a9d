-- What the matrix tells of two events is what the one pass tells.
use Rattle.std.proofs.Common.{◌≡◌, ℕ, zero, suc, ◌+◌, ◌*◌, ◌<◌, ◌≤◌, Bool, true, false, cond, not, ◌&&◌, ◌||◌, ltb, leb, ◌⊎◌, ◌∷◌, length, sym, refl, ap, ◌∙◌, ap₂, inl, inr, add_comm, add-one, arith}
use Rattle.std.proofs.lemmas.Bool.{cases_eq, lt-ltb, le-ltb, and_left, and_right, cond-false}
use Rattle.chart.specs.Content.{Happening, sent, received, message_of}
use Rattle.chart.specs.declared.numbers.EventId.{EventId}
use Rattle.matrix.specs.Places.{place_of, event_limit}
use Rattle.matrix.specs.Sets.{count_below}
use Rattle.matrix.specs.Models.{has, precedes}
use Rattle.matrix.specs.declared.sets.EventSet.{EventSet}
use Rattle.matrix.specs.declared.matrices.OrderMatrix.{OrderMatrix}
use Rattle.order.specs.Order.{Scene}
use Rattle.order.specs.Pass.{rows, chosen, between, crowd_size, turns}
use Rattle.analysis.specs.Judging.{Filled, is_held, Foreseen, crowd_in, turns_in}
use Rattle.analysis.specs.declared.judging.Prospect.{Prospect}

or_false : (b : Bool) → (b || false) ≡ b
or_false true = refl
or_false false = refl

-- the hold row, message by message
module _ (held : ℕ → Bool) where
  abbrev pub HeldTo : EventSet → ℕ → Type 0
  HeldTo r k = (e : Happening) → has r (place_of e) ≡ is_held held k e

-- the column of an out event and the hold row of its message
pub foreseen_by :
    (s : Scene) (o : OrderMatrix) (m k : ℕ) (first : EventId) (after held : EventSet) → s.messages ≤ 64 → Filled s o → m < s.messages → k ≡ place_of (sent m) →
    ((y : ℕ) → y < event_limit → has after y ≡ precedes o k y) → HeldTo (s.holds m) held s.messages → Foreseen s m (record { first = first; after = after; held = held })
foreseen_by s o m k first after held few filled inside at column row =
    record {
      after = λ h l. column (2 * h) (omega arith) ∙ ap (λ (x : ℕ). precedes o x (2 * h)) at ∙ filled (sent m) (sent h) inside l;
      held = row;
    }

-- numbers that are counted only at even places
chosen_length : (p : ℕ → Bool) (k : ℕ) → length (chosen p (suc k)) ≡ length (chosen p k) + cond {A = ℕ} (p k) 1 0
chosen_length p k = elim (p k) as (λ b. length (cond b (k ∷ chosen p k) (chosen p k)) ≡ length (chosen p k) + cond {A = ℕ} b 1 0) [ true ↦ omega arith | false ↦ omega arith ]

count_even : (p : ℕ → Bool) → ((h : ℕ) → p (2 * h + 1) ≡ false) → (k : ℕ) → count_below p (2 * k) ≡ length (chosen (λ h. p (2 * h)) k)
unfolding count_below
count_even p odd zero = refl
count_even p odd (suc k) =
    let e : 2 * suc k ≡ suc (suc (2 * k)) = omega arith in
    let z : cond {A = ℕ} (p (suc (2 * k))) 1 0 ≡ 0 = cond-false (p (suc (2 * k))) 1 0 (ap p (sym (add-one (2 * k))) ∙ odd k) in
    let a : count_below p (suc (suc (2 * k))) ≡ (count_below p (2 * k) + cond {A = ℕ} (p (2 * k)) 1 0) + cond {A = ℕ} (p (suc (2 * k))) 1 0 = refl in
    let b = count_even p odd k in
    let d = chosen_length (λ h. p (2 * h)) k in
    ap (count_below p) e ∙ omega arith

chosen_same : (p q : ℕ → Bool) (k : ℕ) → ((h : ℕ) → h < k → p h ≡ q h) → length (chosen p k) ≡ length (chosen q k)
chosen_same p q zero h = refl
chosen_same p q (suc k) h =
    chosen_length p k ∙ ap₂ (λ (x : ℕ) b. x + cond {A = ℕ} b 1 0) (chosen_same p q k (λ j l. h j (omega arith))) (h k (omega arith)) ∙ sym (chosen_length q k)

-- only the first n can pass
chosen_below : (p : ℕ → Bool) (n k : ℕ) → n ≤ k → ((h : ℕ) → n ≤ h → p h ≡ false) → length (chosen p k) ≡ length (chosen p n)
chosen_below p n zero l none = let e : n ≡ 0 = omega arith in ap (λ j. length (chosen p j)) (sym e)
chosen_below p n (suc k) l none = go (chosen_below p n k) (cases_eq n (suc k))
  where
    go : (n ≤ k → ((h : ℕ) → n ≤ h → p h ≡ false) → length (chosen p k) ≡ length (chosen p n)) → (n ≡ suc k) ⊎ (n ≡ suc k → ⊥) → length (chosen p (suc k)) ≡ length (chosen p n)
    go ih (inl e) = ap (λ j. length (chosen p j)) (sym e)
    go ih (inr d) =
        let z : cond {A = ℕ} (p k) 1 0 ≡ 0 = cond-false (p k) 1 0 (none k (omega arith)) in
        let a = chosen_length p k in
        let b = ih (omega arith) none in
        omega arith

module _ (s : Scene) (o : OrderMatrix) (filled : Filled s o) (p : Prospect) (m n : ℕ) (foreseen : Foreseen s m p) (inside : n < s.messages) (few : s.messages ≤ 64) where
  abbrev meets : ℕ → Bool
  meets x = has p.after x && (precedes o x (place_of (sent n)) && has p.held x)

  meets_odd : (h : ℕ) → meets (2 * h + 1) ≡ false
  meets_odd h = and_right (has p.after (2 * h + 1)) _ (and_right (precedes o (2 * h + 1) (2 * n)) _ (foreseen.held (received h)))

  meets_past : (h : ℕ) → s.messages ≤ h → meets (2 * h) ≡ false
  meets_past h l =
      and_right (has p.after (2 * h)) _ (and_right (precedes o (2 * h) (2 * n)) _ (foreseen.held (sent h) ∙ and_left (ltb h s.messages) (s.holds m h) (le-ltb h s.messages l)))

  meets_between : (h : ℕ) → h < s.messages → meets (2 * h) ≡ between s (rows s s.messages) m n h
  meets_between h l =
      ap₂ (λ a b. a && b) (foreseen.after h l)
      (ap₂ (λ a b. a && b) (filled (sent h) (sent n) l inside) (foreseen.held (sent h) ∙ ap (λ b. b && s.holds m h) (lt-ltb h s.messages l)))

  crowd_size_lem : crowd_in o p n ≡ crowd_size s (rows s s.messages) m n
  crowd_size_lem =
      ap (λ (k : ℕ). k + 2)
      (count_even meets meets_odd 64
      ∙ chosen_below (λ h. meets (2 * h)) s.messages 64 few meets_past
      ∙ chosen_same (λ h. meets (2 * h)) (between s (rows s s.messages) m n) s.messages meets_between)
      ∙ add_comm _ 2

-- the answer for two events of a chart
pub turns_in_lem :
    (s : Scene) (o : OrderMatrix) (p : Prospect) (a b : Happening) → s.messages ≤ 64 → Filled s o → Foreseen s (message_of a) p → message_of a < s.messages → message_of b < s.messages →
    turns_in o p s.capacity a b ≡ turns s (rows s s.messages) a b
turns_in_lem s o p a b few filled foreseen i j =
    ap₂ (λ x y. not x && y) (filled a b i j)
    (ap₂ (λ x (k : ℕ). not x || leb k s.capacity) (filled (sent (message_of a)) (sent (message_of b)) i j) (crowd_size_lem s o filled p (message_of a) (message_of b) foreseen j few))

-- two events that were read, and are a pair
pub race_is :
    (s : Scene) (o : OrderMatrix) (p : Prospect) (a b x y : Happening) (pair r : Bool) → s.messages ≤ 64 → Filled s o → Foreseen s (message_of a) p → message_of a < s.messages → message_of b < s.messages →
    x ≡ a → y ≡ b → true ≡ pair → r ≡ turns_in o p s.capacity x y → r ≡ (pair && turns s (rows s s.messages) a b)
race_is s o p a b x y pair r few filled foreseen i j at_a at_b is-pair answer =
    answer ∙ ap₂ (turns_in o p s.capacity) at_a at_b ∙ turns_in_lem s o p a b few filled foreseen i j ∙ ap (λ q. q && turns s (rows s s.messages) a b) is-pair
