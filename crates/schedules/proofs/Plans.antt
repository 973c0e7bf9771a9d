-- The plan is a run that fires every event and has n received first.
use Rattle.std.proofs.Common.{◌≡◌, ℕ, ◌<◌, ◌≤◌, Bool, true, false, not, ◌&&◌, ◌||◌, T, eqb, ◌⊎◌, ◌↔◌, List, [], ◌++◌, reverse, length, sym, refl, ap, ◌∙◌, subst, inl, inr, ⊎_elim, arith}
use mathlib.Core.List.{reverse_aux, reverse_aux-append}
use native.Mathlib.Decide.{ℕ_discrete}
use Rattle.chart.specs.Content.{Happening, sent, received, message_of}
use Rattle.order.specs.Lists.{Has, without}
use Rattle.order.specs.Order.{Scene, Laws, Enforced, own, chain}
use Rattle.order.specs.Runs.{waits, Run, Reversed, Reverses}
use Rattle.order.specs.Reversible.{Crowd, Reversible}
use Rattle.order.specs.Report.{upward}
use Rattle.order.proofs.Pass.{enforced?}
use Rattle.order.proofs.Phases.{onward_has, due_sent, None, Plan, Stage, Drained, drain_from, Rest, rest, all_done}
use Rattle.order.proofs.Exact.{reversed_onward, reversed_by_absence, first_time, Reach, reach?, reach_on, reach_le, first_plan, Early, Late, Kept, early?, early_reach, early_shut, not_itself, unheld, late_plan, early_only}
use Rattle.schedules.specs.Plan.{pass, leads, follows, stuck, early, late, prompt, kept, other, planned}
use Rattle.schedules.specs.Planned.{Tells}
use Rattle.schedules.proofs.Says.{Says, wrong, says_test, says_as, says_same, says_not, says_and, says_or, says_no}
use Rattle.schedules.proofs.Passes.{Told, pass_idle, pass_receipts, pass_phase, upward_none, only_receipts}

module _ (s : Scene) (law : Laws s) (before : ℕ → ℕ → Bool) (tells : Tells s before) (m n : ℕ) (i : n < s.messages) where
  abbrev k : ℕ
  k = s.messages

  abbrev first : List Happening
  first = pass (early s before m n) (early s before m n) k

  abbrev second : List Happening
  second = pass (late s before m n) (prompt s before m n) k

  abbrev third : List Happening
  third = pass (λ h. false) (kept s before m n) k

  abbrev last : List Happening
  last = pass (other s before m n) (other s before m n) k

  in_turn : reverse (planned s before m n) ≡ reverse_aux last (reverse_aux third (reverse_aux second (reverse_aux first [])))
  in_turn =
      reverse_aux-append first (second ++ (third ++ last)) []
      ∙ reverse_aux-append second (third ++ last) (reverse_aux first [])
      ∙ reverse_aux-append third last (reverse_aux second (reverse_aux first []))

  says_before : (x y : ℕ) → y < s.messages → Says (Enforced s (sent x) (sent y)) (before x y)
  says_before x y l = says_as (tells x y l).0 (tells x y l).1 (says_test (before x y))

  says_leads : (h : ℕ) → Says (Reach s law h n) (leads s before m n h)
  unfolding Reach
  says_leads h = says_or (says_same h n) (says_before h n i)

  says_follows : (h : ℕ) → h < s.messages → Says (Enforced s (sent m) (sent n) × Reach s law m h) (follows s before m n h)
  unfolding Reach
  says_follows h l = says_and (says_before m n i) (says_or (says_as sym sym (says_same h m)) (says_before m h l))

  -- a phase that keeps nothing
  told_none : (X : ℕ → Type 0) (x : ℕ → Bool) (h : ℕ) → Says (X h) (x h) → Told X None x x (λ h. false) h
  unfolding None
  told_none X x h u = (u, says_as (λ t. (t, λ z. z)) (λ t. t.0) u, wrong (λ t. t.1))

  -- once all that n needs is sent and nothing waits, the last pass sends and receives the others
  module _ (r : List Happening) (run : Run s r) (idle : waits r ≡ []) (all : (h : ℕ) → Reach s law h n ↔ Has (sent h) r) where
    told_last : (h : ℕ) → h < s.messages → Told (Rest s law r run idle) None (other s before m n) (other s before m n) (λ h. false) h
    unfolding Rest
    told_last h l = told_none (Rest s law r run idle) (other s before m n) h (says_as (λ u. (l, λ g. u ((all h).1 g))) (λ t u. t.1 ((all h).0 u)) (says_not (says_leads h)))

    last_stage : Stage s (Rest s law r run idle) None r k (reverse_aux last r)
    last_stage = (pass_phase s law (Rest s law r run idle) None r [] (rest s law r run idle) (other s before m n) (other s before m n) (λ h. false) told_last k (omega arith)).0

    ends : (a : Happening) → Reversed a (received n) r → Reverses s a (received n) (reverse_aux last r)
    ends a v =
        let t = last_stage in
        record { run = t.run; complete = all_done s law r run idle (reverse_aux last r) t; reversed = reversed_onward t.on v }

  -- n's send does not wait for that of m: all that n needs is sent and received, and nothing is kept
  module _ (nd : ¬ Enforced s (sent m) (sent n)) where
    Needed : ℕ → Type 0
    Needed h = Reach s law h n

    told_needed : (h : ℕ) → h < s.messages → Told Needed None (early s before m n) (early s before m n) (λ h. false) h
    unfolding Needed
    told_needed h l =
        told_none (λ x. Reach s law x n) (early s before m n) h (says_as (λ t. t.0) (λ u. (u, λ t. nd t.0)) (says_and (says_leads h) (says_not (says_follows h l))))

    needed_plan : Plan s Needed None [] []
    unfolding Needed Reach
    needed_plan = first_plan s law n i (λ x. Reach s law x n) (λ x. reach? s law x n) (λ x u. u) (λ x y u d. inr (reach_on s law d u))

    needed_stage : Stage s Needed None [] k (reverse_aux first []) × (waits (reverse_aux first []) ≡ upward (λ h. false) k)
    needed_stage = pass_phase s law Needed None [] [] needed_plan (early s before m n) (early s before m n) (λ h. false) told_needed k (omega arith)

    none_late : (h : ℕ) → late s before m n h ≡ false
    none_late h = nowhere (leads s before m n h) (before m n) (eqb h m || before m h) (says_no (says_before m n i) nd)
      where
        nowhere : (a b c : Bool) → b ≡ false → a && (b && c) ≡ false
        nowhere true b c e = rw e refl
        nowhere false b c e = refl

    shorter : reverse (planned s before m n) ≡ reverse_aux last (reverse_aux first [])
    shorter =
        let e₂ : second ≡ [] = pass_idle (late s before m n) (prompt s before m n) none_late (λ h. ap (λ b. b && not (stuck s before m n h)) (none_late h)) k in
        let e₃ : third ≡ [] = pass_idle (λ h. false) (kept s before m n) (λ h. refl) (λ h. ap (λ b. b && stuck s before m n h) (none_late h)) k in
        in_turn ∙ ap (λ l. reverse_aux last (reverse_aux third (reverse_aux l (reverse_aux first [])))) e₂ ∙ ap (λ l. reverse_aux last (reverse_aux l (reverse_aux first []))) e₃

    needed_sent : (h : ℕ) → Reach s law h n ↔ Has (sent h) (reverse_aux first [])
    unfolding Needed
    needed_sent h = (
      (λ u. needed_stage.0.done (sent h) u (let b : h ≤ n = reach_le s law u in omega arith)),
      λ g. ⊎_elim absurd (λ t. t.0) (needed_stage.0.only (sent h) g),
    )

    n_received : Has (received n) (reverse_aux first [])
    unfolding Needed None Reach
    n_received = needed_stage.0.done (received n) (inl refl, λ z. z) i

    absent : (a : Happening) → ¬ Reach s law (message_of a) n → Reversed a (received n) (reverse_aux first [])
    unfolding Needed
    absent a nr =
        reversed_by_absence a (received n) (reverse_aux first []) n_received
        (λ h. ⊎_elim absurd (λ t. nr (due_sent (λ x. Reach s law x n) None a t.0)) (needed_stage.0.only a h))

    needed_first : (a : Happening) → message_of a ≡ m → ¬ Enforced s a (received n) → Reversed a (received n) (reverse_aux first [])
    unfolding Reach
    needed_first (sent x) e un =
        absent (sent x) (⊎_elim (λ p. un (subst (λ z. Enforced s (sent z) (received n)) (sym p) (own i))) (λ d. un (chain d (own i))))
    needed_first (received x) e un = go (ℕ_discrete x n)
      where
        go : Dec (x ≡ n) → Reversed (received x) (received n) (reverse_aux first [])
        go (yes p) = subst (λ z. Reversed (received z) (received n) (reverse_aux first [])) (sym p) (first_time s n (reverse_aux first []) needed_stage.0.run n_received)
        go (no np) = absent (received x) (⊎_elim np (λ d. nd (subst (λ z. Enforced s (sent z) (sent n)) e d)))

    pub alone : (a : Happening) → message_of a ≡ m → ¬ Enforced s a (received n) → Reverses s a (received n) (reverse (planned s before m n))
    alone a e un =
        subst (λ r. Reverses s a (received n) r) (sym shorter)
        (ends (reverse_aux first []) needed_stage.0.run (needed_stage.1 ∙ upward_none k) needed_sent a (needed_first a e un))

  -- n's send waits for that of m: m and what it holds are kept until n is received
  module _ (d : Enforced s (sent m) (sent n)) (free : ¬ Enforced s (received m) (received n)) (hs : List ℕ) (crowd : Crowd s m n hs) (fit : length hs ≤ s.capacity) where
    E : ℕ → Type 0
    E = Early s law n i m d free hs crowd fit

    L : ℕ → Type 0
    L = Late s law n i m d free hs crowd fit

    K : ℕ → Type 0
    K = Kept s law n i m d free hs crowd fit

    told_early : (h : ℕ) → h < s.messages → Told E None (early s before m n) (early s before m n) (λ h. false) h
    unfolding E Early
    told_early h l =
        told_none (Early s law n i m d free hs crowd fit) (early s before m n) h
        (says_as (λ t. (t.0, λ u. t.1 (d, u))) (λ t. (t.0, λ u. t.1 u.1)) (says_and (says_leads h) (says_not (says_follows h l))))

    told_late : (h : ℕ) → h < s.messages → Told L K (late s before m n) (prompt s before m n) (kept s before m n) h
    unfolding L K Late Kept
    told_late h l =
        let u : Says (Reach s law m h × Reach s law h n) (late s before m n h) =
        says_as (λ t. (t.1.1, t.0)) (λ t. (t.1, (d, t.0))) (says_and (says_leads h) (says_follows h l)) in
        let v : Says ((h ≡ m) ⊎ T (s.holds m h)) (stuck s before m n h) = says_or (says_same h m) (says_test (s.holds m h)) in
        (u, says_and u (says_not v), says_and u v)

    r₁ : List Happening
    r₁ = reverse_aux first []

    r₂ : List Happening
    r₂ = reverse_aux second r₁

    r₃ : List Happening
    r₃ = reverse_aux third r₂

    early_stage : Stage s E None [] k r₁ × (waits r₁ ≡ [])
    unfolding E r₁
    early_stage =
        let t = pass_phase s law E None [] [] (first_plan s law n i E (early? s law n i m d free hs crowd fit) (early_reach s law n i m d free hs crowd fit) (early_shut s law n i m d free hs crowd fit))
        (early s before m n) (early s before m n) (λ h. false) told_early k (omega arith) in
        (t.0, t.1 ∙ upward_none k)

    late_stage : Stage s L K r₁ k r₂ × (waits r₂ ≡ upward (kept s before m n) k)
    unfolding E L K r₂
    late_stage =
        let t = pass_phase s law L K r₁ (without n hs) (late_plan s law n i m d free hs crowd fit r₁ early_stage.0) (late s before m n) (prompt s before m n) (kept s before m n) told_late k (omega arith) in
        (t.0, t.1 ∙ ap (λ w. w ++ upward (kept s before m n) k) early_stage.1)

    drained : Drained s r₂ r₃
    unfolding r₃
    drained =
        subst (λ l. Drained s r₂ (reverse_aux l r₂)) (sym (pass_receipts (kept s before m n) k))
        (drain_from s law (upward (kept s before m n) k) r₂ late_stage.0.run late_stage.1)

    all_sent : (h : ℕ) → Reach s law h n ↔ Has (sent h) r₃
    unfolding E L Early Late r₃
    all_sent h = ((λ u. onward_has (sent h) drained.on (to u (reach? s law m h))), λ g. from (only_receipts (upward (kept s before m n) k) r₂ h (subst (λ l. Has (sent h) (reverse_aux l r₂)) (pass_receipts (kept s before m n) k) g)))
      where
        to : Reach s law h n → Dec (Reach s law m h) → Has (sent h) r₂
        to u (yes v) = late_stage.0.done (sent h) (v, u) (let b : h ≤ n = reach_le s law u in omega arith)
        to u (no nv) = onward_has (sent h) late_stage.0.on (early_stage.0.done (sent h) (u, nv) (let b : h ≤ n = reach_le s law u in omega arith))

        from : Has (sent h) r₂ → Reach s law h n
        from g = ⊎_elim (λ q. ⊎_elim absurd (λ t. t.0.0) (early_stage.0.only (sent h) q)) (λ t. t.0.1) (late_stage.0.only (sent h) g)

    n_first : Reversed (received m) (received n) r₂
    unfolding E L K Early Late Kept Reach
    n_first =
        reversed_by_absence (received m) (received n) r₂
        (late_stage.0.done (received n) ((inr d, inl refl), ⊎_elim (not_itself s law n i m d free hs crowd fit) (unheld s law n i m d free hs crowd fit)) i)
        (λ h. ⊎_elim (λ g. (early_only s law n i m d free hs crowd fit r₁ early_stage.0 (received m) g).1 (inl refl)) (λ t. t.0.1 (inl refl)) (late_stage.0.only (received m) h))

    pub overtaken : Reverses s (received m) (received n) (reverse (planned s before m n))
    unfolding r₁ r₂ r₃
    overtaken =
        subst (λ r. Reverses s (received m) (received n) r) (sym in_turn)
        (ends r₃ drained.run drained.idle all_sent (received m) (reversed_onward drained.on n_first))

-- the plan of any two events that are reversible
pub plan_reverses :
    (s : Scene) → Laws s → (before : ℕ → ℕ → Bool) → Tells s before → (a : Happening) (n : ℕ) → n < s.messages → Reversible s a (received n) →
    Reverses s a (received n) (reverse (planned s before (message_of a) n))
plan_reverses s law before tells a n i v = go a v (enforced? s law (sent (message_of a)) (sent n))
  where
    go : (a : Happening) → Reversible s a (received n) → Dec (Enforced s (sent (message_of a)) (sent n)) → Reverses s a (received n) (reverse (planned s before (message_of a) n))
    go a v (no nd) = alone s law before tells (message_of a) n i nd a refl v.0
    go (sent m) v (yes d) = absurd (v.0 (chain d (own i)))
    go (received m) (un, c) (yes d) = ⊎_elim (λ nx. absurd (nx d)) (λ (hs, k, l). overtaken s law before tells m n i d un hs k l) c
