-- An in event can come before another event exactly if the two are reversible.
use Rattle.std.proofs.Common.{◌≡◌, ℕ, ◌<◌, ◌≤◌, T, ◌⊎◌, List, [], ◌∷◌, ◌++◌, length, sym, refl, subst, inl, inr, ⊎_elim, arith}
use native.Mathlib.Decide.{ℕ_discrete}
use Rattle.chart.specs.Content.{Happening, sent, received, message_of}
use Rattle.order.specs.Lists.{Has, without}
use Rattle.order.specs.Order.{Scene, Laws, Enforced, drawn, own, held, chain}
use Rattle.order.specs.Runs.{waits, Run, cleared, fired, Reversed, now, since, CanReverse}
use Rattle.order.specs.Reversible.{Between, Crowd, CrowdFits, Reversible}
use Rattle.order.proofs.Lists.{has_left, has_right, fits, length_push, without_keeps, without_lt}
use Rattle.order.proofs.Tests.{test?, and?, or?, not?}
use Rattle.order.proofs.Order.{no_loop, sends_rise, above_sent}
use Rattle.order.proofs.Pass.{enforced?, crowd_of}
use Rattle.order.proofs.Runs.{waiting, sound, carried}
use Rattle.order.proofs.Phases.{Onward, stay, more, onward_has, onward_on, Due, due_sent, None, Plan, Stage, seen, phase, complete}

pub reversed_onward : {a b : Happening} {r r' : List Happening} → Onward r r' → Reversed a b r → Reversed a b r'
reversed_onward stay v = v
reversed_onward (more o) v = since (reversed_onward o v)

pub reversed_by_absence : (a b : Happening) (r : List Happening) → Has b r → ¬ Has a r → Reversed a b r
reversed_by_absence a b [] h n = absurd h
reversed_by_absence a b (x ∷ r) (inl e) n = subst (λ y. Reversed a b (y ∷ r)) e (now (λ k. n (inr k)))
reversed_by_absence a b (x ∷ r) (inr h) n = since (reversed_by_absence a b r h (λ k. n (inr k)))

module _ (s : Scene) where
  -- the run up to the firing of f
  pub at_firing : (f : Happening) (r : List Happening) → Run s r → Has f r → (q : List Happening) × Run s (f ∷ q) × Onward (f ∷ q) r
  at_firing f [] run h = absurd h
  at_firing f (x ∷ r) (fired run c) (inl e) = (r, subst (λ y. Run s (y ∷ r)) (sym e) (fired run c), subst (λ y. Onward (f ∷ r) (y ∷ r)) e stay)
  at_firing f (x ∷ r) (fired run c) (inr h) = let t = at_firing f r run h in (t.0, t.1, more t.2)

  pub at_reversal : {a b : Happening} {r : List Happening} → Run s r → Reversed a b r → (q : List Happening) × Run s (b ∷ q) × (¬ Has a q) × Onward (b ∷ q) r
  at_reversal run (now {r} n) = (r, run, n, stay)
  at_reversal (fired run c) (since v) = let t = at_reversal run v in (t.0, t.1, t.2, more t.3)

  -- an event is never before itself
  pub first_time : (n : ℕ) (r : List Happening) → Run s r → Has (received n) r → Reversed (received n) (received n) r
  first_time n r run h = let t = at_firing (received n) r run h in reversed_onward t.2 (now (fresh t.0 t.1))
    where
      fresh : (q : List Happening) → Run s (received n ∷ q) → ¬ Has (received n) q
      fresh q (fired run c) = c.fresh

module _ (s : Scene) (law : Laws s) where
  -- where n is received before m, which was sent first, their crowd waits once n is sent
  module _ (m n : ℕ) (q : List Happening) (late : ¬ Has (received m) q) (d : Enforced s (sent m) (sent n)) (hs : List ℕ) (k : Crowd s m n hs) where
    crowd_waits : (p : List Happening) → Run s (sent n ∷ p) → Onward (sent n ∷ p) q → length hs ≤ length (waits (sent n ∷ p))
    crowd_waits p run on = fits hs (waits p ++ n ∷ []) k.once (λ h z. waits_too run h (k.no_other h z))
      where
        not_yet : ¬ Has (received m) p
        not_yet g = late (onward_has (received m) on (inr g))

        waits_too : Run s (sent n ∷ p) → (h : ℕ) → (h ≡ m) ⊎ ((h ≡ n) ⊎ Between s m n h) → Has h (waits p ++ n ∷ [])
        waits_too run h (inl e) = has_left h (waits p) (n ∷ []) (subst (λ x. Has x (waits p)) (sym e) (waiting m p (sound s d p run) not_yet))
        waits_too run h (inr (inl e)) = has_right h (waits p) (n ∷ []) (inl e)
        waits_too (fired prun c) h (inr (inr b)) =
            has_left h (waits p) (n ∷ [])
            (waiting h p (sound s b.1 p (fired prun c)) (λ g. not_yet (carried s (received m) (received h) (sound s (held b.0 b.2)) p prun g)))

  within_room : (n : ℕ) (p : List Happening) → Run s (sent n ∷ p) → length (waits (sent n ∷ p)) ≤ s.capacity
  within_room n p (fired run c) = let l : length (waits p) < s.capacity = c.room in let e = length_push n (waits p) in omega arith

  pub sent_before : (n : ℕ) (q : List Happening) → Run s (received n ∷ q) → (p : List Happening) × Run s (sent n ∷ p) × Onward (sent n ∷ p) q
  sent_before n q (fired run c) = at_firing s (sent n) q run c.after

  -- the crowd of two messages that come the other way round waited at one moment of the run
  pub crowd_met :
      (m n : ℕ) (r : List Happening) → Run s r → Reversed (received m) (received n) r → Enforced s (sent m) (sent n) → (hs : List ℕ) → Crowd s m n hs →
      (p : List Happening) × Run s (sent n ∷ p) × Onward (sent n ∷ p) r × (length hs ≤ length (waits (sent n ∷ p)))
  crowd_met m n r run v d hs k =
      let t = at_reversal s run v in
      let u = sent_before n t.0 t.1 in
      (u.0, u.1, onward_on (more u.2) (onward_on stay t.3), crowd_waits m n t.0 t.2 d hs k u.0 u.1 u.2)

  necessary : (a : Happening) (n : ℕ) (r : List Happening) → Run s r → Reversed a (received n) r → n < s.messages → Reversible s a (received n)
  necessary a n r run v i = (unordered, go a v unordered (enforced? s law (sent (message_of a)) (sent n)))
    where
      unordered : ¬ Enforced s a (received n)
      unordered d = let t = at_reversal s run v in t.2 (sound s d t.0 t.1)

      go :
          (a : Happening) → Reversed a (received n) r → ¬ Enforced s a (received n) → Dec (Enforced s (sent (message_of a)) (sent n)) →
          (¬ Enforced s (sent (message_of a)) (sent n)) ⊎ CrowdFits s (message_of a) n
      go a v un (no nd) = inl nd
      go (sent m) v un (yes d) = absurd (un (chain d (own i)))
      go (received m) v un (yes d) =
          let c = crowd_of s law m n d in
          let t = crowd_met m n r run v d c.0 c.1 in
          let l : length c.0 ≤ length (waits (sent n ∷ t.0)) = t.3 in
          let f : length (waits (sent n ∷ t.0)) ≤ s.capacity = within_room n t.0 t.1 in
          inr (c.0, c.1, omega arith)

  pub needed : (a : Happening) (n : ℕ) (r : List Happening) → Run s r → Reversed a (received n) r → Reversible s a (received n)
  needed a n r run v = let t = at_reversal s run v in let u = sent_before n t.0 t.1 in necessary a n r run v (inside u.0 u.1)
    where
      inside : (p : List Happening) → Run s (sent n ∷ p) → n < s.messages
      inside p (fired run c) = c.inside

  -- the sends that n's waits for, and its own
  unfoldable pub Reach : ℕ → ℕ → Type 0
  Reach x n = (x ≡ n) ⊎ Enforced s (sent x) (sent n)

  pub reach? : (x n : ℕ) → Dec (Reach x n)
  unfolding Reach
  reach? x n = or? (ℕ_discrete x n) (enforced? s law (sent x) (sent n))

  pub reach_on : {x n : ℕ} {e : Happening} → Enforced s e (sent x) → Reach x n → Enforced s e (sent n)
  unfolding Reach
  reach_on {e} d (inl p) = subst (λ y. Enforced s e (sent y)) p d
  reach_on d (inr k) = chain d k

  pub reach_le : {x n : ℕ} → Reach x n → x ≤ n
  unfolding Reach
  reach_le (inl p) = omega arith
  reach_le (inr d) = let l = sends_rise s law d in omega arith

  module _ (n : ℕ) (i : n < s.messages) where
    -- a first phase sends a part of what n waits for, with all that this waits for
    module _ (X : ℕ → Type 0) (X? : (x : ℕ) → Dec (X x)) (reach : (x : ℕ) → X x → Reach x n) (shut : (x y : ℕ) → X x → Enforced s (sent y) (sent x) → X y) where
      pub first_plan : Plan s X None [] []
      unfolding None
      first_plan = record {
        run = cleared;
        sends? = X?;
        keeps? = λ x. no (λ z. z);
        inside = λ x k. let l : x ≤ n = reach_le (reach x k) in omega arith;
        fresh = λ x k z. z;
        ready = λ x k e l. inr (due e (shut x (message_of e) k (above_sent s law e x l)));
        clear = λ x k nk w. ⊎_elim absurd (λ z. absurd z.1);
        bound = λ w. ⊎_elim absurd (λ z. absurd z.1);
        room = law.room;
      }
        where
          due : (e : Happening) → X (message_of e) → Due X None e
          due (sent y) k = k
          due (received y) k = (k, λ z. z)

      first : (r : List Happening) × Stage s X None [] s.messages r
      first = phase s law X None [] [] first_plan s.messages

    finish : {a : Happening} {r : List Happening} → Run s r → Reversed a (received n) r → CanReverse s a (received n)
    finish {r} run v = let t = complete s law r run in (t.0, record { run = t.1; complete = t.3; reversed = reversed_onward t.2 v })

    -- n's send does not wait for that of a's message, which is left for later
    apart : (a : Happening) → ¬ Reach (message_of a) n → CanReverse s a (received n)
    unfolding None Reach
    apart a nr = go (first (λ x. Reach x n) (λ x. reach? x n) (λ x k. k) (λ x y k d. inr (reach_on d k)))
      where
        go : ((r : List Happening) × Stage s (λ x. Reach x n) None [] s.messages r) → CanReverse s a (received n)
        go (r, t) =
            finish t.run
            (reversed_by_absence a (received n) r (t.done (received n) (inl refl, λ z. z) (omega arith))
            (λ h. ⊎_elim absurd (λ k. nr (due_sent (λ x. Reach x n) None a k.0)) (t.only a h)))

    -- n's send waits for that of m: m and what it holds are kept waiting
    module _ (m : ℕ) (d : Enforced s (sent m) (sent n)) (free : ¬ Enforced s (received m) (received n)) (hs : List ℕ) (k : Crowd s m n hs) (l : length hs ≤ s.capacity) where
      unfoldable pub Early : ℕ → Type 0
      Early x = Reach x n × (¬ Reach m x)

      unfoldable pub Late : ℕ → Type 0
      Late x = Reach m x × Reach x n

      unfoldable pub Kept : ℕ → Type 0
      Kept x = (x ≡ m) ⊎ T (s.holds m x)

      pub unheld : T (s.holds m n) → ⊥
      unheld h = free (held d h)

      pub not_itself : n ≡ m → ⊥
      not_itself e = no_loop s law m (subst (λ z. Enforced s (sent m) (sent z)) e d)

      -- what is kept is received too late for n
      kept_late : (y : ℕ) → Reach m y → Kept y → Enforced s (received y) (sent n) → ⊥
      unfolding Kept Reach
      kept_late y u (inl e) g = free (chain (subst (λ z. Enforced s (received z) (sent n)) e g) (own i))
      kept_late y (inl e) (inr h) g = free (chain (subst (λ z. Enforced s (received z) (sent n)) (sym e) g) (own i))
      kept_late y (inr u) (inr h) g = free (chain (held u h) (chain g (own i)))

      kept_in : (w : ℕ) → Late w × Kept w → Has w (without n hs)
      unfolding Kept Late Reach
      kept_in w ((u, v), inl e) = subst (λ z. Has z (without n hs)) (sym e) (without_keeps n m hs (λ q. not_itself (sym q)) k.first)
      kept_in w ((inl e, v), inr h) = subst (λ z. Has z (without n hs)) e (without_keeps n m hs (λ q. not_itself (sym q)) k.first)
      kept_in w ((inr u, inl e), inr h) = absurd (unheld (subst (λ z. T (s.holds m z)) e h))
      kept_in w ((inr u, inr v), inr h) = without_keeps n w hs (λ e. unheld (subst (λ z. T (s.holds m z)) e h)) (k.between w (u, v, h))

      pub early_shut : (x y : ℕ) → Early x → Enforced s (sent y) (sent x) → Early y
      unfolding Early Reach
      early_shut x y t e =
          (inr (reach_on e t.0), λ u. t.1 (inr (⊎_elim (λ p. subst (λ z. Enforced s (sent z) (sent x)) (sym p) e) (λ v. chain v e) u)))

      pub early? : (x : ℕ) → Dec (Early x)
      unfolding Early
      early? x = and? (reach? x n) (not? (reach? m x))

      pub early_reach : (x : ℕ) → Early x → Reach x n
      unfolding Early
      early_reach x t = t.0

      early : (r : List Happening) × Stage s Early None [] s.messages r
      early = first Early early? early_reach early_shut

      module _ (r : List Happening) (t : Stage s Early None [] s.messages r) where
        pub quiet : (w : ℕ) → Has w (waits r) → ⊥
        unfolding None
        quiet w h =
            ⊎_elim absurd (λ z. z.1)
            (seen s law Early None [] [] (first_plan Early early? early_reach early_shut) s.messages r t w h)

        pub early_only : (e : Happening) → Has e r → Early (message_of e)
        early_only e h = ⊎_elim absurd (λ z. due_sent Early None e z.0) (t.only e h)

        pub late_plan : Plan s Late Kept r (without n hs)
        unfolding Early Late Kept Reach None
        late_plan = record {
          run = t.run;
          sends? = λ x. and? (reach? m x) (reach? x n);
          keeps? = λ x. or? (ℕ_discrete x m) (test? (s.holds m x));
          inside = λ x z. let b : x ≤ n = reach_le z.1 in omega arith;
          fresh = λ x z h. (early_only (sent x) h).1 z.0;
          ready = λ x z e f. due e (reach_on (drawn f) z.1) (inr (reach_on (above_sent s law e x f) z.1)) (reach? m (message_of e));
          clear = λ x z nk w. ⊎_elim (λ h. absurd (quiet w h)) (λ y h. nk (inr (⊎_elim (λ e. subst (λ v. T (s.holds v x)) e h) (λ g. law.passes m w x g h) y.1)));
          bound = λ w. ⊎_elim (λ h. absurd (quiet w h)) (kept_in w);
          room = let b : length (without n hs) < length hs = without_lt n hs k.second in omega arith;
        }
          where
            due : (e : Happening) → Enforced s e (sent n) → Reach (message_of e) n → Dec (Reach m (message_of e)) → Has e r ⊎ Due Late Kept e
            due (sent y) g v (yes u) = inr (u, v)
            due (received y) g v (yes u) = inr ((u, v), λ z. kept_late y u z g)
            due (sent y) g v (no nu) = inl (t.done (sent y) (v, nu) (let b : y ≤ n = reach_le v in omega arith))
            due (received y) g v (no nu) = inl (t.done (received y) ((v, nu), λ z. z) (let b : y ≤ n = reach_le v in omega arith))

        late : CanReverse s (received m) (received n)
        unfolding Early Late Kept Reach
        late = go (phase s law Late Kept r (without n hs) late_plan s.messages)
          where
            go : ((r' : List Happening) × Stage s Late Kept r s.messages r') → CanReverse s (received m) (received n)
            go (r', t') =
                finish t'.run
                (reversed_by_absence (received m) (received n) r'
                (t'.done (received n) ((inr d, inl refl), ⊎_elim not_itself unheld) (omega arith))
                (λ h. ⊎_elim (λ g. (early_only (received m) g).1 (inl refl)) (λ z. z.0.1 (inl refl)) (t'.only (received m) h)))

      overtaken : CanReverse s (received m) (received n)
      overtaken = late early.0 early.1

    itself : (m : ℕ) → m ≡ n → CanReverse s (received m) (received n)
    itself m e =
        let t = complete s law [] cleared in
        subst (λ x. CanReverse s (received x) (received n)) (sym e)
        (t.0, record { run = t.1; complete = t.3; reversed = first_time s n t.0 t.1 (t.3 n i).1 })

    pub sufficient : (a : Happening) → Reversible s a (received n) → CanReverse s a (received n)
    unfolding Reach
    sufficient (sent m) (nd, c) = apart (sent m) (⊎_elim (λ e. nd (subst (λ z. Enforced s (sent z) (received n)) (sym e) (own i))) (λ d. nd (chain d (own i))))
    sufficient (received m) (nd, c) = go c (enforced? s law (sent m) (sent n)) (ℕ_discrete m n)
      where
        go : (¬ Enforced s (sent m) (sent n)) ⊎ CrowdFits s m n → Dec (Enforced s (sent m) (sent n)) → Dec (m ≡ n) → CanReverse s (received m) (received n)
        go c x (yes e) = itself m e
        go c (no nx) (no ne) = apart (received m) (⊎_elim ne nx)
        go (inl nx) (yes d) (no ne) = absurd (nx d)
        go (inr (hs, k, l)) (yes d) (no ne) = overtaken m d nd hs k l

  -- an out event waits for what stands above it
  pub sends_wait : (a : Happening) (n : ℕ) → T (s.local a n) → (¬ Reversible s a (sent n)) × (¬ CanReverse s a (sent n))
  sends_wait a n l = ((λ v. v.0 (drawn l)), λ (r, v). let t = at_reversal s v.run v.reversed in t.2 (sound s (drawn l) t.0 t.1))
