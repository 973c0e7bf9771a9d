-- The one pass computes the enforced order, and so decides it, counts the crowd and tells the reversible pairs.
use Rattle.std.proofs.Common.{◌≡◌, ℕ, zero, suc, ◌<◌, ◌≤◌, Bool, true, false, cond, not, ◌&&◌, ◌||◌, T, leb, ◌⊎◌, ◌↔◌, List, [], ◌∷◌, ◌++◌, length, sym, refl, ap, subst, inl, inr, ⊎_elim, arith, le→leb, leb→le, T_not}
use native.Mathlib.Decide.{map_dec, dec_lt}
use lib.Dec.{not_T}
use Rattle.chart.specs.Content.{Happening, sent, received, message_of}
use Rattle.order.specs.Lists.{Has, Once}
use Rattle.order.specs.Order.{Scene, Laws, Enforced}
use Rattle.order.specs.Reversible.{Between, Crowd, CrowdFits, Reversible}
use Rattle.order.specs.Pass.{same, listed, Row, row, send_row, holder_row, with_rows, rows, row_of, enforces, chosen, between, crowd_size, turns, reverses}
use Rattle.order.proofs.Lists.{has_left, has_right, has_cases, fits, below_suc}
use Rattle.order.proofs.Tests.{or_either, or_one, or_other, both_of, both, test?, receipt_not_send, same_message, same_is, is_same, listed_has, has_listed}
use Rattle.order.proofs.Order.{UpTo, LastStep, last_step, from_last_step, sends_rise, order_inside}

module _ (e : Happening) (us vs : List Happening) where
  cond_cases : (b : Bool) → Has e (cond b (us ++ vs) vs) → (T b × Has e us) ⊎ Has e vs
  cond_cases true h = ⊎_elim (λ k. inl (tt, k)) inr (has_cases e us vs h)
  cond_cases false h = inr h

  cond_taken : (b : Bool) → T b → Has e us → Has e (cond b (us ++ vs) vs)
  cond_taken true t h = has_left e us vs h
  cond_taken false t h = absurd t

  cond_rest : (b : Bool) → Has e vs → Has e (cond b (us ++ vs) vs)
  cond_rest true h = has_right e us vs h
  cond_rest false h = h

abbrev row_event : Row → Happening
row_event (row e es) = e

abbrev row_before : Row → List Happening
row_before (row e es) = es

-- es is the row of f
abbrev In : Happening → List Happening → List Row → Type 0
In f es t = Has (row f es) t

abbrev FromSend : Scene → ℕ → List Row → Happening → Type 0
FromSend s n t e = (g : Happening) × (es : List Happening) × In g es t × T (s.local g n) × Has e (g ∷ es)

abbrev FromHolder : Scene → ℕ → List Happening → List Row → Happening → Type 0
FromHolder s n before t e =
    (m : ℕ) × (es : List Happening) × In (received m) es t × T (s.holds m n) × Has (sent m) before × Has e (received m ∷ es)

module _ (s : Scene) (n : ℕ) where
  send_row_from : (t : List Row) (e : Happening) → Has e (send_row s n t) → FromSend s n t e
  send_row_from [] e h = absurd h
  send_row_from (row g es ∷ t) e h = go (send_row_from t e) (cond_cases e (g ∷ es) (send_row s n t) (s.local g n) h)
    where
      go : (Has e (send_row s n t) → FromSend s n t e) → (T (s.local g n) × Has e (g ∷ es)) ⊎ Has e (send_row s n t) → FromSend s n (row g es ∷ t) e
      go ih (inl k) = (g, es, inl refl, k.0, k.1)
      go ih (inr k) = let x = ih k in (x.0, x.1, inr x.2, x.3, x.4)

  send_row_to : (t : List Row) (e g : Happening) (es : List Happening) → In g es t → T (s.local g n) → Has e (g ∷ es) → Has e (send_row s n t)
  send_row_to [] e g es i l h = absurd i
  send_row_to (row g' es' ∷ t) e g es (inl p) l h =
      cond_taken e (g' ∷ es') (send_row s n t) (s.local g' n) (subst (λ x. T (s.local (row_event x) n)) p l) (subst (λ x. Has e (row_event x ∷ row_before x)) p h)
  send_row_to (row g' es' ∷ t) e g es (inr i) l h = cond_rest e (g' ∷ es') (send_row s n t) (s.local g' n) (send_row_to t e g es i l h)

  module _ (before : List Happening) where
    holder_row_from : (t : List Row) (e : Happening) → Has e (holder_row s n before t) → FromHolder s n before t e
    holder_row_from [] e h = absurd h
    holder_row_from (row (sent m) es ∷ t) e h = let x = holder_row_from t e h in (x.0, x.1, inr x.2, x.3, x.4, x.5)
    holder_row_from (row (received m) es ∷ t) e h =
        go (holder_row_from t e) (cond_cases e (received m ∷ es) (holder_row s n before t) (s.holds m n && listed (sent m) before) h)
      where
        go :
            (Has e (holder_row s n before t) → FromHolder s n before t e) → (T (s.holds m n && listed (sent m) before) × Has e (received m ∷ es)) ⊎ Has e (holder_row s n before t) →
            FromHolder s n before (row (received m) es ∷ t) e
        go ih (inl k) = let u = both_of (s.holds m n) (listed (sent m) before) k.0 in (m, es, inl refl, u.0, listed_has (sent m) before u.1, k.1)
        go ih (inr k) = let x = ih k in (x.0, x.1, inr x.2, x.3, x.4, x.5)

    holder_row_to :
        (t : List Row) (e : Happening) (m : ℕ) (es : List Happening) → In (received m) es t → T (s.holds m n) → Has (sent m) before → Has e (received m ∷ es) → Has e (holder_row s n before t)
    holder_row_to [] e m es i l k h = absurd i
    holder_row_to (row (sent m') es' ∷ t) e m es (inl p) l k h = absurd (receipt_not_send (ap row_event p))
    holder_row_to (row (sent m') es' ∷ t) e m es (inr i) l k h = holder_row_to t e m es i l k h
    holder_row_to (row (received m') es' ∷ t) e m es (inl p) l k h =
        let q : m ≡ m' = same_message (ap row_event p) in
        cond_taken e (received m' ∷ es') (holder_row s n before t) (s.holds m' n && listed (sent m') before)
        (both (s.holds m' n) (listed (sent m') before) (subst (λ x. T (s.holds x n)) q l) (subst (λ x. T (listed (sent x) before)) q (has_listed (sent m) before k)))
        (subst (λ x. Has e (row_event x ∷ row_before x)) p h)
    holder_row_to (row (received m') es' ∷ t) e m es (inr i) l k h =
        cond_rest e (received m' ∷ es') (holder_row s n before t) (s.holds m' n && listed (sent m') before) (holder_row_to t e m es i l k h)

-- the table has the rows of the first n messages, and each is exact
pub record Right (s : Scene) (n : ℕ) (t : List Row) : Type 0 where
  pub exact : (f : Happening) (es : List Happening) → In f es t → (e : Happening) → Has e es ↔ Enforced s e f
  pub full : (f : Happening) → message_of f < n → (es : List Happening) × In f es t

module _ (s : Scene) (law : Laws s) where
  module _ (n : ℕ) (i : n < s.messages) (t : List Row) (r : Right s n t) where
    up_to : (e g : Happening) (es : List Happening) → In g es t → Has e (g ∷ es) ↔ UpTo s e g
    up_to e g es k = (⊎_elim inl (λ h. inr ((r.exact g es k e).0 h)), ⊎_elim inl (λ d. inr ((r.exact g es k e).1 d)))

    send_exact : (e : Happening) → Has e (send_row s n t) ↔ Enforced s e (sent n)
    send_exact e = (
      (λ h. let x = send_row_from s n t e h in from_last_step s e (sent n) (x.0, x.3, (up_to e x.0 x.1 x.2).0 x.4)),
      λ d. let x = last_step s d in let y = r.full x.0 (law.low x.0 n x.1) in send_row_to s n t e x.0 y.0 y.1 x.1 ((up_to e x.0 y.0 y.1).1 x.2),
    )

    receipt_exact : (e : Happening) → Has e ((sent n ∷ send_row s n t) ++ holder_row s n (send_row s n t) t) ↔ Enforced s e (received n)
    receipt_exact e =
        ((λ h. from_last_step s e (received n) (from (has_cases e (sent n ∷ send_row s n t) (holder_row s n (send_row s n t) t) h))), λ d. to (last_step s d))
      where
        from : Has e (sent n ∷ send_row s n t) ⊎ Has e (holder_row s n (send_row s n t) t) → LastStep s e (received n)
        from (inl (inl p)) = inl (i, inl p)
        from (inl (inr h)) = inl (i, inr ((send_exact e).0 h))
        from (inr h) =
            let x = holder_row_from s n (send_row s n t) t e h in
            inr (x.0, (send_exact (sent x.0)).0 x.4, x.3, (up_to e (received x.0) x.1 x.2).0 x.5)

        to : LastStep s e (received n) → Has e ((sent n ∷ send_row s n t) ++ holder_row s n (send_row s n t) t)
        to (inl (j, inl p)) = inl p
        to (inl (j, inr d)) = has_left e (sent n ∷ send_row s n t) (holder_row s n (send_row s n t) t) (inr ((send_exact e).1 d))
        to (inr (m, d, h, u)) =
            let y = r.full (received m) (sends_rise s law d) in
            has_right e (sent n ∷ send_row s n t) (holder_row s n (send_row s n t) t)
            (holder_row_to s n (send_row s n t) t e m y.0 y.1 h ((send_exact (sent m)).1 d) ((up_to e (received m) y.0 y.1).1 u))

    right_more : Right s (suc n) (with_rows s n t (send_row s n t))
    right_more = record { exact = exact; full = full }
      where
        by_row : (w f : Happening) (es fs : List Happening) → row f es ≡ row w fs → ((e : Happening) → Has e fs ↔ Enforced s e w) → (e : Happening) → Has e es ↔ Enforced s e f
        by_row w f es fs p k e = subst (λ x. Has e (row_before x) ↔ Enforced s e (row_event x)) (sym p) (k e)

        exact : (f : Happening) (es : List Happening) → In f es (with_rows s n t (send_row s n t)) → (e : Happening) → Has e es ↔ Enforced s e f
        exact f es (inl p) = by_row (received n) f es _ p receipt_exact
        exact f es (inr (inl p)) = by_row (sent n) f es _ p send_exact
        exact f es (inr (inr h)) = r.exact f es h

        own_row : (f : Happening) → message_of f ≡ n → (es : List Happening) × In f es (with_rows s n t (send_row s n t))
        own_row (sent m) p = (send_row s n t, inr (inl (ap (λ x. row (sent x) (send_row s n t)) p)))
        own_row (received m) p =
            ((sent n ∷ send_row s n t) ++ holder_row s n (send_row s n t) t, inl (ap (λ x. row (received x) ((sent n ∷ send_row s n t) ++ holder_row s n (send_row s n t) t)) p))

        full : (f : Happening) → message_of f < suc n → (es : List Happening) × In f es (with_rows s n t (send_row s n t))
        full f l = ⊎_elim (λ b. ((r.full f b).0, inr (inr (r.full f b).1))) (own_row f) (below_suc (message_of f) n l)

  pub right : (n : ℕ) → n ≤ s.messages → Right s n (rows s n)
  right zero l = record { exact = λ f es h. absurd h; full = λ f h. absurd (omega arith) }
  right (suc n) l = right_more n (omega arith) (rows s n) (right n (omega arith))

row_of_in : (f : Happening) (t : List Row) (es : List Happening) → In f es t → In f (row_of f t) t
row_of_in f [] es h = absurd h
row_of_in f (row g fs ∷ t) es h = go (row_of_in f t es) (same f g) refl h
  where
    go : (In f es t → In f (row_of f t) t) → (b : Bool) → same f g ≡ b → (row f es ≡ row g fs) ⊎ In f es t → In f (cond b fs (row_of f t)) (row g fs ∷ t)
    go ih true e h = inl (ap (λ x. row x fs) (same_is f g (rw e tt)))
    go ih false e (inl p) = absurd (subst T e (is_same (ap row_event p)))
    go ih false e (inr h) = inr (ih h)

-- the chosen numbers, each once
record Choice (p : ℕ → Bool) (n : ℕ) (hs : List ℕ) : Type 0 where
  once : Once hs
  all : (h : ℕ) → h < n → T (p h) → Has h hs
  only : (h : ℕ) → Has h hs → T (p h)
  below : (h : ℕ) → Has h hs → h < n

choose : (p : ℕ → Bool) (n : ℕ) → Choice p n (chosen p n)
choose p zero = record { once = tt; all = λ h l t. absurd (omega arith); only = λ h z. absurd z; below = λ h z. absurd z }
choose p (suc n) = go (choose p n) (p n) refl
  where
    go : Choice p n (chosen p n) → (b : Bool) → p n ≡ b → Choice p (suc n) (cond b (n ∷ chosen p n) (chosen p n))
    go k true e = record {
      once = ((λ h. let b : n < n = k.below n h in omega arith), k.once);
      all = λ h l q. ⊎_elim (λ b. inr (k.all h b q)) inl (below_suc h n l);
      only = λ h. ⊎_elim (λ q. rw (q, e) tt) (k.only h);
      below = λ h. ⊎_elim (λ q. omega arith) (λ z. let b : h < n = k.below h z in omega arith);
    }
    go k false e = record {
      once = k.once;
      all = λ h l q. ⊎_elim (λ b. k.all h b q) (λ z. absurd (subst T e (subst (λ x. T (p x)) z q))) (below_suc h n l);
      only = k.only;
      below = λ h z. let b : h < n = k.below h z in omega arith;
    }

module _ (s : Scene) (law : Laws s) (t : List Row) (r : Right s s.messages t) where
  pub enforces_is : (e f : Happening) → message_of f < s.messages → T (enforces t e f) ↔ Enforced s e f
  enforces_is e f l =
      let y = r.full f l in
      let x = r.exact f (row_of f t) (row_of_in f t y.0 y.1) e in
      ((λ h. x.0 (listed_has e (row_of f t) h)), λ d. has_listed e (row_of f t) (x.1 d))

  between_is : (m n h : ℕ) → n < s.messages → h < s.messages → T (between s t m n h) ↔ Between s m n h
  between_is m n h i j =
      let x = enforces_is (sent m) (sent h) j in
      let y = enforces_is (sent h) (sent n) i in (
        (λ u.
            let v = both_of (enforces t (sent m) (sent h)) (enforces t (sent h) (sent n) && s.holds m h) u in
            let w = both_of (enforces t (sent h) (sent n)) (s.holds m h) v.1 in
            (x.0 v.0, y.0 w.0, w.1)),
        λ (d₁, d₂, k).
            both (enforces t (sent m) (sent h)) (enforces t (sent h) (sent n) && s.holds m h) (x.1 d₁)
            (both (enforces t (sent h) (sent n)) (s.holds m h) (y.1 d₂) k),
      )

  -- the crowd as the pass lists it
  pub crowd_is : (m n : ℕ) → n < s.messages → Enforced s (sent m) (sent n) → Crowd s m n (m ∷ n ∷ chosen (between s t m n) s.messages)
  crowd_is m n i d =
      let k = choose (between s t m n) s.messages in
      let found : (h : ℕ) → Has h (chosen (between s t m n) s.messages) → Between s m n h = λ h z. (between_is m n h i (k.below h z)).0 (k.only h z) in
      let mn : m < n = sends_rise s law d in
      record {
        once = (⊎_elim (λ e. omega arith) (λ z. let l : m < m = sends_rise s law (found m z).0 in omega arith), ((λ z. let l : n < n = sends_rise s law (found n z).1 in omega arith), k.once));
        first = inl refl;
        second = inr (inl refl);
        between = λ h b. inr (inr (k.all h (order_inside s law b.0) ((between_is m n h i (order_inside s law b.0)).1 b)));
        no_other = λ h. ⊎_elim inl (⊎_elim (λ e. inr (inl e)) (λ z. inr (inr (found h z))));
      }

  crowd_size_lem : (m n : ℕ) → crowd_size s t m n ≡ length (m ∷ n ∷ chosen (between s t m n) s.messages)
  crowd_size_lem m n = omega arith

  -- a crowd has one size
  pub no_longer : (m n : ℕ) (hs ks : List ℕ) → Crowd s m n hs → Crowd s m n ks → length hs ≤ length ks
  no_longer m n hs ks u v = fits hs ks u.once (λ h z. place h (u.no_other h z))
    where
      place : (h : ℕ) → (h ≡ m) ⊎ ((h ≡ n) ⊎ Between s m n h) → Has h ks
      place h (inl e) = subst (λ x. Has x ks) (sym e) v.first
      place h (inr (inl e)) = subst (λ x. Has x ks) (sym e) v.second
      place h (inr (inr b)) = v.between h b

  pub one_size : (m n : ℕ) (hs : List ℕ) → n < s.messages → Enforced s (sent m) (sent n) → Crowd s m n hs → length hs ≡ crowd_size s t m n
  one_size m n hs i d k =
      let ks = m ∷ n ∷ chosen (between s t m n) s.messages in
      let a : length hs ≤ length ks = no_longer m n hs ks k (crowd_is m n i d) in
      let b : length ks ≤ length hs = no_longer m n ks hs (crowd_is m n i d) k in
      let c : crowd_size s t m n ≡ length ks = crowd_size_lem m n in
      omega arith

  pub turns_is : (a b : Happening) → message_of b < s.messages → T (turns s t a b) ↔ Reversible s a b
  turns_is a b j = (from, to)
    where
      First : Bool
      First = enforces t a b

      Sends : Bool
      Sends = enforces t (sent (message_of a)) (sent (message_of b))

      size : ℕ
      size = crowd_size s t (message_of a) (message_of b)

      Fits : Bool
      Fits = leb size s.capacity

      first_is : T First ↔ Enforced s a b
      first_is = enforces_is a b j

      sends_is : T Sends ↔ Enforced s (sent (message_of a)) (sent (message_of b))
      sends_is = enforces_is (sent (message_of a)) (sent (message_of b)) j

      by_sends : Dec (T Sends) → T (not Sends || Fits) → (¬ Enforced s (sent (message_of a)) (sent (message_of b))) ⊎ CrowdFits s (message_of a) (message_of b)
      by_sends (no k) u = inl (λ d. k (sends_is.1 d))
      by_sends (yes k) u =
          let fit = ⊎_elim (λ w. absurd (T_not Sends w k)) (λ w. w) (or_either (not Sends) Fits u) in
          let le : size ≤ s.capacity = leb→le size s.capacity fit in
          let eq : size ≡ length (message_of a ∷ message_of b ∷ chosen (between s t (message_of a) (message_of b)) s.messages) = crowd_size_lem (message_of a) (message_of b) in
          inr (message_of a ∷ message_of b ∷ chosen (between s t (message_of a) (message_of b)) s.messages, crowd_is (message_of a) (message_of b) j (sends_is.0 k), omega arith)

      from : T (not First && (not Sends || Fits)) → Reversible s a b
      from u =
          let v = both_of (not First) (not Sends || Fits) u in
          ((λ d. T_not First v.0 (first_is.1 d)), by_sends (test? Sends) v.1)

      if_sends : Dec (T Sends) → (¬ Enforced s (sent (message_of a)) (sent (message_of b))) ⊎ CrowdFits s (message_of a) (message_of b) → T (not Sends || Fits)
      if_sends (no k) c = or_one (not Sends) Fits (not_T Sends k)
      if_sends (yes k) (inl n) = absurd (n (sends_is.0 k))
      if_sends (yes k) (inr (hs, crowd, l)) =
          let z : length hs ≡ size = one_size (message_of a) (message_of b) hs j (sends_is.0 k) crowd in
          or_other (not Sends) Fits (le→leb size s.capacity (omega arith))

      to : Reversible s a b → T (not First && (not Sends || Fits))
      to (nd, c) = both (not First) (not Sends || Fits) (not_T First (λ u. nd (first_is.0 u))) (if_sends (test? Sends) c)

module _ (s : Scene) (law : Laws s) where
  pub all_right : Right s s.messages (rows s s.messages)
  all_right = right s law s.messages (omega arith)

  pub enforced? : (e f : Happening) → Dec (Enforced s e f)
  enforced? e f = go (dec_lt (message_of f) s.messages)
    where
      go : Dec (message_of f < s.messages) → Dec (Enforced s e f)
      go (yes l) =
          let k = enforces_is s law (rows s s.messages) all_right e f l in
          map_dec k.0 k.1 (test? (enforces (rows s s.messages) e f))
      go (no l) = no (λ d. l (order_inside s law d))

  -- two messages of which one is sent first have a crowd
  pub crowd_of : (m n : ℕ) → Enforced s (sent m) (sent n) → (hs : List ℕ) × Crowd s m n hs
  crowd_of m n d = (_, crowd_is s law (rows s s.messages) all_right m n (order_inside s law d) d)

  pub reverses_is : (a b : Happening) → message_of b < s.messages → T (reverses s a b) ↔ Reversible s a b
  reverses_is = turns_is s law (rows s s.messages) all_right
