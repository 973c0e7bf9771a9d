-- A pass is a phase: it sends some messages by their numbers, receives each at once but for those that it keeps waiting, and these then wait in the order of their numbers.
use Rattle.std.proofs.Common.{◌≡◌, ℕ, zero, suc, ◌+◌, ◌*◌, ◌<◌, ◌≤◌, Bool, true, false, cond, not, ◌&&◌, ◌⊎◌, ◌↔◌, List, [], ◌∷◌, ◌++◌, map, length, sym, refl, ap, ◌∙◌, subst, inl, inr, ⊎_elim, append_assoc, append-nil, arith, length-append}
use mathlib.Core.List.{reverse_aux, reverse_aux-append, map-append}
use Rattle.chart.specs.Content.{Happening, sent, received}
use Rattle.order.specs.Lists.{Has, Once, without}
use Rattle.order.specs.Order.{Scene, Laws}
use Rattle.order.specs.Runs.{waits}
use Rattle.order.specs.Report.{upward}
use Rattle.order.proofs.Lists.{tell, Told as Two, equal, apart, without_first}
use Rattle.order.proofs.Tests.{send_not_receipt}
use Rattle.order.proofs.Runs.{waited}
use Rattle.order.proofs.Phases.{stay, Plan, Stage, skip, keep, pass as pass-one}
use Rattle.schedules.specs.Plan.{pass}
use Rattle.schedules.proofs.Says.{Says, right, wrong}

-- what a pass does at message h
abbrev step : Bool → Bool → ℕ → List Happening
step out back h = cond out (sent h ∷ []) [] ++ cond back (received h ∷ []) []

-- a pass that does nothing
pub pass_idle : (x y : ℕ → Bool) → ((h : ℕ) → x h ≡ false) → ((h : ℕ) → y h ≡ false) → (k : ℕ) → pass x y k ≡ []
pass_idle x y nx ny zero = refl
pass_idle x y nx ny (suc k) = go (pass_idle x y nx ny k) (nx k) (ny k)
  where
    go : pass x y k ≡ [] → x k ≡ false → y k ≡ false → pass x y k ++ step (x k) (y k) k ≡ []
    go e p q = rw (e, p, q) refl

-- a pass that only receives
pub pass_receipts : (z : ℕ → Bool) (k : ℕ) → pass (λ h. false) z k ≡ map received (upward z k)
pass_receipts z zero = refl
pass_receipts z (suc k) = go (pass_receipts z k) (z k)
  where
    go : pass (λ h. false) z k ≡ map received (upward z k) → (b : Bool) → pass (λ h. false) z k ++ step false b k ≡ map received (upward z k ++ cond b (k ∷ []) [])
    go e true = rw e (sym (map-append received (upward z k) (k ∷ [])))
    go e false = rw e (sym (map-append received (upward z k) []))

-- three tests say what a phase sends, what it receives at once, and what it keeps
abbrev pub Told : (X K : ℕ → Type 0) (x y z : ℕ → Bool) → ℕ → Type 0
Told X K x y z h = Says (X h) (x h) × Says (X h × (¬ K h)) (y h) × Says (X h × K h) (z h)

without_last : (n : ℕ) (w : List ℕ) → ¬ Has n w → without n (w ++ n ∷ []) ≡ w
without_last n [] nh = without_first n [] nh
without_last n (x ∷ w) nh = go (without_last n w (λ h. nh (inr h))) (tell n x)
  where
    go : without n (w ++ n ∷ []) ≡ w → Two n x → without n ((x ∷ w) ++ n ∷ []) ≡ x ∷ w
    go ih (equal e p) = absurd (nh (inl p))
    go ih (apart e p) = rw e (ap (λ l. x ∷ l) ih)

module _ (s : Scene) (law : Laws s) (X K : ℕ → Type 0) (r : List Happening) (ys : List ℕ) (p : Plan s X K r ys) (x y z : ℕ → Bool) (told : (h : ℕ) → h < s.messages → Told X K x y z h) where
  abbrev After : ℕ → List Happening → List ℕ → Type 0
  After n q w = Stage s X K r n q × (waits q ≡ waits r ++ w)

  module _ (n : ℕ) (q : List Happening) (t : Stage s X K r n q) (w : List ℕ) (e : waits q ≡ waits r ++ w) where
    unsent : X n → ¬ Has n (waits q)
    unsent u h = ⊎_elim (p.fresh n u) (λ k. let b : n < n = k.1 in omega arith) (t.only (sent n) (waited s n q t.run h).0)

    one_more : {a b c : Bool} → Says (X n) a → Says (X n × (¬ K n)) b → Says (X n × K n) c → After (suc n) (reverse_aux (step a b n) q) (w ++ cond c (n ∷ []) [])
    one_more (right u) (right v) (right k) = absurd (v.1 k.1)
    one_more (right u) (right v) (wrong nk) =
        (pass-one s law X K r ys p n q t u v.1, without_last n (waits q) (unsent u) ∙ e ∙ ap (λ l. waits r ++ l) (sym (append-nil w)))
    one_more (right u) (wrong nv) (right k) = (keep s law X K r ys p n q t u k.1, ap (λ l. l ++ n ∷ []) e ∙ append_assoc (waits r) w (n ∷ []))
    one_more (right u) (wrong nv) (wrong nk) = absurd (nv (u, λ k. nk (u, k)))
    one_more (wrong nu) (right v) sk = absurd (nu v.0)
    one_more (wrong nu) (wrong nv) (right k) = absurd (nu k.0)
    one_more (wrong nu) (wrong nv) (wrong nk) = (skip s law X K r ys p n q t nu, e ∙ ap (λ l. waits r ++ l) (sym (append-nil w)))

  pub pass_phase : (n : ℕ) → n ≤ s.messages → Stage s X K r n (reverse_aux (pass x y n) r) × (waits (reverse_aux (pass x y n) r) ≡ waits r ++ upward z n)
  pass_phase zero l = (record { run = p.run; on = stay; done = λ e d b. absurd (omega arith); only = λ e h. inl h }, sym (append-nil (waits r)))
  pass_phase (suc n) l =
      let ih = pass_phase n (omega arith) in
      let u = told n (omega arith) in
      subst (λ q. After (suc n) q (upward z (suc n))) (sym (reverse_aux-append (pass x y n) (step (x n) (y n) n) r))
      (one_more n (reverse_aux (pass x y n) r) ih.0 (upward z n) ih.1 u.0 u.1 u.2)

pub upward_none : (k : ℕ) → upward (λ h. false) k ≡ []
upward_none zero = refl
upward_none (suc k) = append-nil (upward (λ h. false) k) ∙ upward_none k

-- receipts send nothing
pub only_receipts : (w : List ℕ) (r : List Happening) (m : ℕ) → Has (sent m) (reverse_aux (map received w) r) → Has (sent m) r
only_receipts [] r m h = h
only_receipts (x ∷ w) r m h = ⊎_elim (λ e. absurd (send_not_receipt e)) (λ k. k) (only_receipts w (received x ∷ r) m h)

-- lists read backwards
module _ {X : Type 0} where
  pub has_back : (x : X) (l r : List X) → Has x (reverse_aux l r) ↔ (Has x l ⊎ Has x r)
  has_back x [] r = (inr, ⊎_elim absurd (λ h. h))
  has_back x (y ∷ l) r =
      let ih = has_back x l (y ∷ r) in (
        (λ h. ⊎_elim (λ k. inl (inr k)) (⊎_elim (λ e. inl (inl e)) inr) (ih.0 h)),
        λ h. ih.1 (⊎_elim (⊎_elim (λ e. inr (inl e)) inl) (λ k. inr (inr k)) h),
      )

  pub once_back : (l r : List X) → Once (reverse_aux l r) → Once r × Once l × ((x : X) → Has x l → ¬ Has x r)
  once_back [] r o = (o, tt, λ x h. absurd h)
  once_back (y ∷ l) r o =
      let ih = once_back l (y ∷ r) o in
      (ih.0.1, ((λ h. ih.2 y h (inl refl)), ih.1), λ x. ⊎_elim (λ e k. ih.0.0 (subst (λ v. Has v r) e k)) (λ h k. ih.2 x h (inr k)))

-- how many events a pass fires
abbrev one : Bool → ℕ
one b = cond b 1 0

step_length : (a b : Bool) (h : ℕ) → length (step a b h) ≡ one a + one b
step_length true true h = refl
step_length true false h = refl
step_length false true h = refl
step_length false false h = refl

pass_length : (x y : ℕ → Bool) (k : ℕ) → length (pass x y (suc k)) ≡ length (pass x y k) + (one (x k) + one (y k))
pass_length x y k = length-append (pass x y k) (step (x k) (y k) k) ∙ ap (λ v. length (pass x y k) + v) (step_length (x k) (y k) k)

-- four passes that share the messages fire two events of each
module _ (a b c : ℕ → Bool) where
  shares :
      (l f t : Bool) →
      (one (l && not f) + one (l && not f)) + ((one (l && f) + one ((l && f) && not t)) + ((one false + one ((l && f) && t)) + (one (not l) + one (not l)))) ≡ 2
  shares true true true = refl
  shares true true false = refl
  shares true false t = refl
  shares false f t = refl

  pub four_lengths :
      (k : ℕ) →
      length (pass (λ h. a h && not (b h)) (λ h. a h && not (b h)) k)
      + (length (pass (λ h. a h && b h) (λ h. (a h && b h) && not (c h)) k)
      + (length (pass (λ h. false) (λ h. (a h && b h) && c h) k)
      + length (pass (λ h. not (a h)) (λ h. not (a h)) k)))
      ≡ 2 * k
  four_lengths zero = refl
  four_lengths (suc k) =
      let ih = four_lengths k in
      let p₁ = pass_length (λ h. a h && not (b h)) (λ h. a h && not (b h)) k in
      let p₂ = pass_length (λ h. a h && b h) (λ h. (a h && b h) && not (c h)) k in
      let p₃ = pass_length (λ h. false) (λ h. (a h && b h) && c h) k in
      let p₄ = pass_length (λ h. not (a h)) (λ h. not (a h)) k in
      let two = shares (a k) (b k) (c k) in
      omega arith
