-- The stages are the passes of the plan, and their records stand one after another.
use Rattle.std.proofs.Common.{◌≡◌, ℕ, zero, suc, ◌*◌, ◌<◌, ◌≤◌, Bool, false, cond, not, ◌&&◌, ◌||◌, eqb, List, [], ◌∷◌, ◌++◌, length, sym, refl, ap, ◌∙◌, ap₂, inl, inr, append_assoc, arith, length-append}
use Rattle.std.proofs.lemmas.Bool.{cases_lt, lt-ltb}
use Rattle.chart.specs.Content.{Happening, sent, received, Content}
use Rattle.matrix.specs.Places.{place_of}
use Rattle.matrix.specs.Models.{has}
use Rattle.matrix.specs.declared.sets.EventSet.{EventSet}
use Rattle.order.specs.Order.{Scene}
use Rattle.schedules.specs.Plan.{pass, leads, follows, stuck, sent_first, schedule_of}
use Rattle.scheduling.specs.Firings.{firing, firings}
use Rattle.analysis.specs.Outlooks.{Outlooks}
use Rattle.scheduling.specs.Passes.{has_out, leads_in, follows_in, stuck_in, sends, listed}
use Rattle.analysis.specs.declared.outlook.Outlook.{Outlook}
use Rattle.scheduling.specs.declared.passes.Stage.TheVariants.{Early, Late, Other}

module _ (c : Content) where
  pub firings_append : (xs ys : List Happening) → firings c (xs ++ ys) ≡ firings c xs ++ firings c ys
  firings_append [] ys = refl
  firings_append (x ∷ xs) ys = ap (λ (t : List ℕ). firing c x ++ t) (firings_append xs ys) ∙ sym (append_assoc (firing c x) (firings c xs) (firings c ys))

  pub length_firings : (xs : List Happening) → length (firings c xs) ≡ 2 * length xs
  length_firings [] = refl
  length_firings (x ∷ xs) = let e = length_firings xs in omega (arith, length-append (firing c x) (firings c xs))

-- passes grow
pub pass_grows : (x y : ℕ → Bool) (h k : ℕ) → h ≤ k → length (pass x y h) ≤ length (pass x y k)
pass_grows x y h zero l = let z : h ≡ 0 = omega arith in rw z (omega arith)
pass_grows x y h (suc k) l = elim (cases_lt k h) [
  | inl b ↦ let z : h ≡ suc k = omega arith in rw z (omega arith)
  | inr b ↦
      let ih = pass_grows x y h k b in
      let e = length-append (pass x y k) (cond (x k) (sent k ∷ []) [] ++ cond (y k) (received k ∷ []) []) in
      omega arith
]

-- and go by their tests alone
pub pass_same : (x y v w : ℕ → Bool) (k : ℕ) → ((h : ℕ) → h < k → x h ≡ v h) → ((h : ℕ) → h < k → y h ≡ w h) → pass x y k ≡ pass v w k
pass_same x y v w zero f g = refl
pass_same x y v w (suc k) f g =
    ap₂ (λ (s t : List Happening). s ++ t) (pass_same x y v w k (λ h l. f h (omega arith)) (λ h l. g h (omega arith)))
    (ap₂ (λ (s t : Bool). cond s (sent k ∷ []) [] ++ cond t (received k ∷ []) []) (f k (omega arith)) (g k (omega arith)))

module _ (s : Scene) (m n : ℕ) (o : Outlook) (told : Outlooks s m n o) (few : s.messages ≤ 64) (inside : m < s.messages) where
  out_same : (x : EventSet) (b : Bool) (h : ℕ) → h < s.messages → has x (place_of (sent h)) ≡ b → has_out x h ≡ b
  out_same x b h l e = ap (λ t. t && has x (place_of (sent h))) (lt-ltb h 64 (omega arith)) ∙ e

  leads_same : (h : ℕ) → h < s.messages → leads_in o h ≡ leads s (sent_first s) m n h
  leads_same h l = ap₂ (λ x y. eqb h x || y) told.second (out_same o.before _ h l (told.before h l))

  follows_same : (h : ℕ) → h < s.messages → follows_in o h ≡ follows s (sent_first s) m n h
  follows_same h l =
      ap₂ (λ x y. x && y) (ap (has_out o.before) told.first ∙ out_same o.before _ m inside (told.before m inside))
      (ap₂ (λ x y. eqb h x || y) told.first (out_same o.after _ h l (told.after h l)))

  stuck_same : (h : ℕ) → h < s.messages → stuck_in o h ≡ stuck s (sent_first s) m n h
  stuck_same h l = ap₂ (λ x y. eqb h x || y) told.first (out_same o.held _ h l (told.held h l))

  pub listed_planned : listed o s.messages ≡ schedule_of s m n
  listed_planned =
      let early : (h : ℕ) → h < s.messages → sends o Early h ≡ (leads s (sent_first s) m n h && not (follows s (sent_first s) m n h)) = λ h l. ap₂ (λ x y. x && not y) (leads_same h l) (follows_same h l) in
      let late : (h : ℕ) → h < s.messages → sends o Late h ≡ (leads s (sent_first s) m n h && follows s (sent_first s) m n h) = λ h l. ap₂ (λ x y. x && y) (leads_same h l) (follows_same h l) in
      let other : (h : ℕ) → h < s.messages → sends o Other h ≡ not (leads s (sent_first s) m n h) = λ h l. ap not (leads_same h l) in
      ap₂ (λ (x y : List Happening). x ++ y) (pass_same _ _ _ _ s.messages early early)
      (ap₂ (λ (x y : List Happening). x ++ y) (pass_same _ _ _ _ s.messages late (λ h l. ap₂ (λ x y. x && not y) (late h l) (stuck_same h l)))
      (ap₂ (λ (x y : List Happening). x ++ y) (pass_same (λ h. false) _ (λ h. false) _ s.messages (λ h l. refl) (λ h l. ap₂ (λ x y. x && y) (late h l) (stuck_same h l)))
      (pass_same _ _ _ _ s.messages other other)))
