-- The report has exactly the reversible pairs, each once and in order.
use Rattle.std.proofs.Common.{◌≡◌, ℕ, zero, suc, ◌<◌, Bool, true, false, cond, ◌&&◌, T, eqb, ltb, ◌↔◌, List, [], ◌∷◌, ◌++◌, map, length, sym, refl, ap, ◌∙◌, subst, inl, inr, ⊎_elim, arith, eqb→eq, ltb→lt, lt→ltb}
use lib.Dec.{eqb_refl}
use Rattle.chart.specs.Content.{Content}
use Rattle.delivery.specs.declared.parcel.Tag.{Tag}
use Rattle.order.specs.Lists.{Has, Earlier, Rising}
use Rattle.order.specs.Order.{Laws}
use Rattle.order.specs.Pass.{rows, turns}
use Rattle.order.specs.Reversible.{Reversible}
use Rattle.order.specs.Scenes.{Laid, instance_of, scene_of, event_at, PairAt}
use Rattle.order.specs.Report.{Reports, upward, grid, is_reported, report}
use Rattle.order.proofs.Lists.{has_left, has_right, has_cases, below_suc}
use Rattle.order.proofs.Tests.{both, both_of}
use Rattle.order.proofs.Pass.{reverses_is}
use Rattle.order.proofs.Scenes.{event_inside}

one_if : (b : Bool) (n x : ℕ) → Has x (cond b (n ∷ []) []) ↔ ((x ≡ n) × T b)
one_if true n x = (⊎_elim (λ e. (e, tt)) (λ z. absurd z), λ t. inl t.0)
one_if false n x = ((λ z. absurd z), λ t. absurd t.1)

upward_is : (p : ℕ → Bool) (n x : ℕ) → Has x (upward p n) ↔ ((x < n) × T (p x))
upward_is p zero x = ((λ z. absurd z), λ t. let b : x < 0 = t.0 in absurd (omega arith))
upward_is p (suc n) x = go (upward_is p n x) (one_if (p n) n x)
  where
    go : (Has x (upward p n) ↔ ((x < n) × T (p x))) → (Has x (cond (p n) (n ∷ []) []) ↔ ((x ≡ n) × T (p n))) → (Has x (upward p (suc n)) ↔ ((x < suc n) × T (p x)))
    go ih one = (
      (λ h.
          ⊎_elim (λ k. let y = ih.0 k in let b : x < n = y.0 in (omega arith, y.1))
          (λ k. let y = one.0 k in let b : x ≡ n = y.0 in (omega arith, subst (λ z. T (p z)) (sym b) y.1))
          (has_cases x (upward p n) (cond (p n) (n ∷ []) []) h)),
      λ t.
          ⊎_elim (λ b. has_left x (upward p n) (cond (p n) (n ∷ []) []) (ih.1 (b, t.1)))
          (λ e. has_right x (upward p n) (cond (p n) (n ∷ []) []) (one.1 (e, subst (λ z. T (p z)) e t.1)))
          (below_suc x n t.0),
    )

-- the pairs of x with the numbers of a list
abbrev beside : ℕ → List ℕ → List (ℕ × ℕ)
beside x l = map (λ y. (x, y)) l

beside_is : (a : ℕ) (l : List ℕ) (x y : ℕ) → Has {X = ℕ × ℕ} (x, y) (beside a l) ↔ ((x ≡ a) × Has y l)
beside_is a [] x y = ((λ z. absurd z), λ t. absurd t.1)
beside_is a (b ∷ l) x y =
    let ih = beside_is a l x y in (
      ⊎_elim (λ e. (ap (λ t. t.0) e, inl (ap (λ t. t.1) e))) (λ h. ((ih.0 h).0, inr (ih.0 h).1)),
      λ t. ⊎_elim (λ e. inl (λ i. (t.0 i, e i))) (λ h. inr (ih.1 (t.0, h))) t.1,
    )

grid_is : (p : ℕ → ℕ → Bool) (n m x y : ℕ) → Has {X = ℕ × ℕ} (x, y) (grid p n m) ↔ ((x < m) × (y < n) × T (p x y))
grid_is p n zero x y = ((λ z. absurd z), λ t. let b : x < 0 = t.0 in absurd (omega arith))
grid_is p n (suc a) x y = go (grid_is p n a x y) (beside_is a (upward (p a) n) x y) (upward_is (p a) n y)
  where
    go :
        (Has {X = ℕ × ℕ} (x, y) (grid p n a) ↔ ((x < a) × (y < n) × T (p x y))) → (Has {X = ℕ × ℕ} (x, y) (beside a (upward (p a) n)) ↔ ((x ≡ a) × Has y (upward (p a) n))) →
        (Has y (upward (p a) n) ↔ ((y < n) × T (p a y))) → (Has {X = ℕ × ℕ} (x, y) (grid p n (suc a)) ↔ ((x < suc a) × (y < n) × T (p x y)))
    go ih one up = (
      (λ h.
          ⊎_elim (λ k. let z = ih.0 k in let b : x < a = z.0 in (omega arith, z.1, z.2))
          (λ k. let z = one.0 k in let w = up.0 z.1 in let b : x ≡ a = z.0 in (omega arith, w.0, subst (λ v. T (p v y)) (sym b) w.1))
          (has_cases (x, y) (grid p n a) (beside a (upward (p a) n)) h)),
      λ t.
          ⊎_elim (λ b. has_left (x, y) (grid p n a) (beside a (upward (p a) n)) (ih.1 (b, t.1, t.2)))
          (λ e. has_right (x, y) (grid p n a) (beside a (upward (p a) n)) (one.1 (e, up.1 (t.1, subst (λ v. T (p v y)) e t.2))))
          (below_suc x a t.0),
    )

-- a list that rises, then another that rises and is wholly after it
rising_join : (ps qs : List (ℕ × ℕ)) → Rising ps → Rising qs → ((u v : ℕ × ℕ) → Has u ps → Has v qs → Earlier u v) → Rising (ps ++ qs)
rising_join [] qs r t k = t
rising_join (p ∷ ps) qs r t k =
    ((λ v h. ⊎_elim (r.0 v) (k p v (inl refl)) (has_cases v ps qs h)), rising_join ps qs r.1 t (λ u v h g. k u v (inr h) g))

upward_rising : (a : ℕ) (p : ℕ → Bool) (n : ℕ) → Rising (beside a (upward p n))
upward_rising a p zero = tt
upward_rising a p (suc n) = rw (map_join (upward p n) (cond (p n) (n ∷ []) [])) (rising_join (beside a (upward p n)) (beside a (cond (p n) (n ∷ []) [])) (upward_rising a p n) (one (p n)) after)
  where
    map_join : (l k : List ℕ) → beside a (l ++ k) ≡ beside a l ++ beside a k
    map_join [] k = refl
    map_join (x ∷ l) k = ap (λ t. (a, x) ∷ t) (map_join l k)

    one : (b : Bool) → Rising (beside a (cond b (n ∷ []) []))
    one true = ((λ q h. absurd h), tt)
    one false = tt

    after : (u v : ℕ × ℕ) → Has u (beside a (upward p n)) → Has v (beside a (cond (p n) (n ∷ []) [])) → Earlier u v
    after (u₀, u₁) (v₀, v₁) h g =
        let x = (beside_is a (upward p n) u₀ u₁).0 h in
        let y = (beside_is a (cond (p n) (n ∷ []) []) v₀ v₁).0 g in
        let lu : u₁ < n = ((upward_is p n u₁).0 x.1).0 in
        let ev : v₁ ≡ n = ((one_if (p n) n v₁).0 y.1).0 in
        inr (x.0 ∙ sym y.0, omega arith)

grid_rising : (p : ℕ → ℕ → Bool) (n m : ℕ) → Rising (grid p n m)
grid_rising p n zero = tt
grid_rising p n (suc a) = rising_join (grid p n a) (beside a (upward (p a) n)) (grid_rising p n a) (upward_rising a (p a) n) after
  where
    after : (u v : ℕ × ℕ) → Has u (grid p n a) → Has v (beside a (upward (p a) n)) → Earlier u v
    after (u₀, u₁) (v₀, v₁) h g =
        let l : u₀ < a = ((grid_is p n a u₀ u₁).0 h).0 in
        let e : v₀ ≡ a = ((beside_is a (upward (p a) n) v₀ v₁).0 g).0 in
        inl (omega arith)

pub reports : (c : Content) (rule : Tag → Tag → Bool) (room : ℕ) → Laid c → Laws (scene_of c rule room) → Reports c rule room (report c rule room)
reports c rule room laid law = record { rising = grid_rising _ (length c.events) (length c.events); exact = exact }
  where
    exact : (a b : ℕ) → Has {X = ℕ × ℕ} (a, b) (report c rule room) ↔ (PairAt c a b × Reversible (scene_of c rule room) (event_at c a) (event_at c b))
    exact a b =
        let s = scene_of c rule room in
        let t = rows s (length c.messages) in
        let u = grid_is (is_reported c s t) (length c.events) (length c.events) a b in
        let lt = ltb a b in
        let together = eqb (instance_of c (event_at c a)) (instance_of c (event_at c b)) in
        let turned = turns s t (event_at c a) (event_at c b) in (
          (λ h.
              let x = u.0 h in
              let y = both_of (lt && together) turned x.2 in
              let z = both_of lt together y.0 in (
                record { drawn = ltb→lt a b z.0; inside = x.1; together = eqb→eq (instance_of c (event_at c a)) (instance_of c (event_at c b)) z.1 },
                (reverses_is s law (event_at c a) (event_at c b) (event_inside c laid b x.1)).0 y.1,
              )),
          λ (p, v).
              let d : a < b = p.drawn in
              let i : b < length c.events = p.inside in
              let j : a < length c.events = omega arith in
              u.1 (
                j,
                i,
                both (lt && together) turned (both lt together (lt→ltb a b d) (rw p.together (eqb_refl (instance_of c (event_at c b)))))
                    ((reverses_is s law (event_at c a) (event_at c b) (event_inside c laid b i)).1 v),
              ),
        )
