-- A delivery that keeps the messages of a run accepts just the firings that may follow.
use Rattle.std.proofs.Common.{◌≡◌, ℕ, Bool, true, false, T, eqb, ◌≢◌, ◌⊎◌, ◌↔◌, List, [], ◌∷◌, ◌++◌, length, Some, None, sym, refl, ap, ◌∙◌, subst, inl, inr, ⊎_elim, arith}
use Rattle.std.proofs.lemmas.Bool.{eq-eqb, ne_eqb, cond-true, cond-false, or_left, or_right, or_from}
use Rattle.chart.specs.Content.{Content}
use Rattle.delivery.specs.declared.parcel.Tag.{Tag}
use Rattle.delivery.specs.Waiting as delivery
use Rattle.order.specs.Lists.{Has, Once, Ahead, without}
use Rattle.order.specs.Scenes.{tag_of}
use Rattle.order.specs.Parcels.{parcel_of_message, parcels}
use Rattle.order.proofs.Lists.{Told, equal, apart, tell, without_absent, ahead_second}

module _ (c : Content) where
  pub parcels_length : (w : List ℕ) → length (parcels c w) ≡ length w
  parcels_length [] = refl
  parcels_length (x ∷ w) = let ih = parcels_length w in omega arith

  pub parcels_push : (n : ℕ) (w : List ℕ) → parcels c w ++ parcel_of_message c n ∷ [] ≡ parcels c (w ++ n ∷ [])
  parcels_push n [] = refl
  parcels_push n (x ∷ w) = ap (λ l. parcel_of_message c x ∷ l) (parcels_push n w)

  module _ (n : ℕ) where
    here : {x : ℕ} → n ≡ x → eqb x n ≡ true
    here e = eq-eqb _ n (sym e)

    other : {x : ℕ} → n ≢ x → eqb x n ≡ false
    other ne = ne_eqb _ n (λ e. ne (sym e))

    pub waits_in_has : (w : List ℕ) → Has n w → delivery.waits_in n (parcels c w) ≡ true
    waits_in_has [] h = absurd h
    waits_in_has (x ∷ w) (inl e) = or_left (eqb x n) (delivery.waits_in n (parcels c w)) (here e)
    waits_in_has (x ∷ w) (inr h) = or_right (eqb x n) (delivery.waits_in n (parcels c w)) (waits_in_has w h)

    pub waits_in_not : (w : List ℕ) → ¬ Has n w → delivery.waits_in n (parcels c w) ≡ false
    waits_in_not [] h = refl
    waits_in_not (x ∷ w) h = or_from (eqb x n) (delivery.waits_in n (parcels c w)) (other (λ e. h (inl e))) (waits_in_not w (λ k. h (inr k)))

    pub parcel_of_has : (w : List ℕ) → Has n w → delivery.parcel_of n (parcels c w) ≡ Some (parcel_of_message c n)
    parcel_of_has [] h = absurd h
    parcel_of_has (x ∷ w) h = go (parcel_of_has w) (tell n x) h
      where
        go : (Has n w → delivery.parcel_of n (parcels c w) ≡ Some (parcel_of_message c n)) → Told n x → (n ≡ x) ⊎ Has n w → delivery.parcel_of n (parcels c (x ∷ w)) ≡ Some (parcel_of_message c n)
        go ih (equal e p) h = cond-true (eqb x n) (Some (parcel_of_message c x)) (delivery.parcel_of n (parcels c w)) (here p) ∙ ap (λ y. Some (parcel_of_message c y)) (sym p)
        go ih (apart e p) (inl q) = absurd (p q)
        go ih (apart e p) (inr h) = cond-false (eqb x n) (Some (parcel_of_message c x)) (delivery.parcel_of n (parcels c w)) (other p) ∙ ih h

    pub parcels_without : (w : List ℕ) → Once w → delivery.without n (parcels c w) ≡ parcels c (without n w)
    parcels_without [] o = refl
    parcels_without (x ∷ w) o = go (parcels_without w o.1) (tell n x)
      where
        go : delivery.without n (parcels c w) ≡ parcels c (without n w) → Told n x → delivery.without n (parcels c (x ∷ w)) ≡ parcels c (without n (x ∷ w))
        go ih (equal e p) =
            cond-true (eqb x n) (parcels c w) (parcel_of_message c x ∷ delivery.without n (parcels c w)) (here p)
            ∙ ap (parcels c) (sym (cond-true (eqb n x) (without n w) (x ∷ without n w) e ∙ without_absent n w (λ h. o.0 (subst (λ z. Has z w) p h))))
        go ih (apart e p) =
            cond-false (eqb x n) (parcels c w) (parcel_of_message c x ∷ delivery.without n (parcels c w)) (other p)
            ∙ ap (λ l. parcel_of_message c x ∷ l) ih
            ∙ ap (parcels c) (sym (cond-false (eqb n x) (without n w) (x ∷ without n w) e))

    module _ (rule : Tag → Tag → Bool) where
      -- no holder is named exactly if nothing ahead of n holds it
      pub unheld : (w : List ℕ) → Once w → Has n w → (delivery.first_holder rule (tag_of c n) (delivery.ahead_of n (parcels c w)) ≡ None) ↔ ((m : ℕ) → Ahead m n w → ¬ T (rule (tag_of c m) (tag_of c n)))
      unheld [] o h = absurd h
      unheld (x ∷ w) o h = go (unheld w o.1) (tell n x) (rule (tag_of c x) (tag_of c n)) refl h
        where
          go :
              (Has n w → (delivery.first_holder rule (tag_of c n) (delivery.ahead_of n (parcels c w)) ≡ None) ↔ ((m : ℕ) → Ahead m n w → ¬ T (rule (tag_of c m) (tag_of c n)))) →
              Told n x → (b : Bool) → rule (tag_of c x) (tag_of c n) ≡ b → (n ≡ x) ⊎ Has n w →
              (delivery.first_holder rule (tag_of c n) (delivery.ahead_of n (parcels c (x ∷ w))) ≡ None) ↔ ((m : ℕ) → Ahead m n (x ∷ w) → ¬ T (rule (tag_of c m) (tag_of c n)))
          go ih (equal e p) b q h =
              let nw : ¬ Has n w = λ k. o.0 (subst (λ z. Has z w) p k) in
              ((λ z m. ⊎_elim (λ f. absurd (nw f.1)) (λ f. absurd (nw (ahead_second m n w f)))), λ f. rw (here p) refl)
          go ih (apart e p) b q (inl z) = absurd (p z)
          go ih (apart e p) true q (inr h) = (
            (λ z. absurd (let u : Some (parcel_of_message c x).message ≡ None = rw (other p, q) at z in let v : ◌≡◌ {A = ℕ} 0 1 = cc in omega arith)),
            λ f. absurd (f x (inl (refl, h)) (rw q tt)),
          )
          go ih (apart e p) false q (inr h) = (
            (λ z m. ⊎_elim (λ f. subst (λ y. ¬ T (rule (tag_of c y) (tag_of c n))) (sym f.0) (λ u. subst T q u)) (λ f. (ih h).0 (rw (other p, q) at z) m f)),
            λ f. rw (other p, q) ((ih h).1 (λ m k. f m (inr k))),
          )
