-- The enforced order runs along out(0), in(0), out(1), in(1), ...; and it is told by its last step.
use Rattle.std.proofs.Common.{◌≡◌, ℕ, ◌*◌, ◌<◌, T, ◌⊎◌, sym, refl, subst, inl, inr, arith}
use Rattle.chart.specs.Content.{Happening, sent, received, message_of}
use Rattle.order.specs.Order.{Scene, Laws, Enforced, drawn, own, held, chain}
use Rattle.order.specs.Statements.{turn}

turn_below : (e : Happening) (n : ℕ) → message_of e < n → turn e < 2 * n
turn_below (sent m) n h = omega arith
turn_below (received m) n h = omega arith

-- e is g, or comes before it
abbrev pub UpTo : Scene → Happening → Happening → Type 0
UpTo s e g = (e ≡ g) ⊎ Enforced s e g

-- e comes before f by a last step of one of the three rules
abbrev pub LastStep : Scene → Happening → Happening → Type 0
LastStep s e (sent n) = (g : Happening) × T (s.local g n) × UpTo s e g
LastStep s e (received n) =
    ((n < s.messages) × UpTo s e (sent n))
    ⊎ ((m : ℕ) × Enforced s (sent m) (sent n) × T (s.holds m n) × UpTo s e (received m))

module _ (s : Scene) where
  further : {e f g : Happening} → Enforced s e f → UpTo s f g → UpTo s e g
  further {e} d (inl p) = inr (subst (λ x. Enforced s e x) p d)
  further d (inr k) = inr (chain d k)

  pub last_step : {e f : Happening} → Enforced s e f → LastStep s e f
  last_step (drawn {e} l) = (e, l, inl refl)
  last_step (own i) = inl (i, inl refl)
  last_step (held {m} d h) = inr (m, d, h, inl refl)
  last_step (chain {e} {f} {g} d₁ d₂) = go g (last_step d₂)
    where
      go : (g : Happening) → LastStep s f g → LastStep s e g
      go (sent n) (x, l, u) = (x, l, further d₁ u)
      go (received n) (inl (i, u)) = inl (i, further d₁ u)
      go (received n) (inr (m, d, h, u)) = inr (m, d, h, further d₁ u)

  onto : {e f g : Happening} → UpTo s e f → Enforced s f g → Enforced s e g
  onto {g} (inl p) d = subst (λ x. Enforced s x g) (sym p) d
  onto (inr k) d = chain k d

  pub from_last_step : (e f : Happening) → LastStep s e f → Enforced s e f
  from_last_step e (sent n) (g, l, u) = onto u (drawn l)
  from_last_step e (received n) (inl (i, u)) = onto u (own i)
  from_last_step e (received n) (inr (m, d, h, u)) = onto u (held d h)

module _ (s : Scene) (law : Laws s) where
  pub along : {e f : Happening} → Enforced s e f → turn e < turn f
  along (drawn {e} {n} l) = turn_below e n (law.low e n l)
  along (own i) = omega arith
  along (held d h) = let k = along d in omega arith
  along (chain d₁ d₂) = let k₁ = along d₁ in let k₂ = along d₂ in omega arith

  pub sends_rise : {m n : ℕ} → Enforced s (sent m) (sent n) → m < n
  sends_rise d = let k = along d in omega arith

  pub no_loop : (m : ℕ) → Enforced s (sent m) (sent m) → ⊥
  no_loop m d = let k = along d in omega arith

  -- what comes after another event is an event of the scene
  pub order_inside : {e f : Happening} → Enforced s e f → message_of f < s.messages
  order_inside (drawn {e} {n} l) = law.inside e n l
  order_inside (own i) = i
  order_inside (held d h) = order_inside d
  order_inside (chain d₁ d₂) = order_inside d₂

  -- the message of what stands above an out event is sent before it
  pub above_sent : (e : Happening) (n : ℕ) → T (s.local e n) → Enforced s (sent (message_of e)) (sent n)
  above_sent (sent m) n l = drawn l
  above_sent (received m) n l =
      let a : m < n = law.low (received m) n l in
      let b : n < s.messages = law.inside (received m) n l in
      chain (own (omega arith)) (drawn l)
