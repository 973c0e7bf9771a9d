-- The least number of messages that must wait at once in a run that has one event before another.
use Rattle.std.proofs.Common.{◌≡◌, ℕ, ◌<◌, ◌≤◌, ◌⊎◌, List, [], ◌∷◌, ◌++◌, length, refl, inl, inr, ⊎_elim, arith}
use Rattle.chart.specs.Content.{Happening, sent, received, message_of}
use Rattle.order.specs.Lists.{Has, without}
use Rattle.order.specs.Order.{Scene, Laws, Enforced, drawn, own, held, chain}
use Rattle.order.specs.Runs.{waits, Run, cleared, fired, Reversed, Reverses, CanReverse, peak}
use Rattle.order.specs.Reversible.{Crowd, CrowdFits, Reversible, LeastWaiting}
use Rattle.order.specs.Statements.{LeastPeak}
use Rattle.order.proofs.Lists.{length_push, without_le}
use Rattle.order.specs.Pass.{rows}
use Rattle.order.proofs.Pass.{enforced?, crowd_of, no_longer, all_right}
use Rattle.order.proofs.Phases.{Onward, stay, more}
use Rattle.order.proofs.Exact.{at_reversal, crowd_met, sent_before, sufficient}

-- the same scene with another capacity
abbrev pub narrowed : Scene → ℕ → Scene
narrowed s k = record { messages = s.messages; local = s.local; holds = s.holds; capacity = k }

module _ (s : Scene) (k : ℕ) where
  pub order_kept : {e f : Happening} → Enforced s e f → Enforced (narrowed s k) e f
  order_kept (drawn l) = drawn l
  order_kept (own i) = own i
  order_kept (held d h) = held (order_kept d) h
  order_kept (chain d₁ d₂) = chain (order_kept d₁) (order_kept d₂)

  pub order_back : {e f : Happening} → Enforced (narrowed s k) e f → Enforced s e f
  order_back (drawn l) = drawn l
  order_back (own i) = own i
  order_back (held d h) = held (order_back d) h
  order_back (chain d₁ d₂) = chain (order_back d₁) (order_back d₂)

  pub crowd_kept : {m n : ℕ} {hs : List ℕ} → Crowd s m n hs → Crowd (narrowed s k) m n hs
  crowd_kept c = record {
    once = c.once;
    first = c.first;
    second = c.second;
    between = λ h b. c.between h (order_back b.0, order_back b.1, b.2);
    no_other = λ h z. ⊎_elim inl (⊎_elim (λ e. inr (inl e)) (λ b. inr (inr (order_kept b.0, order_kept b.1, b.2)))) (c.no_other h z);
  }

  pub narrowed_laws : Laws s → 0 < k → Laws (narrowed s k)
  narrowed_laws law room = record { low = law.low; inside = law.inside; passes = law.passes; room = room }

  -- a run with less room is a run
  pub run_back : k ≤ s.capacity → (r : List Happening) → Run (narrowed s k) r → Run s r
  run_back l [] run = cleared
  run_back l (sent n ∷ r) (fired run c) =
      fired (run_back l r run) (record { inside = c.inside; fresh = c.fresh; local = c.local; room = (let b : length (waits r) < k = c.room in omega arith) })
  run_back l (received n ∷ r) (fired run c) = fired (run_back l r run) (record { fresh = c.fresh; after = c.after; free = c.free })

-- no more wait than may
pub peak_room : (s : Scene) (r : List Happening) → Run s r → (length (waits r) ≤ s.capacity) × (peak r ≤ s.capacity)
peak_room s [] run = (omega arith, omega arith)
peak_room s (sent n ∷ r) (fired run c) =
    let ih = peak_room s r run in
    let p : peak r ≤ s.capacity = ih.1 in
    let l : length (waits r) < s.capacity = c.room in
    let e = length_push n (waits r) in
    let h : length (waits r ++ n ∷ []) ≤ s.capacity = omega arith in
    (h, omega arith)
peak_room s (received n ∷ r) (fired run c) =
    let ih = peak_room s r run in
    let p : peak r ≤ s.capacity = ih.1 in
    let l : length (waits r) ≤ s.capacity = ih.0 in
    let e = without_le n (waits r) in
    let h : length (without n (waits r)) ≤ s.capacity = omega arith in
    (h, omega arith)

peak_now : (r : List Happening) → length (waits r) ≤ peak r
peak_now [] = omega arith
peak_now (e ∷ r) = omega arith

peak_onward : {r r' : List Happening} → Onward r r' → peak r ≤ peak r'
peak_onward stay = omega arith
peak_onward (more {e} {r'} o) = let l = peak_onward o in let m : peak r' ≤ peak (e ∷ r') = omega arith in omega arith

module _ (s : Scene) (law : Laws s) (a : Happening) (n : ℕ) (i : n < s.messages) (v : Reversible s a (received n)) where
  -- whatever has n received had n wait
  waits_once_sent : (r : List Happening) → Run s r → Reversed a (received n) r → 1 ≤ peak r
  waits_once_sent r run z =
      let t = at_reversal s run z in
      let u = sent_before s law n t.0 t.1 in
      let low : length (waits (sent n ∷ u.0)) ≤ peak (sent n ∷ u.0) = peak_now (sent n ∷ u.0) in
      let e = length_push n (waits u.0) in
      let p₁ : peak (sent n ∷ u.0) ≤ peak (received n ∷ t.0) = peak_onward (more {e = received n} u.2) in
      let p₂ : peak (received n ∷ t.0) ≤ peak r = peak_onward t.3 in
      omega arith

  Found : ℕ → Type 0
  Found k = (r : List Happening) × Reverses s a (received n) r × (peak r ≡ k)

  -- a run with room for just k has no more waiting, and every run has at least k
  found : (k : ℕ) → k ≤ s.capacity → ((r : List Happening) → Run s r → Reversed a (received n) r → k ≤ peak r) → CanReverse (narrowed s k) a (received n) → Found k
  unfolding Found
  found k l least (r, w) =
      let run : Run s r = run_back s k l r w.run in
      let high : peak r ≤ k = (peak_room (narrowed s k) r w.run).1 in
      let low : k ≤ peak r = least r run w.reversed in
      (r, record { run = run; complete = w.complete; reversed = w.reversed }, omega arith)

  Answer : Type 0
  Answer = (k : ℕ) × LeastWaiting s a (received n) k × ((r : List Happening) × Reverses s a (received n) r × (peak r ≡ k)) × ((r : List Happening) → Run s r → Reversed a (received n) r → k ≤ peak r)

  alone : ¬ Enforced s (sent (message_of a)) (sent n) → Answer
  unfolding Answer Found
  alone nd =
      let room : 0 < s.capacity = law.room in (
        1,
        inl (nd, refl),
        found 1 (omega arith) waits_once_sent
            (sufficient (narrowed s 1) (narrowed_laws s 1 law (omega arith)) n i a ((λ d. v.0 (order_back s 1 d)), inl (λ d. nd (order_back s 1 d)))),
        waits_once_sent,
      )

module _ (s : Scene) (law : Laws s) (n : ℕ) (i : n < s.messages) where
  crowded : (a : Happening) (v : Reversible s a (received n)) → (d : Enforced s (sent (message_of a)) (sent n)) → Answer s law a n i v
  unfolding Answer Found
  crowded (sent m) v d = absurd (v.0 (chain d (own i)))
  crowded (received m) (nd, c) d =
      let t = crowd_of s law m n d in (
        length t.0,
        inr (d, (t.0, t.1, refl)),
        found s law (received m) n i (nd, c) (length t.0) (fit c) least
            (sufficient (narrowed s (length t.0)) (narrowed_laws s (length t.0) law (some t.0 t.1.first)) n i (received m)
            ((λ e. nd (order_back s (length t.0) e)), inr (t.0, crowd_kept s (length t.0) t.1, omega arith))),
        least,
      )
    where
      some : (hs : List ℕ) → Has m hs → 0 < length hs
      some [] h = absurd h
      some (x ∷ hs) h = omega arith

      least : (r : List Happening) → Run s r → Reversed (received m) (received n) r → length (crowd_of s law m n d).0 ≤ peak r
      least r run z =
          let t = crowd_of s law m n d in
          let u = crowd_met s law m n r run z d t.0 t.1 in
          let low : length (waits (sent n ∷ u.0)) ≤ peak (sent n ∷ u.0) = peak_now (sent n ∷ u.0) in
          let on : peak (sent n ∷ u.0) ≤ peak r = peak_onward u.2 in
          let l : length t.0 ≤ length (waits (sent n ∷ u.0)) = u.3 in
          omega arith

      fit : (¬ Enforced s (sent m) (sent n)) ⊎ CrowdFits s m n → length (crowd_of s law m n d).0 ≤ s.capacity
      fit (inl nx) = absurd (nx d)
      fit (inr (ks, k, l)) =
          let t = crowd_of s law m n d in
          let le : length t.0 ≤ length ks = no_longer s law (rows s s.messages) (all_right s law) m n t.0 ks t.1 k in
          omega arith

  least_peak_of : (a : Happening) (v : Reversible s a (received n)) → Answer s law a n i v
  least_peak_of a v = go (enforced? s law (sent (message_of a)) (sent n))
    where
      go : Dec (Enforced s (sent (message_of a)) (sent n)) → Answer s law a n i v
      go (yes d) = crowded a v d
      go (no nd) = alone s law a n i v nd

pub least_peak : (s : Scene) → Laws s → LeastPeak s
unfolding Answer
least_peak s law a n i v = least_peak_of s law n i a v
