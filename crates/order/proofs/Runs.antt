-- In every run, what is enforced before an event was fired before it.
use Rattle.std.proofs.Common.{ℕ, ◌<◌, T, ◌≢◌, ◌⊎◌, List, [], ◌∷◌, ◌++◌, sym, ap, subst, inl, inr, ⊎_elim}
use Rattle.chart.specs.Content.{Happening, sent, received, message_of}
use Rattle.order.specs.Lists.{Has, Once, Ahead}
use Rattle.order.specs.Order.{Scene, Enforced, drawn, own, held, chain}
use Rattle.order.specs.Runs.{waits, MayReceive, Run, fired}
use Rattle.order.proofs.Lists.{has_left, has_right, has_cases, without_keeps, without_kept, without_once, once_push, ahead_left, ahead_join, ahead_without}
use Rattle.order.proofs.Tests.{send_not_receipt, receipt_not_send, same_message, has?}

-- what was sent and not received waits
pub waiting : (m : ℕ) (r : List Happening) → Has (sent m) r → ¬ Has (received m) r → Has m (waits r)
waiting m [] h g = absurd h
waiting m (sent n ∷ r) (inl e) g = has_right m (waits r) (n ∷ []) (inl (same_message e))
waiting m (sent n ∷ r) (inr h) g = has_left m (waits r) (n ∷ []) (waiting m r h (λ k. g (inr k)))
waiting m (received n ∷ r) (inl e) g = absurd (send_not_receipt e)
waiting m (received n ∷ r) (inr h) g = without_keeps n m (waits r) (λ e. g (inl (ap received e))) (waiting m r h (λ k. g (inr k)))

module _ (s : Scene) where
  -- what was received was sent
  pub was_sent : (m : ℕ) (r : List Happening) → Run s r → Has (received m) r → Has (sent m) r
  was_sent m [] run h = absurd h
  was_sent m (sent n ∷ r) (fired run c) (inl e) = absurd (receipt_not_send e)
  was_sent m (sent n ∷ r) (fired run c) (inr h) = inr (was_sent m r run h)
  was_sent m (received n ∷ r) (fired run c) (inl e) = inr (subst (λ x. Has (sent x) r) (sym (same_message e)) c.after)
  was_sent m (received n ∷ r) (fired run c) (inr h) = inr (was_sent m r run h)

  -- what waits was sent and not received
  pub waited : (m : ℕ) (r : List Happening) → Run s r → Has m (waits r) → Has (sent m) r × (¬ Has (received m) r)
  waited m [] run h = absurd h
  waited m (sent n ∷ r) (fired run c) h = go (waited m r run) (has_cases m (waits r) (n ∷ []) h)
    where
      go : (Has m (waits r) → Has (sent m) r × (¬ Has (received m) r)) → Has m (waits r) ⊎ Has m (n ∷ []) → Has (sent m) (sent n ∷ r) × (¬ Has (received m) (sent n ∷ r))
      go ih (inl k) = (inr (ih k).0, ⊎_elim receipt_not_send (ih k).1)
      go ih (inr (inl e)) = (inl (ap sent e), ⊎_elim receipt_not_send (λ g. c.fresh (subst (λ x. Has (sent x) r) e (was_sent m r run g))))
      go ih (inr (inr z)) = absurd z
  waited m (received n ∷ r) (fired run c) h =
      let k : (m ≢ n) × Has m (waits r) = without_kept n m (waits r) h in
      let i : Has (sent m) r × (¬ Has (received m) r) = waited m r run k.1 in
      (inr i.0, ⊎_elim (λ e. k.0 (same_message e)) i.1)

  pub waits_once : (r : List Happening) → Run s r → Once (waits r)
  waits_once [] run = tt
  waits_once (sent n ∷ r) (fired run c) = once_push n (waits r) (waits_once r run) (λ h. c.fresh (waited n r run h).0)
  waits_once (received n ∷ r) (fired run c) = without_once n (waits r) (waits_once r run)

  pub run_once : (r : List Happening) → Run s r → Once r
  run_once [] run = tt
  run_once (sent n ∷ r) (fired run c) = (c.fresh, run_once r run)
  run_once (received n ∷ r) (fired run c) = (c.fresh, run_once r run)

  pub run_inside : (r : List Happening) → Run s r → (e : Happening) → Has e r → message_of e < s.messages
  run_inside [] run e h = absurd h
  run_inside (sent n ∷ r) (fired run c) e (inl p) = subst (λ x. message_of x < s.messages) (sym p) c.inside
  run_inside (sent n ∷ r) (fired run c) e (inr h) = run_inside r run e h
  run_inside (received n ∷ r) (fired run c) e (inl p) = subst (λ x. message_of x < s.messages) (sym p) (run_inside r run (sent n) c.after)
  run_inside (received n ∷ r) (fired run c) e (inr h) = run_inside r run e h

  -- an earlier part of a run is a run
  pub run_part : (q r : List Happening) → Run s (q ++ r) → Run s r
  run_part [] r run = run
  run_part (e ∷ q) r (fired run c) = run_part q r run

  -- what is there whenever f is fired is there in every record that has f
  pub carried : (e f : Happening) → ((r : List Happening) → Run s (f ∷ r) → Has e r) → (r : List Happening) → Run s r → Has f r → Has e r
  carried e f k [] run h = absurd h
  carried e f k (x ∷ r) (fired run c) (inl p) = inr (k r (subst (λ y. Run s (y ∷ r)) (sym p) (fired run c)))
  carried e f k (x ∷ r) (fired run c) (inr h) = inr (carried e f k r run h)

  -- two messages that wait stand in the order in which they were sent
  pub waits_ahead :
      (m n : ℕ) → ((r : List Happening) → Run s (sent n ∷ r) → Has (sent m) r) →
      (r : List Happening) → Run s r → Has (sent n) r → ¬ Has (received n) r → ¬ Has (received m) r → Ahead m n (waits r)
  waits_ahead m n k [] run h gn gm = absurd h
  waits_ahead m n k (sent x ∷ r) (fired run c) (inl p) gn gm =
      let h : Has (sent m) r = k r (subst (λ y. Run s (y ∷ r)) (sym p) (fired run c)) in
      ahead_join m n (waits r) (x ∷ []) (waiting m r h (λ g. gm (inr g))) (inl (same_message p))
  waits_ahead m n k (sent x ∷ r) (fired run c) (inr h) gn gm =
      ahead_left m n (waits r) (x ∷ []) (waits_ahead m n k r run h (λ g. gn (inr g)) (λ g. gm (inr g)))
  waits_ahead m n k (received x ∷ r) (fired run c) (inl p) gn gm = absurd (send_not_receipt p)
  waits_ahead m n k (received x ∷ r) (fired run c) (inr h) gn gm =
      ahead_without m n x (waits r) (λ e. gm (inl (ap received e))) (λ e. gn (inl (ap received e))) (waits_ahead m n k r run h (λ g. gn (inr g)) (λ g. gm (inr g)))

  -- a holder that was sent first is received first
  pub holder_first : (m n : ℕ) → ((r : List Happening) → Run s (sent n ∷ r) → Has (sent m) r) → T (s.holds m n) → (r : List Happening) → Run s r → MayReceive s n r → Has (received m) r
  holder_first m n k h r run c = go (has? (received m) r)
    where
      go : Dec (Has (received m) r) → Has (received m) r
      go (yes g) = g
      go (no g) = absurd (c.free m (waits_ahead m n k r run c.after c.fresh g) h)

  pub sound : {e f : Happening} → Enforced s e f → (r : List Happening) → Run s (f ∷ r) → Has e r
  sound (drawn {e} l) r (fired run c) = c.local e l
  sound (own i) r (fired run c) = c.after
  sound (held {m} {n} d h) r (fired run c) = holder_first m n (sound d) h r run c
  sound (chain {e} {f} {g} d₁ d₂) r (fired run c) = carried e f (sound d₁) r run (sound d₂ r (fired run c))
