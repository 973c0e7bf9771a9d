-- Runs are made by phases: a phase sends some of the messages by their numbers, and receives each at once, but for those
-- that it keeps waiting. So every run can be completed.
use Rattle.std.proofs.Common.{◌≡◌, ℕ, zero, suc, ◌<◌, ◌≤◌, T, ◌⊎◌, List, [], ◌∷◌, ◌++◌, map, length, sym, refl, ap, subst, inl, inr, ⊎_elim, arith}
use mathlib.Core.List.{reverse_aux}
use native.Mathlib.Decide.{dec_lt}
use Rattle.chart.specs.Content.{Happening, sent, received, message_of}
use Rattle.order.specs.Lists.{Has, Once, Ahead}
use Rattle.order.specs.Order.{Scene, Laws}
use Rattle.order.specs.Runs.{waits, MaySend, MayReceive, Run, fired, Complete}
use Rattle.order.proofs.Lists.{fits, ahead_push, ahead_second, below_suc, without_first}
use Rattle.order.proofs.Tests.{send_not_receipt, receipt_not_send, same_message, has?, and?, not?}
use Rattle.order.proofs.Runs.{waiting, waited, waits_once, was_sent}

-- the record r goes on to the record r'
pub data Onward (r : List Happening) : List Happening → Type 0 where
  stay : Onward r r
  more : {e : Happening} {r' : List Happening} → Onward r r' → Onward r (e ∷ r')

pub onward_has : (e : Happening) {r r' : List Happening} → Onward r r' → Has e r → Has e r'
onward_has e stay h = h
onward_has e (more o) h = inr (onward_has e o h)

pub onward_on : {r r' r'' : List Happening} → Onward r r' → Onward r' r'' → Onward r r''
onward_on o stay = o
onward_on o (more o') = more (onward_on o o')

pub onward_list : {r r' : List Happening} → Onward r r' → (q : List Happening) × (r' ≡ q ++ r)
onward_list stay = ([], refl)
onward_list (more {e} o) = let t = onward_list o in (e ∷ t.0, ap (λ l. e ∷ l) t.1)

-- the events of a phase that sends X and keeps K waiting
abbrev pub Due : (X K : ℕ → Type 0) → Happening → Type 0
Due X K (sent y) = X y
Due X K (received y) = X y × (¬ K y)

pub due_sent : (X K : ℕ → Type 0) (e : Happening) → Due X K e → X (message_of e)
due_sent X K (sent y) d = d
due_sent X K (received y) d = d.0

-- no message
unfoldable pub None : ℕ → Type 0
None x = ⊥

-- the messages that may wait in a phase
abbrev pub Seen : (X K : ℕ → Type 0) → List Happening → ℕ → Type 0
Seen X K r w = Has w (waits r) ⊎ (X w × K w)

-- what makes such a phase possible after r: what each send waits for is there or due, nothing that may wait holds
-- what is to be received, and those that may wait are among ys, with room for one more
pub record Plan (s : Scene) (X K : ℕ → Type 0) (r : List Happening) (ys : List ℕ) : Type 0 where
  pub run : Run s r
  pub sends? : (x : ℕ) → Dec (X x)
  pub keeps? : (x : ℕ) → Dec (K x)
  pub inside : (x : ℕ) → X x → x < s.messages
  pub fresh : (x : ℕ) → X x → ¬ Has (sent x) r
  pub ready : (x : ℕ) → X x → (e : Happening) → T (s.local e x) → Has e r ⊎ Due X K e
  pub clear : (x : ℕ) → X x → ¬ K x → (w : ℕ) → Seen X K r w → ¬ T (s.holds w x)
  pub bound : (w : ℕ) → Seen X K r w → Has w ys
  pub room : length ys < s.capacity

-- the record r' once the phase has gone through the messages below n
pub record Stage (s : Scene) (X K : ℕ → Type 0) (r : List Happening) (n : ℕ) (r' : List Happening) : Type 0 where
  pub run : Run s r'
  pub on : Onward r r'
  pub done : (e : Happening) → Due X K e → message_of e < n → Has e r'
  pub only : (e : Happening) → Has e r' → Has e r ⊎ (Due X K e × (message_of e < n))

module _ (s : Scene) (law : Laws s) (X K : ℕ → Type 0) (r : List Happening) (ys : List ℕ) (p : Plan s X K r ys) where
  pub seen : (n : ℕ) (r' : List Happening) → Stage s X K r n r' → (w : ℕ) → Has w (waits r') → Seen X K r w
  seen n r' t w h = go (t.only (sent w) k.0) (p.keeps? w)
    where
      k : Has (sent w) r' × (¬ Has (received w) r')
      k = waited s w r' t.run h

      go : Has (sent w) r ⊎ (X w × (w < n)) → Dec (K w) → Seen X K r w
      go (inl o) d = inl (waiting w r o (λ g. k.1 (onward_has (received w) t.on g)))
      go (inr x) (yes y) = inr (x.0, y)
      go (inr x) (no ny) = absurd (k.1 (t.done (received w) (x.0, ny) x.1))

  module _ (n : ℕ) (r' : List Happening) (t : Stage s X K r n r') where
    pub skip : ¬ X n → Stage s X K r (suc n) r'
    skip nx = record {
      run = t.run;
      on = t.on;
      done = λ e d l. ⊎_elim (t.done e d) (λ q. absurd (nx (subst X q (due_sent X K e d)))) (below_suc (message_of e) n l);
      only = λ e h. ⊎_elim inl (λ k. inr (k.0, (let b : message_of e < n = k.1 in omega arith))) (t.only e h);
    }

    may_send : X n → MaySend s n r'
    may_send x = record {
      inside = p.inside n x;
      fresh = λ h. ⊎_elim (p.fresh n x) (λ k. let b : n < n = k.1 in omega arith) (t.only (sent n) h);
      local = λ e l. ⊎_elim (onward_has e t.on) (λ d. t.done e d (law.low e n l)) (p.ready n x e l);
      room =
          let b : length (waits r') ≤ length ys = fits (waits r') ys (waits_once s r' t.run) (λ w h. p.bound w (seen n r' t w h)) in
          let c : length ys < s.capacity = p.room in
          omega arith;
    }

    may_receive : X n → ¬ K n → MayReceive s n (sent n ∷ r')
    may_receive x nk = record {
      fresh = ⊎_elim receipt_not_send (λ h. ⊎_elim (λ g. p.fresh n x (was_sent s n r p.run g)) (λ k. let b : n < n = k.1 in omega arith) (t.only (received n) h));
      after = inl refl;
      free = λ m f. p.clear n x nk m (seen n r' t m (ahead_push m n n (waits r') f));
    }

    sent_due : X n → (e : Happening) → e ≡ sent n → Due X K e × (message_of e < suc n)
    sent_due x (sent y) q = (subst X (sym (same_message q)) x, let b : y ≡ n = same_message q in omega arith)
    sent_due x (received y) q = absurd (receipt_not_send q)

    received_due : X n → ¬ K n → (e : Happening) → e ≡ received n → Due X K e × (message_of e < suc n)
    received_due x nk (sent y) q = absurd (send_not_receipt q)
    received_due x nk (received y) q =
        ((subst X (sym (same_message q)) x, λ k. nk (subst K (same_message q) k)), let b : y ≡ n = same_message q in omega arith)

    earlier : (e : Happening) → Has e r' → Has e r ⊎ (Due X K e × (message_of e < suc n))
    earlier e h = ⊎_elim inl (λ j. inr (j.0, (let b : message_of e < n = j.1 in omega arith))) (t.only e h)

    pub keep : X n → K n → Stage s X K r (suc n) (sent n ∷ r')
    keep x k = record {
      run = fired t.run (may_send x);
      on = more t.on;
      done = λ e d l. ⊎_elim (λ b. inr (t.done e d b)) (at e d) (below_suc (message_of e) n l);
      only = λ e. ⊎_elim (λ q. inr (sent_due x e q)) (earlier e);
    }
      where
        at : (e : Happening) → Due X K e → message_of e ≡ n → Has e (sent n ∷ r')
        at (sent y) d q = inl (ap sent q)
        at (received y) d q = absurd (d.1 (subst K (sym q) k))

    pub pass : X n → ¬ K n → Stage s X K r (suc n) (received n ∷ sent n ∷ r')
    pass x nk = record {
      run = fired (fired t.run (may_send x)) (may_receive x nk);
      on = more (more t.on);
      done = λ e d l. ⊎_elim (λ b. inr (inr (t.done e d b))) (at e) (below_suc (message_of e) n l);
      only = λ e. ⊎_elim (λ q. inr (received_due x nk e q)) (⊎_elim (λ q. inr (sent_due x e q)) (earlier e));
    }
      where
        at : (e : Happening) → message_of e ≡ n → Has e (received n ∷ sent n ∷ r')
        at (sent y) q = inr (inl (ap sent q))
        at (received y) q = inl (ap received q)

  pub phase : (n : ℕ) → (r' : List Happening) × Stage s X K r n r'
  phase zero = (r, record { run = p.run; on = stay; done = λ e d l. absurd (omega arith); only = λ e h. inl h })
  phase (suc n) = go (phase n) (p.sends? n) (p.keeps? n)
    where
      go : ((r' : List Happening) × Stage s X K r n r') → Dec (X n) → Dec (K n) → (r' : List Happening) × Stage s X K r (suc n) r'
      go (r', t) (no nx) d = (r', skip n r' t nx)
      go (r', t) (yes x) (yes k) = (sent n ∷ r', keep n r' t x k)
      go (r', t) (yes x) (no nk) = (received n ∷ sent n ∷ r', pass n r' t x nk)

-- r goes on to r', after which nothing waits
pub record Drained (s : Scene) (r r' : List Happening) : Type 0 where
  pub run : Run s r'
  pub on : Onward r r'
  pub idle : waits r' ≡ []

module _ (s : Scene) (law : Laws s) where
  -- what waits is received from the front; the foremost is never held
  pub drain_from : (w : List ℕ) (r : List Happening) → Run s r → waits r ≡ w → Drained s r (reverse_aux (map received w) r)
  drain_from [] r run e = record { run = run; on = stay; idle = e }
  drain_from (m ∷ w) r run e = go (drain_from w (received m ∷ r) (fired run may_receive) shorter)
    where
      once : Once (m ∷ w)
      once = rw e at (waits_once s r run)

      here : Has m (waits r)
      here = rw e (inl refl)

      may_receive : MayReceive s m r
      may_receive = record {
        fresh = (waited s m r run here).1;
        after = (waited s m r run here).0;
        free = λ x f. absurd (let g : Ahead x m (m ∷ w) = rw e at f in ⊎_elim (λ k. once.0 k.1) (λ k. once.0 (ahead_second x m w k)) g);
      }

      shorter : waits (received m ∷ r) ≡ w
      shorter = rw e (without_first m w once.0)

      go : Drained s (received m ∷ r) (reverse_aux (map received (m ∷ w)) r) → Drained s r (reverse_aux (map received (m ∷ w)) r)
      go d = record { run = d.run; on = onward_on (more stay) d.on; idle = d.idle }

  -- where nothing waits, all that was sent was received
  pub settled : (r : List Happening) → waits r ≡ [] → (m : ℕ) → Has (sent m) r → Has (received m) r
  settled r e m h = go (has? (received m) r)
    where
      go : Dec (Has (received m) r) → Has (received m) r
      go (yes g) = g
      go (no g) = absurd (rw e at (waiting m r h g))

  module _ (r : List Happening) (run : Run s r) (idle : waits r ≡ []) where
    unfoldable pub Rest : ℕ → Type 0
    Rest x = (x < s.messages) × (¬ Has (sent x) r)

    pub rest : Plan s Rest None r []
    unfolding Rest None
    rest = record {
      run = run;
      sends? = λ x. and? (dec_lt x s.messages) (not? (has? (sent x) r));
      keeps? = λ x. no (λ z. z);
      inside = λ x k. k.0;
      fresh = λ x k. k.1;
      ready = λ x k e l. due e (let a : message_of e < x = law.low e x l in let b : x < s.messages = k.0 in omega arith) (has? (sent (message_of e)) r);
      clear = λ x k nk w. ⊎_elim (λ h. absurd (nothing w h)) (λ z. absurd z.1);
      bound = λ w. ⊎_elim (nothing w) (λ z. absurd z.1);
      room = law.room;
    }
      where
        nothing : (w : ℕ) → Has w (waits r) → ⊥
        nothing w h = rw idle at h

        due : (e : Happening) → message_of e < s.messages → Dec (Has (sent (message_of e)) r) → Has e r ⊎ Due Rest None e
        due (sent y) l (yes h) = inl h
        due (sent y) l (no nh) = inr (l, nh)
        due (received y) l (yes h) = inl (settled r idle y h)
        due (received y) l (no nh) = inr ((l, nh), λ z. z)

    pub all_done : (r' : List Happening) → Stage s Rest None r s.messages r' → Complete s r'
    unfolding Rest None
    all_done r' t m l = both (has? (sent m) r)
      where
        both : Dec (Has (sent m) r) → Has (sent m) r' × Has (received m) r'
        both (yes h) = (onward_has (sent m) t.on h, onward_has (received m) t.on (settled r idle m h))
        both (no nh) = (t.done (sent m) (l, nh) l, t.done (received m) ((l, nh), λ z. z) l)

    finish : (r' : List Happening) × Run s r' × Onward r r' × Complete s r'
    finish = let t = phase s law Rest None r [] rest s.messages in (t.0, t.1.run, t.1.on, all_done t.0 t.1)

  -- every run can be drained, and then completed
  pub complete : (r : List Happening) → Run s r → (r' : List Happening) × Run s r' × Onward r r' × Complete s r'
  complete r run =
      let d = drain_from (waits r) r run refl in
      let f = finish (reverse_aux (map received (waits r)) r) d.run d.idle in
      (f.0, f.1, onward_on d.on f.2, f.3)
