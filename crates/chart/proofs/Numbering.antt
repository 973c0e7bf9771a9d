-- What follows from the numbering of the sends.
use Rattle.std.proofs.Common.{◌≡◌, ℕ, zero, suc, ◌+◌, ◌<◌, ◌≤◌, Bool, true, false, cond, not, eqb, ltb, List, [], ◌∷◌, ◌++◌, length, get_or, count_by, sym, refl, ap, ◌∙◌, ⊎_elim, arith}
use Rattle.std.specs.List.{prefix_len}
use Rattle.std.proofs.lemmas.Bool.{ne_eqb, eq-eqb, eqb-true, ltb-true, lt-ltb, cases_eq, and_parts, and_from}
use Rattle.chart.specs.Content.{Happening, sent, received, message_of, is_sending, is_sent, is_received, numbered, sent_at, received_at}
use Rattle.chart.proofs.Counting.{count_yes, count_no, sum_below, sum_same, sum_one_more, sum_nothing}

abbrev sends : List Happening → ℕ
sends es = count_by is_sending es

-- the two parts of a numbering, at a send and at a receipt
pub at_send : (j m : ℕ) (es : List Happening) → numbered j (sent m ∷ es) ≡ true → (m ≡ j) × (numbered (suc j) es ≡ true)
at_send j m es h = let p = and_parts (eqb m j) (numbered (suc j) es) h in (eqb-true m j p.0, p.1)

pub at_receipt : (j m : ℕ) (es : List Happening) → numbered j (received m ∷ es) ≡ true → (m < j) × (numbered j es ≡ true)
at_receipt j m es h = let p = and_parts (ltb m j) (numbered j es) h in (ltb-true m j p.0, p.1)

pub numbered_send : (es : List Happening) (j k : ℕ) → numbered j es ≡ true → j + sends es ≡ k → numbered j (es ++ sent k ∷ []) ≡ true
numbered_send [] j k h e = and_from _ _ (eq-eqb k j (omega arith)) refl
numbered_send (sent m ∷ es) j k h e =
    let p = at_send j m es h in
    and_from _ _ (eq-eqb m j p.0) (numbered_send es (suc j) k p.1 (omega (arith, count_yes is_sending (sent m) es refl)))
numbered_send (received m ∷ es) j k h e =
    let p = at_receipt j m es h in
    and_from _ _ (lt-ltb m j p.0) (numbered_send es j k p.1 (omega (arith, count_no is_sending (received m) es refl)))

pub numbered_receipt : (es : List Happening) (j k : ℕ) → numbered j es ≡ true → k < j + sends es → numbered j (es ++ received k ∷ []) ≡ true
numbered_receipt [] j k h e = and_from _ _ (lt-ltb k j (omega arith)) refl
numbered_receipt (sent m ∷ es) j k h e =
    let p = at_send j m es h in
    and_from _ _ (eq-eqb m j p.0) (numbered_receipt es (suc j) k p.1 (omega (arith, count_yes is_sending (sent m) es refl)))
numbered_receipt (received m ∷ es) j k h e =
    let p = at_receipt j m es h in
    and_from _ _ (lt-ltb m j p.0) (numbered_receipt es j k p.1 (omega (arith, count_no is_sending (received m) es refl)))

-- a message that was sent above is not sent again
sent_above : (es : List Happening) (j m : ℕ) → numbered j es ≡ true → m < j → count_by (is_sent m) es ≡ 0
sent_above [] j m h l = refl
sent_above (sent n ∷ es) j m h l =
    let p = at_send j n es h in
    count_no (is_sent m) (sent n) es (ne_eqb n m (λ e. omega (arith, p.0))) ∙ sent_above es (suc j) m p.1 (omega arith)
sent_above (received n ∷ es) j m h l = count_no (is_sent m) (received n) es refl ∙ sent_above es j m (at_receipt j n es h).1 l

pub sent_once : (es : List Happening) (j m : ℕ) → numbered j es ≡ true → j ≤ m → m < j + sends es → count_by (is_sent m) es ≡ 1
sent_once [] j m h low high = absurd (omega arith)
sent_once (sent n ∷ es) j m h low high =
    let p = at_send j n es h in
    ⊎_elim
    (λ (e : n ≡ m). count_yes (is_sent m) (sent n) es (eq-eqb n m e) ∙ ap (λ k. 1 + k) (sent_above es (suc j) m p.1 (omega (arith, p.0))))
    (λ (e : n ≡ m → ⊥). count_no (is_sent m) (sent n) es (ne_eqb n m e) ∙ sent_once es (suc j) m p.1 (omega (arith, p.0)) (omega (arith, count_yes is_sending (sent n) es refl)))
    (cases_eq n m)
sent_once (received n ∷ es) j m h low high =
    count_no (is_sent m) (received n) es refl ∙ sent_once es j m (at_receipt j n es h).1 low (omega (arith, count_no is_sending (received n) es refl))

-- the leading count at one element more
leads : {X : Type 0} (p : X → Bool) (x : X) (xs : List X) → p x ≡ true → prefix_len p (x ∷ xs) ≡ 1 + prefix_len p xs
leads p x xs e = ap (λ b. cond b (1 + prefix_len p xs) 0) e

stops : {X : Type 0} (p : X → Bool) (x : X) (xs : List X) → p x ≡ false → prefix_len p (x ∷ xs) ≡ 0
stops p x xs e = ap (λ b. cond b (1 + prefix_len p xs) 0) e

pub sent_first : (es : List Happening) (j m : ℕ) → numbered j es ≡ true → j ≤ m → m < j + sends es → sent_at m es < received_at m es
sent_first [] j m h low high = absurd (omega arith)
sent_first (sent n ∷ es) j m h low high =
    let p = at_send j n es h in
    let later = leads (λ e. not (is_received m e)) (sent n) es refl in
    ⊎_elim
    (λ (e : n ≡ m). omega (arith, later, stops (λ e. not (is_sent m e)) (sent n) es (ap not (eq-eqb n m e))))
    (λ (e : n ≡ m → ⊥). omega (arith, later, leads (λ e. not (is_sent m e)) (sent n) es (ap not (ne_eqb n m e)), sent_first es (suc j) m p.1 (omega (arith, p.0)) (omega (arith, count_yes is_sending (sent n) es refl))))
    (cases_eq n m)
sent_first (received n ∷ es) j m h low high =
    let p = at_receipt j n es h in
    omega (arith, leads (λ e. not (is_sent m e)) (received n) es refl, leads (λ e. not (is_received m e)) (received n) es (ap not (ne_eqb n m (λ e. omega (arith, p.0)))), sent_first es j m p.1 low (omega (arith, count_no is_sending (received n) es refl)))

pub inside : (es : List Happening) (j : ℕ) → numbered j es ≡ true → (e : ℕ) (d : Happening) → e < length es → message_of (get_or es e d) < j + sends es
inside [] j h e d l = absurd (omega arith)
inside (sent n ∷ es) j h zero d l = omega (arith, (at_send j n es h).0, count_yes is_sending (sent n) es refl)
inside (sent n ∷ es) j h (suc e) d l = omega (arith, inside es (suc j) (at_send j n es h).1 e d (omega arith), count_yes is_sending (sent n) es refl)
inside (received n ∷ es) j h zero d l = omega (arith, (at_receipt j n es h).0, count_no is_sending (received n) es refl)
inside (received n ∷ es) j h (suc e) d l = omega (arith, inside es j (at_receipt j n es h).1 e d (omega arith), count_no is_sending (received n) es refl)

-- what is not sent is not received
pub not_received : (es : List Happening) (j m : ℕ) → numbered j es ≡ true → j + sends es ≤ m → count_by (is_received m) es ≡ 0
not_received [] j m h l = refl
not_received (sent n ∷ es) j m h l =
    count_no (is_received m) (sent n) es refl ∙ not_received es (suc j) m (at_send j n es h).1 (omega (arith, count_yes is_sending (sent n) es refl))
not_received (received n ∷ es) j m h l =
    let p = at_receipt j n es h in
    count_no (is_received m) (received n) es (ne_eqb n m (λ e. omega (arith, p.0))) ∙ not_received es j m p.1 (omega (arith, count_no is_sending (received n) es refl))

-- the events are the sends and, message by message, the receipts
pub all_events : (es : List Happening) (j k : ℕ) → numbered j es ≡ true → j + sends es ≡ k → sum_below (λ m. count_by (is_received m) es) k + sends es ≡ length es
all_events [] j k h e = omega (arith, sum_nothing k)
all_events (sent n ∷ es) j k h e =
    let yes' = count_yes is_sending (sent n) es refl in
    let rest = all_events es (suc j) k (at_send j n es h).1 (omega arith) in
    let same = sum_same (λ m. count_by (is_received m) (sent n ∷ es)) (λ m. count_by (is_received m) es) k (λ m l. count_no (is_received m) (sent n) es refl) in
    omega arith
all_events (received n ∷ es) j k h e =
    let no' = count_no is_sending (received n) es refl in
    let p = at_receipt j n es h in
    let rest = all_events es j k p.1 (omega arith) in
    let more = sum_one_more (λ m. count_by (is_received m) (received n ∷ es)) (λ m. count_by (is_received m) es) n k (omega (arith, p.0)) (omega (arith, count_yes (is_received n) (received n) es (eq-eqb n n refl))) (λ m d. count_no (is_received m) (received n) es (ne_eqb n m (λ q. d (sym q)))) in
    omega arith
