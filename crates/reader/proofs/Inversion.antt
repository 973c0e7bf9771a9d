-- What a step of the reading that succeeded says.
use Rattle.std.proofs.Common.{◌≡◌, ℕ, ◌<◌, Bool, true, false, cond, eqb, ltb, leb, length, Some, None, Ok, Err, Option, sym, refl, ap, ◌∙◌, arith}
use Rattle.std.proofs.lemmas.Bool.{leb-false, eqb-true, eqb-false}
use Rattle.std.proofs.lemmas.List.{length-map}
use Rattle.chart.specs.Words.{Text}
use Rattle.chart.specs.Lookup.{seek}
use Rattle.chart.specs.Content.{Content, Post, message_names, receiver_of}
use Rattle.chart.specs.Drafting.{message_called, times_received}
use Rattle.chart.proofs.Seeking.{seek_inside}
use Rattle.reader.specs.Reading.{Outcome, then, name_at, known_by, instance_at, new_message_at, receiver_at, sent_by, sent_message_at}
use Rattle.reader.specs.declared.refusals.Refusal.{Refusal}

pub then_ok : {X Y : Type 0} (r : Outcome X) (f : X → Outcome Y) (y : Y) → then r f ≡ Ok y → (x : X) × (r ≡ Ok x) × (f x ≡ Ok y)
then_ok (Ok x) f y h = (x, refl, h)
then_ok (Err e) f y h = absurd cc

-- a test that must fail, and one that must pass
pub fails : {Y : Type 0} (b : Bool) (e : Refusal) (r : Outcome Y) (y : Y) → cond b (Err e) r ≡ Ok y → (b ≡ false) × (r ≡ Ok y)
fails true e r y h = absurd cc
fails false e r y h = (refl, h)

pub passes : {Y : Type 0} (b : Bool) (e : Refusal) (r : Outcome Y) (y : Y) → cond b r (Err e) ≡ Ok y → (b ≡ true) × (r ≡ Ok y)
passes true e r y h = (refl, h)
passes false e r y h = absurd cc

pub same_ok : {X : Type 0} (x y : X) → ◌≡◌ {A = Outcome X} (Ok x) (Ok y) → x ≡ y
same_ok x y h = cc

pub known_ok : (p : ℕ) (o : Option ℕ) (i : ℕ) → known_by p o ≡ Ok i → o ≡ Some i
known_ok p None i h = absurd cc
known_ok p (Some j) i h = ap Some (same_ok j i h)

-- an instance that was found is one of the list
pub instance_ok : (c : Content) (t : Text) (p i : ℕ) → instance_at c t p ≡ Ok i → (u : Text) × (name_at t p ≡ Ok u) × (seek (λ x. x) u c.instances ≡ Some i)
instance_ok c t p i h =
    let s = then_ok (name_at t p) (λ u. known_by p (seek (λ x. x) u c.instances)) i h in
    (s.0, s.1, known_ok p _ i s.2)

pub instance_in : (c : Content) (t : Text) (p i : ℕ) → instance_at c t p ≡ Ok i → i < length c.instances
instance_in c t p i h = let s = instance_ok c t p i h in seek_inside (λ x. x) s.0 c.instances i s.2

pub receiver_ok : (c : Content) (s : ℕ) (t : Text) (p r : ℕ) → receiver_at c s t p ≡ Ok r → (instance_at c t p ≡ Ok r) × (s ≡ r → ⊥)
receiver_ok c s t p r h =
    let a = then_ok (instance_at c t p) (λ i. cond (eqb s i) (Err _) (Ok i)) r h in
    let b = fails (eqb s a.0) _ (Ok a.0) r a.2 in
    let e = same_ok a.0 r b.1 in
    (a.1 ∙ ap Ok e, λ q. eqb-false s a.0 b.0 (q ∙ sym e))

pub new_message_ok : (c : Content) (t : Text) (p : ℕ) (u : Text) → new_message_at c t p ≡ Ok u → (name_at t p ≡ Ok u) × (message_called c u ≡ false) × (length c.messages < 64)
new_message_ok c t p u h =
    let a = then_ok (name_at t p) (λ u. cond (message_called c u) (Err _) (cond (leb 64 (length c.messages)) (Err _) (Ok u))) u h in
    let b = fails (message_called c a.0) _ (cond (leb 64 (length c.messages)) (Err _) (Ok a.0)) u a.2 in
    let d = fails (leb 64 (length c.messages)) _ (Ok a.0) u b.1 in
    let e = same_ok a.0 u d.1 in
    (a.1 ∙ ap Ok e, ap (message_called c) (sym e) ∙ b.0, leb-false 64 _ d.0)

sent_by_ok : (c : Content) (r p : ℕ) (o : Option ℕ) (m : ℕ) → sent_by c r p o ≡ Ok m → (o ≡ Some m) × (ltb 0 (times_received c m) ≡ false) × (receiver_of c m ≡ r)
sent_by_ok c r p None m h = absurd cc
sent_by_ok c r p (Some k) m h =
    let a = fails (ltb 0 (times_received c k)) _ (cond (eqb (receiver_of c k) r) (Ok k) (Err _)) m h in
    let b = passes (eqb (receiver_of c k) r) _ (Ok k) m a.1 in
    let e = same_ok k m b.1 in
    (ap Some e, ap (λ n. ltb 0 (times_received c n)) (sym e) ∙ a.0, ap (receiver_of c) (sym e) ∙ eqb-true _ r b.0)

-- an in line's message: sent, not received yet, and to this receiver
pub sent_message_all : (c : Content) (r : ℕ) (t : Text) (p m : ℕ) → sent_message_at c r t p ≡ Ok m → (u : Text) × (name_at t p ≡ Ok u) × (seek (λ x. x) u (message_names c) ≡ Some m) × (ltb 0 (times_received c m) ≡ false) × (receiver_of c m ≡ r)
sent_message_all c r t p m h =
    let a = then_ok (name_at t p) (λ u. sent_by c r p (seek (λ x. x) u (message_names c))) m h in
    let b = sent_by_ok c r p _ m a.2 in
    (a.0, a.1, b.0, b.1, b.2)

pub sent_message_ok : (c : Content) (r : ℕ) (t : Text) (p m : ℕ) → sent_message_at c r t p ≡ Ok m → (m < length c.messages) × (ltb 0 (times_received c m) ≡ false)
sent_message_ok c r t p m h =
    let a = sent_message_all c r t p m h in
    (omega (arith, seek_inside (λ x. x) a.0 (message_names c) m a.2, length-map c.messages (λ (q : Post). q.name)), a.3)
