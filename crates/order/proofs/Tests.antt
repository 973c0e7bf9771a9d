-- Tests as facts, and events told apart.
use Rattle.std.proofs.Common.{◌≡◌, ℕ, Bool, true, false, ◌&&◌, ◌||◌, T, ◌⊎◌, List, [], ◌∷◌, sym, refl, ap, subst, inl, inr, ⊎_elim, eqb→eq}
use native.Mathlib.Decide.{map_dec}
use lib.Dec.{eqb_refl}
use Rattle.chart.specs.Content.{Happening, sent, received, message_of}
use Rattle.order.specs.Lists.{Has}
use Rattle.order.specs.Pass.{same, listed}

pub or_either : (a b : Bool) → T (a || b) → T a ⊎ T b
or_either true b t = inl tt
or_either false b t = inr t

pub or_one : (a b : Bool) → T a → T (a || b)
or_one true b t = tt
or_one false b t = absurd t

pub or_other : (a b : Bool) → T b → T (a || b)
or_other true b t = tt
or_other false b t = t

pub both_of : (a b : Bool) → T (a && b) → T a × T b
both_of true b t = (tt, t)
both_of false b t = absurd t

pub both : (a b : Bool) → T a → T b → T (a && b)
both true b t u = u
both false b t u = absurd t

pub from_true : (b : Bool) → b ≡ true → T b
from_true b e = subst T (sym e) tt

pub to_true : (b : Bool) → T b → b ≡ true
to_true true t = refl
to_true false t = absurd t

pub test? : (b : Bool) → Dec (T b)
test? true = yes tt
test? false = no (λ z. z)

pub and? : {A B : Type 0} → Dec A → Dec B → Dec (A × B)
and? (yes a) (yes b) = yes (a, b)
and? (yes a) (no nb) = no (λ t. nb t.1)
and? (no na) d = no (λ t. na t.0)

pub or? : {A B : Type 0} → Dec A → Dec B → Dec (A ⊎ B)
or? (yes a) d = yes (inl a)
or? (no na) (yes b) = yes (inr b)
or? (no na) (no nb) = no (⊎_elim na nb)

pub not? : {A : Type 0} → Dec A → Dec (¬ A)
not? (yes a) = no (λ f. f a)
not? (no na) = yes na

abbrev IsSend : Happening → Type 0
IsSend (sent m) = Unit
IsSend (received m) = ⊥

pub send_not_receipt : {m n : ℕ} → sent m ≡ received n → ⊥
send_not_receipt e = subst IsSend e tt

pub receipt_not_send : {m n : ℕ} → received m ≡ sent n → ⊥
receipt_not_send e = send_not_receipt (sym e)

pub same_message : {e f : Happening} → e ≡ f → message_of e ≡ message_of f
same_message p = ap message_of p

pub same_is : (e f : Happening) → T (same e f) → e ≡ f
same_is (sent m) (sent n) t = ap sent (sym (eqb→eq n m t))
same_is (sent m) (received n) t = absurd t
same_is (received m) (sent n) t = absurd t
same_is (received m) (received n) t = ap received (sym (eqb→eq n m t))

pub same_self : (e : Happening) → T (same e e)
same_self (sent m) = eqb_refl m
same_self (received m) = eqb_refl m

pub is_same : {e f : Happening} → e ≡ f → T (same e f)
is_same {e} p = subst (λ x. T (same e x)) p (same_self e)

pub listed_has : (e : Happening) (l : List Happening) → T (listed e l) → Has e l
listed_has e [] t = absurd t
listed_has e (x ∷ l) t = ⊎_elim (λ u. inl (same_is e x u)) (λ u. inr (listed_has e l u)) (or_either (same e x) (listed e l) t)

pub has_listed : (e : Happening) (l : List Happening) → Has e l → T (listed e l)
has_listed e [] h = absurd h
has_listed e (x ∷ l) (inl p) = or_one (same e x) (listed e l) (is_same p)
has_listed e (x ∷ l) (inr h) = or_other (same e x) (listed e l) (has_listed e l h)

pub has? : (e : Happening) (l : List Happening) → Dec (Has e l)
has? e l = map_dec (listed_has e l) (has_listed e l) (test? (listed e l))
