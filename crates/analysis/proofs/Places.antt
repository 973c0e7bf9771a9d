-- Events by their places.
use Rattle.std.proofs.Common.{◌≡◌, ℕ, ◌+◌, ◌*◌, ◌<◌, Bool, true, false, eqb, sym, refl, ◌∙◌, arith}
use Rattle.std.proofs.lemmas.Bool.{eqb-true, eq-eqb, ne_eqb}
use Rattle.chart.specs.Content.{Happening, sent, received, message_of}
use Rattle.matrix.specs.Places.{place_of}
use Rattle.order.specs.Pass.{same}
use Rattle.order.proofs.Tests.{same_is, from_true}

pub both_true : (a b : Bool) → (a ≡ true → b ≡ true) → (b ≡ true → a ≡ true) → a ≡ b
both_true true b f g = sym (f refl)
both_true false true f g = g refl
both_true false false f g = refl

pub place_same : (e f : Happening) → eqb (place_of e) (place_of f) ≡ same e f
place_same (sent m) (sent n) =
    both_true (eqb (2 * m) (2 * n)) (eqb n m) (λ t. let h = eqb-true (2 * m) (2 * n) t in eq-eqb n m (omega arith)) (λ t. let h = eqb-true n m t in eq-eqb (2 * m) (2 * n) (omega arith))
place_same (sent m) (received n) = ne_eqb (2 * m) (2 * n + 1) (λ h. omega arith)
place_same (received m) (sent n) = ne_eqb (2 * m + 1) (2 * n) (λ h. omega arith)
place_same (received m) (received n) =
    both_true (eqb (2 * m + 1) (2 * n + 1)) (eqb n m) (λ t. let h = eqb-true (2 * m + 1) (2 * n + 1) t in eq-eqb n m (omega arith)) (λ t. let h = eqb-true n m t in eq-eqb (2 * m + 1) (2 * n + 1) (omega arith))

pub one_place : (e f : Happening) → place_of e ≡ place_of f → e ≡ f
one_place e f p = same_is e f (from_true (same e f) (sym (place_same e f) ∙ eq-eqb (place_of e) (place_of f) p))

pub place_below : (e : Happening) (n : ℕ) → message_of e < n → place_of e < 2 * n
place_below (sent m) n l = omega arith
place_below (received m) n l = omega arith
