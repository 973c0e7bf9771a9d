-- The position of a refusal, from that of the text before it.
use Rattle.std.proofs.Common.{◌≡◌, ℕ, ◌-◌, ◌<◌, ◌≤◌, min, length, take, sym, ap, ◌∙◌, ⊎_elim, arith}
use Rattle.std.proofs.lemmas.List.{take_all}
use Rattle.std.proofs.lemmas.Bool.{cases_lt}
use Rattle.reader.specs.Refusals.{place}
use Rattle.reader.specs.declared.reading.ReadError.{ReadError}
use Rattle.reader.specs.declared.reading.ReadError.TheVariants as reading
use Rattle.reader.specs.declared.refusals.Refusal.{Refusal}
use Rattle.chart.specs.Words.{Text}
use Rattle.console.specs.Failures.{failure_of}
use Rattle.console.specs.Positions.{line_after, column_after}
use Rattle.console.specs.declared.failures.Failure.{Failure}
use Rattle.console.specs.declared.failures.Failure.TheVariants as failure
use Rattle.console.specs.declared.positions.Position.{Position}

-- a front that is cut at the text's end too
front_is : (t : Text) (k n : ℕ) → n ≡ min k (length t) → take (n - 0) t ≡ take k t
front_is t k n e =
    ⊎_elim
    (λ (l : length t < k). take_all (n - 0) t (omega arith) ∙ sym (take_all k t (omega arith)))
    (λ (l : k ≤ length t). let same : n - 0 ≡ k = omega arith in ap (λ i. take i t) same)
    (cases_lt (length t) k)

same_position : {a b c d : ℕ} → a ≡ c → b ≡ d → ◌≡◌ {A = Position} (record { line = a; column = b }) (record { line = c; column = d })
same_position {a} {b} {c} {d} e f = ap (λ (x : ℕ). record { line = x; column = b }) e ∙ ap (λ (x : ℕ). record { line = c; column = x }) f

pub located : (t : Text) (e : ReadError) (r : Refusal) (k n : ℕ) (p : Position) → e ≡ reading.Refused r → k ≡ place r → n ≡ min k (length t) → p.line ≡ line_after (take (n - 0) t) → p.column ≡ column_after (take (n - 0) t)
    → {M : Type 0} → ◌≡◌ {A = Failure M} (failure.Refused r p) (failure_of e t)
located t e r k n p e-is k-is n-is line column =
    let front = front_is t k n n-is ∙ ap (λ i. take i t) k-is in
    ap (failure.Refused r) (same_position (line ∙ ap line_after front) (column ∙ ap column_after front)) ∙ ap (λ x. failure_of x t) (sym e-is)
