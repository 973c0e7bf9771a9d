use Rattle.std.proofs.Common.{◌≡◌, ℕ, ◌+◌, ◌/◌, ◌%◌, ◌^◌, ◌<◌, ◌≤◌, List, [], ◌∷◌, length, decimal, sym, ap, ◌∙◌, subst, arith, length-append, rules}
use Rattle.std.proofs.lemmas.Fmt.{decimal_digit, decimal_step}
use Rattle.analysis.specs.Writing.{Puts}
use Rattle.analysis.proofs.Putting.{puts_more}
use Rattle.analysis.proofs.writing.Writer.+push_number.Goals as goal

pub push-requires : goal.push-requires
push-requires t c = omega (arith, ap length (decimal_digit c.args.number c.if-number-lt10.true), c.requires)

pub returns-then-number-lt10 : goal.returns-then-number-lt10
returns-then-number-lt10 t c =
    subst (λ (ys : List ℕ). Puts c.args.self.now ys c.push.new.self) (sym (decimal_digit c.args.number c.if-number-lt10.true)) c.push.ensures

longer : (n : ℕ) → 10 ≤ n → n < 2 ^ 64 → length (decimal n) ≡ length (decimal (n / 10)) + 1
longer n ten fits = ap length (decimal_step n ten fits) ∙ length-append (decimal (n / 10)) ((48 + n % 10) ∷ [])

pub push_number-requires : goal.push_number-requires
push_number-requires t c =
    let fits : c.args.number < 2 ^ 64 = search rules in
    (search rules, omega (arith, longer c.args.number c.if-number-lt10.false fits, c.requires))

pub push-requires-2 : goal.push-requires-2
push-requires-2 t c =
    let fits : c.args.number < 2 ^ 64 = search rules in
    omega (arith, longer c.args.number c.if-number-lt10.false fits, c.requires, c.push_number.ensures.len, c.push_number.ensures.room)

pub returns : goal.returns
returns t c =
    let fits : c.args.number < 2 ^ 64 = search rules in
    subst (λ (ys : List ℕ). Puts c.args.self.now ys c.push-2.new.self) (sym (decimal_step c.args.number c.if-number-lt10.false fits))
    (puts_more c.args.self.now c.push_number.new.self c.push-2.new.self _ _ c.push_number.ensures c.push-2.ensures)
