-- Names are equal exactly if their texts are.
use Rattle.std.proofs.Common.{◌≡◌, ◌-◌, true, eqb, length, ◌++◌, replicate, sym, ap, ◌∙◌, arith}
use Rattle.std.specs.Str.{bytes_eq}
use Rattle.std.proofs.lemmas.List.{length-take-le}
use Rattle.std.proofs.lemmas.Bool.{and_parts, and_from, eq-eqb, eqb-true}
use Rattle.std.proofs.lemmas.Bool.Decides.{same_from_decides}
use Rattle.std.proofs.lemmas.Slice.Eq.{bytes_eq-Decides}
use Rattle.chart.specs.Names.{text_of}
use Rattle.chart.specs.contracts.names.NamePartialEq.TheImpl.{eq-value}
use Rattle.chart.specs.declared.names.Name.{Name}

text_tells : (a b : Name) → text_of a ≡ text_of b → eq-value.it a b ≡ true
text_tells a b same =
    let long : a.len ≡ b.len = omega (arith, length-take-le a.len a.bytes (omega (arith, a.full, a.short)), length-take-le b.len b.bytes (omega (arith, b.full, b.short)), ap length same) in
    let bytes : a.bytes ≡ b.bytes = a.padded ∙ ap (λ t. t ++ replicate (24 - a.len) 0) same ∙ ap (λ n. text_of b ++ replicate (24 - n) 0) long ∙ sym b.padded in
    and_from _ _ ((bytes_eq-Decides a.bytes b.bytes).1 bytes) (eq-eqb a.len b.len long)

pub name_eq : (a b : Name) → eq-value.it a b ≡ bytes_eq (text_of a) (text_of b)
name_eq a b = same_from_decides _ _ (tells, text_tells a b) (bytes_eq-Decides (text_of a) (text_of b))
  where
    tells : eq-value.it a b ≡ true → text_of a ≡ text_of b
    tells e =
        let both = and_parts (bytes_eq a.bytes b.bytes) (eqb a.len b.len) e in
        let bytes = (bytes_eq-Decides a.bytes b.bytes).0 both.0 in
        let long = eqb-true a.len b.len both.1 in
        cc
