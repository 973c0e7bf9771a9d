use Rattle.std.proofs.Common.{◌≡◌, ℕ, Bool, List, [], ◌∷◌, ◌++◌, map, is_some, Option, sym, ◌∙◌, subst, arith}
use Rattle.std.proofs.lemmas.Grind.{common_steps}
use Rattle.chart.specs.Content.{NamesApart}
use Rattle.chart.specs.Lookup.{among}
use Rattle.chart.specs.Repeats.{FirstRepeat}
use Rattle.chart.specs.declared.pieces.Parts.{Parts}
use Rattle.chart.specs.Names.{text_of}
use Rattle.chart.specs.Shown.{content_of}
use Rattle.chart.specs.declared.names.Name.{Name}
use Rattle.chart.proofs.Additions.{Growing, instance_grows}
use Rattle.chart.proofs.Invariants.{growing}
use Rattle.chart.proofs.Repeating.{same_name, repeat_means}
use Rattle.chart.proofs.Stored.{with_instance_lem}
use Rattle.chart.proofs.drafting.Draft.add_instance.Goals as goal

-- what the check for a repeat said
told : (xs ys zs : List Name) (n : Name) (o : Option ℕ) (b r : Bool) → NamesApart (map text_of xs) → zs ≡ ys → ys ≡ xs ++ n ∷ [] → FirstRepeat same_name zs o → r ≡ is_some o → r ≡ b → among (text_of n) (map text_of xs) ≡ b
told xs ys zs n o b r apart read pushed first tested way = sym (repeat_means xs n o apart (subst (λ (l : List Name). FirstRepeat same_name l o) (read ∙ pushed) first)) ∙ sym tested ∙ way

pub returns-then-is_some-clause-answer : goal.returns-then-is_some-clause-answer
returns-then-is_some-clause-answer c =
    let called = told _ _ _ c.args.name _ _ _ c.args.self.now.parts.instances_apart c.deref.ensures.value c.push_reserved.ensures.items c.first_repeat.ensures c.is_some.ensures c.if-is_some.true in
    grind (arith, common_steps)

pub invariant_of-self-else-is_some : goal.invariant_of-self-else-is_some
invariant_of-self-else-is_some c =
    let p : Parts = c.args.self.now.parts in
    let new = told _ _ _ c.args.name _ _ _ p.instances_apart c.deref.ensures.value c.push_reserved.ensures.items c.first_repeat.ensures c.is_some.ensures c.if-is_some.false in
    let g = subst Growing (sym (with_instance_lem p c.push_reserved.new.self c.args.name c.push_reserved.ensures.items)) (instance_grows (content_of p) (text_of c.args.name) (growing p) new) in (
      (omega (arith, c.push_reserved.ensures.len), (p.few_messages, (g.instances_apart, (g.messages_apart, (g.all_join, (g.is_numbered, (g.all_sent, (g.none_twice, tt)))))))),
      (omega (arith, c.push_reserved.ensures.capacity, c.args.self.now.instance_room), (c.args.self.now.message_room, (c.args.self.now.event_room, (c.args.self.now.titled, (omega (arith, c.push_reserved.ensures.len), tt))))),
    )

pub returns-clause-answer : goal.returns-clause-answer
returns-clause-answer c =
    let p : Parts = c.args.self.now.parts in
    let new = told _ _ _ c.args.name _ _ _ p.instances_apart c.deref.ensures.value c.push_reserved.ensures.items c.first_repeat.ensures c.is_some.ensures c.if-is_some.false in
    let grown = with_instance_lem p c.push_reserved.new.self c.args.name c.push_reserved.ensures.items in
    grind (arith, common_steps)
