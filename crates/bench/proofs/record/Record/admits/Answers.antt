use Rattle.std.proofs.Common.{◌≡◌, true, false, List, vec_items, sym, ap, ◌∙◌, subst, rules, tests}
use Rattle.std.proofs.lemmas.Bool.{both_ways}
use Rattle.chart.specs.Content.{Content, sent, message_of}
use Rattle.chart.specs.declared.numbers.EventId.{EventId}
use Rattle.order.specs.Lists.{Has}
use Rattle.order.specs.Pass.{listed}
use Rattle.order.specs.Scenes.{event_at, instance_of}
use Rattle.order.proofs.Tests.{listed_has, has_listed, to_true, from_true}
use Rattle.bench.specs.Layouts.{placed}
use Rattle.bench.specs.Records.{fired_in, happenings, past}
use Rattle.bench.specs.declared.layout.Placed.{Placed}
use Rattle.bench.proofs.Copies.{line_instance, line_message}
use Rattle.bench.proofs.Records.{in_has, not_in, has_reverse, reverse_has}
use Rattle.bench.proofs.Refusing.{in_record, above_told, out_missing, out_there}
use Rattle.bench.proofs.record.Record.admits.Goals as goal

instance_at : (c : Content) (e : EventId) (p : Placed) → p ≡ placed c (event_at c e.0) → p.line.instance.0 ≡ instance_of c (event_at c e.0)
instance_at c e p is = ap (λ (q : Placed). q.line.instance.0) is ∙ line_instance c (event_at c e.0)

-- the test for the out event of a message, as what a run has
module _ (c : Content) (e : EventId) (p : Placed) (is : p ≡ placed c (event_at c e.0)) (r : List EventId) where
  number : p.line.message.0 ≡ message_of (event_at c e.0)
  number = ap (λ (q : Placed). q.line.message.0) is ∙ line_message c (event_at c e.0)

  there : listed (sent p.line.message.0) (happenings c r) ≡ true → Has (sent (message_of (event_at c e.0))) (past c r)
  there t = subst (λ n. Has (sent n) (past c r)) number (has_reverse (sent p.line.message.0) (happenings c r) (listed_has (sent p.line.message.0) (happenings c r) (from_true _ t)))

  missing : listed (sent p.line.message.0) (happenings c r) ≡ false → Has (sent (message_of (event_at c e.0))) (past c r) → ⊥
  missing t h =
      both_ways (listed (sent p.line.message.0) (happenings c r)) t
      (to_true _ (has_listed (sent p.line.message.0) (happenings c r) (reverse_has (sent p.line.message.0) (happenings c r) (subst (λ n. Has (sent n) (past c r)) (sym number) h))))

pub returns-then-contains-clause-says : goal.returns-then-contains-clause-says
returns-then-contains-clause-says c = λ st w play copy is.
    let r = vec_items c.args.self.now.fired in
    let e = c.args.event in
    let there : fired_in e.0 r ≡ true = search rules in
    in_record st (record { fired = r; waiting = w; play = play }) e (event_at st.chart e.0) (in_has e r there)

pub returns-in-Out-clause-says : goal.returns-in-Out-clause-says
returns-in-Out-clause-says c = λ st w play copy is.
    let r = vec_items c.args.self.now.fired in
    let e = c.args.event in
    let fresh : fired_in e.0 r ≡ false = search rules in
    let side = sym (ap (λ (q : Placed). q.line.side) is) ∙ c.in-Out.is in
    let first = c.first_missing.ensures st.chart copy (instance_at st.chart e c.args.place is) in
    above_told st (record { fired = r; waiting = w; play = play }) e (not_in e r fresh) (event_at st.chart e.0) side c.first_missing.result c.map_or.result first (search (rules, tests))

pub returns-in-In-clause-says : goal.returns-in-In-clause-says
returns-in-In-clause-says c = λ st w play copy is.
    let r = vec_items c.args.self.now.fired in
    let e = c.args.event in
    let fresh : fired_in e.0 r ≡ false = search rules in
    let side = sym (ap (λ (q : Placed). q.line.side) is) ∙ c.in-In.is in
    let sent-off = sym (c.was_sent.ensures st.chart copy) ∙ c.if-was_sent.true in
    out_there st (record { fired = r; waiting = w; play = play }) e (not_in e r fresh) (event_at st.chart e.0) side (there st.chart e c.args.place is r sent-off)

pub returns-in-In-2-clause-says : goal.returns-in-In-2-clause-says
returns-in-In-2-clause-says c = λ st w play copy is.
    let r = vec_items c.args.self.now.fired in
    let e = c.args.event in
    let fresh : fired_in e.0 r ≡ false = search rules in
    let side = sym (ap (λ (q : Placed). q.line.side) is) ∙ c.in-In-2.is in
    let sent-off = sym (c.was_sent.ensures st.chart copy) ∙ c.if-was_sent.false in
    out_missing st (record { fired = r; waiting = w; play = play }) e (not_in e r fresh) (event_at st.chart e.0) side (missing st.chart e c.args.place is r sent-off)
