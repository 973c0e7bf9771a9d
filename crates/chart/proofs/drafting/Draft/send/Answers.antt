use Rattle.std.proofs.Common.{◌≡◌, ℕ, ◌<◌, false, length, vec_len, sym, ◌∙◌, subst, arith}
use Rattle.std.proofs.lemmas.List.{length_push}
use Rattle.std.proofs.lemmas.Bool.{eqb-false}
use Rattle.std.proofs.lemmas.Grind.{common_steps}
use Rattle.chart.specs.Content.{sent}
use Rattle.chart.specs.Drafting.{message_called, with_message}
use Rattle.chart.specs.Names.{text_of}
use Rattle.chart.specs.Shown.{content_of}
use Rattle.chart.specs.Words.{Text}
use Rattle.chart.specs.declared.pieces.Parts.{Parts}
use Rattle.chart.proofs.Additions.{Growing, message_grows, few_events}
use Rattle.chart.proofs.Invariants.{growing}
use Rattle.chart.proofs.Judging.{joined}
use Rattle.chart.proofs.Stored.{instance_count, message_count, event_count, with_message_lem}
use Rattle.chart.proofs.drafting.Draft.send.Goals as goal

module _ (p : Parts) (t : Text) (s r : ℕ) (new : message_called (content_of p) t ≡ false) (few : vec_len p.messages < 64) (sender : s < vec_len p.instances) (receiver : r < vec_len p.instances) (apart : s ≡ r → ⊥) where
  grown : Growing (with_message (content_of p) t s r)
  grown = message_grows (content_of p) t s r (growing p) new (joined _ (record { name = t; sender = s; receiver = r }) (omega (arith, instance_count p)) (omega (arith, instance_count p)) apart)

  room : vec_len p.events < 128
  room = omega (arith, few_events (with_message (content_of p) t s r) grown, length_push (content_of p).events (sent (length (content_of p).messages)), length_push (content_of p).messages (record { name = t; sender = s; receiver = r }), event_count p, message_count p)

pub push_reserved-requires-2 : goal.push_reserved-requires-2
push_reserved-requires-2 c =
    let new : message_called (content_of c.args.self.now.parts) (text_of c.args.name) ≡ false = grind (arith, common_steps) in
    omega (arith, room c.args.self.now.parts (text_of c.args.name) c.args.sender.0 c.args.receiver.0 new (omega arith) (omega arith) (omega arith) (eqb-false _ _ (sym c.eq.ensures ∙ c.if-eq.false)), c.args.self.now.event_room)

pub invariant_of-self : goal.invariant_of-self
invariant_of-self c =
    let p : Parts = c.args.self.now.parts in
    let new : message_called (content_of p) (text_of c.args.name) ≡ false = grind (arith, common_steps) in
    let g =
    subst Growing (sym (with_message_lem p c.push_reserved.new.self c.push_reserved-2.new.self (record { name = c.args.name; sender = c.args.sender; receiver = c.args.receiver }) (record { 0 = c.len-count.result }) c.push_reserved.ensures.items c.push_reserved-2.ensures.items c.len-count.ensures))
    (grown p (text_of c.args.name) c.args.sender.0 c.args.receiver.0 new (omega arith) (omega arith) (omega arith) (eqb-false _ _ (sym c.eq.ensures ∙ c.if-eq.false)))
    in
    record {
      few_instances = p.few_instances;
      few_messages = omega (arith, c.push_reserved.ensures.len);
      instances_apart = g.instances_apart;
      messages_apart = g.messages_apart;
      all_join = g.all_join;
      numbered = g.is_numbered;
      all_sent = g.all_sent;
      none_twice = g.none_twice;
    }
