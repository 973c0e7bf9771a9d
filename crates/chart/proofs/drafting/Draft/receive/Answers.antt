use Rattle.std.proofs.Common.{◌≡◌, ℕ, ◌<◌, false, ltb, vec_len, sym, subst, arith}
use Rattle.std.proofs.lemmas.List.{length_push}
use Rattle.std.proofs.lemmas.Bool.{ltb-false}
use Rattle.chart.specs.Content.{received}
use Rattle.chart.specs.Drafting.{times_received, with_receipt}
use Rattle.chart.specs.Shown.{content_of}
use Rattle.chart.specs.declared.pieces.Parts.{Parts}
use Rattle.chart.proofs.Additions.{Growing, receipt_grows, few_events}
use Rattle.chart.proofs.Invariants.{growing}
use Rattle.chart.proofs.Stored.{message_count, event_count, with_receipt_lem}
use Rattle.chart.proofs.drafting.Draft.receive.Goals as goal

module _ (p : Parts) (m : ℕ) (known : m < vec_len p.messages) (new : ltb 0 (times_received (content_of p) m) ≡ false) where
  grown : Growing (with_receipt (content_of p) m)
  grown = receipt_grows (content_of p) m (growing p) (omega (arith, message_count p)) (omega (arith, ltb-false 0 _ new))

  room : vec_len p.events < 128
  room = omega (arith, few_events (with_receipt (content_of p) m) grown, length_push (content_of p).events (received m), event_count p, message_count p, p.few_messages)

pub push_reserved-requires : goal.push_reserved-requires
push_reserved-requires c = omega (arith, room c.args.self.now.parts c.args.message.0 (omega arith) (sym c.if-is_received.ensures), c.args.self.now.event_room)

pub invariant_of-self : goal.invariant_of-self
invariant_of-self c =
    let p : Parts = c.args.self.now.parts in
    let g = subst Growing (sym (with_receipt_lem p c.push_reserved.new.self c.args.message c.push_reserved.ensures.items)) (grown p c.args.message.0 (omega arith) (sym c.if-is_received.ensures)) in (
      (p.few_instances, (p.few_messages, (g.instances_apart, (g.messages_apart, (g.all_join, (g.is_numbered, (g.all_sent, (g.none_twice, tt)))))))),
      (c.args.self.now.instance_room, (c.args.self.now.message_room, (omega (arith, c.push_reserved.ensures.capacity, c.args.self.now.event_room), (c.args.self.now.titled, (c.args.self.now.some_instance, tt))))),
    )
