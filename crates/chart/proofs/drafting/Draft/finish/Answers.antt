use Rattle.std.proofs.Common.{◌≡◌, true, ltb, length, sym, ◌∙◌, arith, rules}
use Rattle.std.proofs.lemmas.Bool.{ltb-true, lt-ltb}
use Rattle.chart.specs.Content.{AllReceived}
use Rattle.chart.specs.Drafting.{all_received, times_received}
use Rattle.chart.specs.Shown.{content_of}
use Rattle.chart.specs.declared.pieces.Parts.{Parts}
use Rattle.chart.proofs.Additions.{few_events}
use Rattle.chart.proofs.Invariants.{growing}
use Rattle.chart.proofs.Judging.{each_below}
use Rattle.chart.proofs.Numbering.{sent_once, sent_first, inside}
use Rattle.chart.proofs.Stored.{event_count, message_count}
use Rattle.chart.proofs.drafting.Draft.finish.Goals as goal

once : (p : Parts) → all_received (content_of p) ≡ true → AllReceived (content_of p)
once p all m l = omega (arith, ltb-true 0 _ (each_below (λ n. ltb 0 (times_received (content_of p) n)) (length (content_of p).messages) m all l), p.none_twice m l)

pub invariant_of-result : goal.invariant_of-result
invariant_of-result c =
    let p : Parts = c.args.self.parts in
    record {
      titled = c.args.self.titled ∙ sym (lt-ltb 0 _ c.args.self.some_instance);
      few_events = omega (arith, few_events (content_of p) (growing p), event_count p, message_count p, p.few_messages);
      sent_once = λ m l. sent_once (content_of p).events 0 m p.numbered (omega arith) (omega (arith, p.all_sent));
      received_once = once p (search rules);
      sent_first = λ m l. sent_first (content_of p).events 0 m p.numbered (omega arith) (omega (arith, p.all_sent));
      inside = λ e x l. omega (arith, inside (content_of p).events 0 p.numbered e x l, p.all_sent);
    }
