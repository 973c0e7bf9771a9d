use Rattle.std.proofs.Common.{◌≡◌, ℕ, map, length, Ok, vec_items, sym, ap, ◌∙◌, arith, rules}
use Rattle.std.proofs.lemmas.Iterator.{YieldsList-from_map, YieldsList-from_range, items_from_collect, serves_from_Range}
use Rattle.std.specs.declared.alloc.AllocError.{AllocError}
use Rattle.std.specs.List.{range_with_len}
use Rattle.std.specs.declared.ops.Range.{Range}
use Rattle.std.proofs.lemmas.List.{get_or-map, length-map}
use Rattle.std.proofs.lemmas.List.FromFn.{fill_by_all}
use Rattle.chart.specs.Charted.{content}
use Rattle.chart.specs.Content.{sent}
use Rattle.chart.specs.Shown.{happening}
use Rattle.order.specs.Scenes.{event_at}
use Rattle.bench.specs.Layouts.{placed, copied}
use Rattle.bench.proofs.layout.Layout.copy.Goals as goal

pub collect-requires-clause-can : goal.collect-requires-clause-can
collect-requires-clause-can c =
    let count = ap length c.events.ensures ∙ sym (length-map (vec_items c.args.chart.now.parts.events) happening) in
    let end = ap (λ (r : Range ℕ). r.end) c.map.ensures.source in
    let same = ap (λ f. length (map happening (vec_items f.0.now.parts.events))) c.map.ensures.closure in
    (tt, serves_from_Range (λ x q k. search rules) (λ x low high. λ _ _ _ _ _ _. omega arith))

pub returns : goal.returns
returns c =
    let chart = c.args.chart.now in
    let says = content chart in
    let d = placed says (sent 0) in
    let n = length says.events in
    let count = ap length c.events.ensures ∙ sym (length-map (vec_items chart.parts.events) happening) in
    let read : vec_items c.in_ok-places.places ≡ map (λ i. placed says (event_at says i)) (range_with_len 0 (length c.events.result.now)) =
    items_from_collect {E = AllocError} (Ok c.in_ok-places.places) c.in_ok-places.ensures.ran
    (YieldsList-from_map _ (λ i. placed says (event_at says i)) (YieldsList-from_range 0 _ (length c.events.result.now) c.map.ensures.source (omega arith)) c.map.ensures.closure (λ x r q k. search rules)) in
    read ∙ ap (λ m. map (λ i. placed says (event_at says i)) (range_with_len 0 m)) count ∙ sym (fill_by_all (λ i. placed says (event_at says i)) (copied says) n d (length-map says.events (placed says)) (λ k l. get_or-map (placed says) says.events k (sent 0) d l))
