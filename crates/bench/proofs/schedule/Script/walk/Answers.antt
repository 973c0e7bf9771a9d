use Rattle.std.proofs.Common.{◌≡◌, ◌<◌, [], ◌∷◌, ◌++◌, map, length, take, sym, ap, ◌∙◌, arith, below_more}
use Rattle.std.proofs.lemmas.List.{take_more, get_or-map, length-map}
use Rattle.bench.specs.Schedules.{entry, entry_of, entry_at, fits}
use Rattle.bench.specs.declared.schedule.Entry.{Entry}
use Rattle.bench.proofs.schedule.Script.walk.Goals as goal

pub loop-place-preserved : goal.loop-place-preserved
loop-place-preserved c =
    let k = c.loop-place.place in
    let inv = c.loop-place.invariant in
    let es = map entry_of c.args.records.now in
    let low : k < length c.args.records.now = omega arith in
    let long = length-map c.args.records.now entry_of in
    let is : c.from-entry.result ≡ entry_at es k = c.from-entry.ensures ∙ sym (get_or-map entry_of c.args.records.now k [] (entry 0 0) low) in
    record {
      copied = c.push_reserved.ensures.items ∙ ap (λ v. v ++ c.from-entry.result ∷ []) inv.copied ∙ ap (λ (x : Entry). take k es ++ x ∷ []) is ∙ sym (take_more es k (entry 0 0) (omega arith));
      count = omega (arith, c.push_reserved.ensures.len, inv.count);
      room = c.push_reserved.ensures.capacity ∙ inv.room;
      done = inv.done;
      fit = λ content copy. below_more _ _ (inv.fit content copy) (ap (fits content) (sym is) ∙ sym (c.belongs_to.ensures content copy) ∙ c.if-not-belongs_to.false);
    }
