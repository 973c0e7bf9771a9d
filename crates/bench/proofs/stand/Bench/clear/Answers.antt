use Rattle.std.proofs.Common.{refl}
use Rattle.bench.proofs.Standing.{none_from, cleared_sound}
use Rattle.bench.proofs.stand.Bench.clear.Goals as goal

pub returns-clause-remains : goal.returns-clause-remains
returns-clause-remains g c =
    let emptied = c.empty.ensures in
    record {
      same = record { layout = refl; rule = emptied.rule; room = emptied.room; layer = emptied.layer };
      sound = λ content s. cleared_sound g.D.Delivery content _ emptied.starts s.laid s.few_messages s.copy c.clear.ensures.items emptied.empties (none_from _ c.in_ok-must_be_closed.ensures);
    }
