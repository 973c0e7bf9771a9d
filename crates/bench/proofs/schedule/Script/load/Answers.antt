use Rattle.std.proofs.Common.{map, vec_items, sym, subst}
use Rattle.chart.specs.Repeats.{FirstRepeat}
use Rattle.bench.specs.Schedules.{entry_of, same_event, Read}
use Rattle.bench.proofs.Schedules.{read_first}
use Rattle.bench.proofs.schedule.Script.load.Goals as goal

pub returns-clause-reads : goal.returns-clause-reads
returns-clause-reads c = λ content copy.
    let es = map entry_of c.args.records.now in
    let taken = vec_items c.walk-unfit.new.self.entries in
    subst (λ r. Read content es r taken) (sym c.or.ensures)
    (read_first content es c.walk-unfit.result c.first_repeat.result taken (c.walk-unfit.ensures.walks content copy) (subst (λ q. FirstRepeat same_event q c.first_repeat.result) c.deref.ensures.value c.first_repeat.ensures))
