use Rattle.std.proofs.Common.{◌≤◌, length, ap, ◌∙◌, subst, inl, arith, rules}
use Rattle.chart.specs.Charted.{content}
use Rattle.analysis.specs.Races.{races_of, InChart}
use Rattle.analysis.specs.Records.{records}
use Rattle.analysis.specs.Settings.{races_in}
use Rattle.analysis.specs.Writing.{Fronted}
use Rattle.std.proofs.lemmas.Iterator.Consumers.{count_from_yields_List}
use Rattle.analysis.proofs.ExactRaces.{exact_pairs}
use Rattle.analysis.proofs.Sweeping.{few_events, few_races, in_chart}
use Rattle.analysis.proofs.Telling.{small, report_short, report_whole}
use Rattle.analysis.proofs.Walked.{walked, of_next, record_fits, all_given}
use Rattle.analysis.proofs.reporting.report.Goals as goal

pub count-pairs-requires-clause-fits : goal.count-pairs-requires-clause-fits
count-pairs-requires-clause-fits g c =
    let t = c.of-survey.result.setting in
    let few = few_races (content t.chart.now) (g.D.Delivery.rule t.delivery.now) (g.D.Delivery.room t.delivery.now) (few_events t.chart.now) in
    let all = ap (λ w. length w.left) c.races.ensures in
    inl (omega arith)

pub overflow_mul-pairs : goal.overflow_mul-pairs
overflow_mul-pairs g c =
    let t = c.of-survey.result.setting in
    let few = few_races (content t.chart.now) (g.D.Delivery.rule t.delivery.now) (g.D.Delivery.room t.delivery.now) (few_events t.chart.now) in
    let all = ap (λ w. length w.left) c.races.ensures in
    let bound = c.count-pairs.ensures.bound in
    let l : c.count-pairs.result ≤ 16384 = omega arith in
    search rules

pub returns-then-buffer-pairs : goal.returns-then-buffer-pairs
returns-then-buffer-pairs g c =
    let rule = g.D.Delivery.rule in
    let room = g.D.Delivery.room in
    let d = c.args.delivery.now in
    let all = ap (λ w. w.left) c.races.ensures ∙ ap (races_in rule room) c.of-survey.ensures in
    let pairs = count_from_yields_List c.races.result c.count-pairs.result c.count-pairs.ensures.ran (walked c.races.result _ all) in
    let told = report_short (races_of (content c.args.chart.now) (rule d) (room d)) c.args.buffer.now c.count-pairs.result pairs c.if-buffer-pairs.true in
    record { answer = told.0; bytes = told.1; exact = exact_pairs c.args.chart.now _ _ (g.met.D.Delivery.transitive d) (g.met.D.Delivery.some d) }

pub record_of-requires : goal.record_of-requires
record_of-requires g c =
    let rule = g.D.Delivery.rule in
    let room = g.D.Delivery.room in
    let d = c.args.delivery.now in
    let chart = c.args.chart.now in
    let all = ap (λ w. w.left) (c.into_iter-race-iterator.ensures.into_iter_gives ∙ c.races-race-items.ensures) ∙ ap (races_in rule room) c.of-survey.ensures in
    small chart c.in-Some.race
    (of_next (InChart (content chart)) c.into_iter-race-iterator.result (races_of (content chart) (rule d) (room d)) all (in_chart chart (rule d) (room d)) c.loop-race.yielded c.loop-race.race-iterator c.loop-race.yielded_by
    c.next.result c.next.new.self c.in-Some.race c.in-Some.is c.next.ensures.steps)

pub push-requires : goal.push-requires
push-requires g c =
    let rule = g.D.Delivery.rule in
    let room = g.D.Delivery.room in
    let d = c.args.delivery.now in
    let xs = races_of (content c.args.chart.now) (rule d) (room d) in
    let all = ap (λ w. w.left) (c.into_iter-race-iterator.ensures.into_iter_gives ∙ c.races-race-items.ensures) ∙ ap (races_in rule room) c.of-survey.ensures in
    let pairs = count_from_yields_List c.races.result c.count-pairs.result c.count-pairs.ensures.ran (walked c.races.result xs (ap (λ w. w.left) c.races.ensures ∙ ap (races_in rule room) c.of-survey.ensures)) in
    let fits = record_fits xs c.into_iter-race-iterator.result all c.loop-race.yielded c.loop-race.race-iterator c.loop-race.yielded_by c.next.result c.next.new.self c.in-Some.race c.in-Some.is c.next.ensures.steps
    c.args.buffer.now c.loop-race.writer (omega arith) c.loop-race.invariant.wrote in
    omega (arith, ap length c.record_of.ensures)

pub returns : goal.returns
returns g c =
    let rule = g.D.Delivery.rule in
    let room = g.D.Delivery.room in
    let d = c.args.delivery.now in
    let xs = races_of (content c.args.chart.now) (rule d) (room d) in
    let all = ap (λ w. w.left) (c.into_iter-race-iterator.ensures.into_iter_gives ∙ c.races-race-items.ensures) ∙ ap (races_in rule room) c.of-survey.ensures in
    let pairs = count_from_yields_List c.races.result c.count-pairs.result c.count-pairs.ensures.ran (walked c.races.result xs (ap (λ w. w.left) c.races.ensures ∙ ap (races_in rule room) c.of-survey.ensures)) in
    let every = all_given xs c.into_iter-race-iterator.result all c.loop-race.yielded c.loop-race.race-iterator c.loop-race.yielded_by c.next.result c.next.new.self c.in-None.is c.next.ensures.steps in
    let told = report_whole xs c.args.buffer.now c.loop-race.writer.buffer.now c.count-pairs.result pairs (omega arith) (subst (λ ys. Fronted c.args.buffer.now (records ys) c.loop-race.writer.buffer.now) every c.loop-race.invariant.wrote.front) in
    record { answer = told.0; bytes = (search rules) ∙ told.1; exact = exact_pairs c.args.chart.now _ _ (g.met.D.Delivery.transitive d) (g.met.D.Delivery.some d) }
