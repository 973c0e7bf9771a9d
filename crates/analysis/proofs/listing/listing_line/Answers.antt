use Rattle.std.proofs.Common.{◌≡◌, length, sym, ap, ◌∙◌, subst, arith}
use Rattle.chart.specs.Charted.{content}
use Rattle.analysis.specs.Listing.{race_line, count_line}
use Rattle.analysis.specs.Races.{races_of, InChart}
use Rattle.analysis.specs.Settings.{races_in}
use Rattle.analysis.proofs.ExactRaces.{exact_pairs}
use Rattle.analysis.proofs.Sweeping.{few_events, few_races, in_chart}
use Rattle.analysis.proofs.Telling.{line_beyond, line_told, line_race, line_count}
use Rattle.analysis.proofs.Walked.{nth_given, nth_lacking}
use Rattle.analysis.proofs.listing.listing_line.Goals as goal

pub returns-then-buffer-lt-LINE_ROOM-clause-exact : goal.returns-then-buffer-lt-LINE_ROOM-clause-exact
returns-then-buffer-lt-LINE_ROOM-clause-exact g c =
    let d = c.args.delivery.now in exact_pairs c.args.chart.now (g.D.Delivery.rule d) (g.D.Delivery.room d) (g.met.D.Delivery.transitive d) (g.met.D.Delivery.some d)

pub put_race-requires-clause-known : goal.put_race-requires-clause-known
put_race-requires-clause-known g c =
    let rule = g.D.Delivery.rule in
    let room = g.D.Delivery.room in
    let d = c.args.delivery.now in
    let chart = c.args.chart.now in
    let xs = races_of (content chart) (rule d) (room d) in
    let start : c.races-walk.result ≡ record { left = xs; given = 0 } = c.races-walk.ensures ∙ ap (λ t. record { left = races_in rule room t; given = 0 }) c.of-survey.ensures in
    let found = nth_given xs c.races-walk.result start c.args.line c.nth.result c.nth.new.self c.nth.ensures.ran c.in-Some.race c.in-Some.is in
    subst (InChart (content chart)) (sym found.1) (in_chart chart (rule d) (room d) c.args.line c.in-Some.race found.0)

pub returns-in-Some : goal.returns-in-Some
returns-in-Some g c =
    let rule = g.D.Delivery.rule in
    let room = g.D.Delivery.room in
    let d = c.args.delivery.now in
    let chart = c.args.chart.now in
    let xs = races_of (content chart) (rule d) (room d) in
    let start : c.races-walk.result ≡ record { left = xs; given = 0 } = c.races-walk.ensures ∙ ap (λ t. record { left = races_in rule room t; given = 0 }) c.of-survey.ensures in
    let found = nth_given xs c.races-walk.result start c.args.line c.nth.result c.nth.new.self c.nth.ensures.ran c.in-Some.race c.in-Some.is in
    let l = found.0 in
    let told = line_told xs (content chart) c.args.line c.args.buffer.now c.if-buffer-lt-LINE_ROOM.false (race_line (content chart) c.in-Some.race) c.put_race.new.buffer c.put_race.result (omega arith) (line_race xs (content chart) c.args.line c.in-Some.race l found.1) c.put_race.ensures.front c.put_race.ensures.long in
    record { answer = told.0; bytes = told.1; exact = exact_pairs chart (rule d) (room d) (g.met.D.Delivery.transitive d) (g.met.D.Delivery.some d) }

pub returns-then-line-pairs : goal.returns-then-line-pairs
returns-then-line-pairs g c =
    let rule = g.D.Delivery.rule in
    let room = g.D.Delivery.room in
    let d = c.args.delivery.now in
    let chart = c.args.chart.now in
    let xs = races_of (content chart) (rule d) (room d) in
    let start : c.races-walk.result ≡ record { left = xs; given = 0 } = c.races-walk.ensures ∙ ap (λ t. record { left = races_in rule room t; given = 0 }) c.of-survey.ensures in
    let all = nth_lacking xs c.races-walk.result start c.args.line c.nth.result c.nth.new.self c.nth.ensures.ran c.in_default.is in
    let told = line_beyond xs (content chart) c.args.line c.args.buffer.now c.if-buffer-lt-LINE_ROOM.false (omega (arith, all.1, c.given-pairs.ensures, c.if-line-pairs.true)) in
    record { answer = told.0; bytes = told.1; exact = exact_pairs chart (rule d) (room d) (g.met.D.Delivery.transitive d) (g.met.D.Delivery.some d) }

pub put_count-requires-clause-few : goal.put_count-requires-clause-few
put_count-requires-clause-few g c =
    let rule = g.D.Delivery.rule in
    let room = g.D.Delivery.room in
    let d = c.args.delivery.now in
    let chart = c.args.chart.now in
    let xs = races_of (content chart) (rule d) (room d) in
    let start : c.races-walk.result ≡ record { left = xs; given = 0 } = c.races-walk.ensures ∙ ap (λ t. record { left = races_in rule room t; given = 0 }) c.of-survey.ensures in
    let all = nth_lacking xs c.races-walk.result start c.args.line c.nth.result c.nth.new.self c.nth.ensures.ran c.in_default.is in
    omega (arith, all.1, c.given-pairs.ensures, few_races (content chart) (rule d) (room d) (few_events chart))

pub returns : goal.returns
returns g c =
    let rule = g.D.Delivery.rule in
    let room = g.D.Delivery.room in
    let d = c.args.delivery.now in
    let chart = c.args.chart.now in
    let xs = races_of (content chart) (rule d) (room d) in
    let start : c.races-walk.result ≡ record { left = xs; given = 0 } = c.races-walk.ensures ∙ ap (λ t. record { left = races_in rule room t; given = 0 }) c.of-survey.ensures in
    let all = nth_lacking xs c.races-walk.result start c.args.line c.nth.result c.nth.new.self c.nth.ensures.ran c.in_default.is in
    let most = all.0 in
    let count : c.given-pairs.result ≡ length xs = c.given-pairs.ensures ∙ all.1 in
    let l = c.if-line-pairs.false in
    let told = line_told xs (content chart) c.args.line c.args.buffer.now c.if-buffer-lt-LINE_ROOM.false (count_line c.given-pairs.result) c.put_count.new.buffer c.put_count.result (omega arith) (line_count xs (content chart) c.args.line (omega arith) ∙ ap count_line (sym count)) c.put_count.ensures.front c.put_count.ensures.long in
    record { answer = told.0; bytes = told.1; exact = exact_pairs chart (rule d) (room d) (g.met.D.Delivery.transitive d) (g.met.D.Delivery.some d) }
