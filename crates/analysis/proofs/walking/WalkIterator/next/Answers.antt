use Rattle.std.proofs.Common.{◌<◌, ap, arith, rules}
use Rattle.chart.specs.Charted.{content}
use Rattle.analysis.specs.Settings.{races_in}
use Rattle.analysis.proofs.Sweeping.{few_events, few_races, row_over, at_end, more_left, given_more, gives_next, gives_one, gives_none, nearer}
use Rattle.analysis.proofs.walking.WalkIterator.next.Goals as goal

pub overflow_add-self-in-Some-next_second : goal.overflow_add-self-in-Some-next_second
overflow_add-self-in-Some-next_second g c =
    let w = c.loop-self.self-inside in
    let t = w.survey.now.setting in
    let l = more_left (content t.chart.now) (g.D.Delivery.rule t.delivery.now) (g.D.Delivery.room t.delivery.now) w.sweep w.given c.loop-self.invariant.place c.in-Some.sweep c.in-Some.is c.in-Some-next_second.second c.in-Some-next_second.ensures in
    let f = few_races (content t.chart.now) (g.D.Delivery.rule t.delivery.now) (g.D.Delivery.room t.delivery.now) (few_events t.chart.now) in
    let b : w.given < 16384 = omega arith in
    search rules

pub invariant_of-self : goal.invariant_of-self
invariant_of-self g c =
    let w = c.loop-self.self-inside in
    let t = w.survey.now.setting in
    given_more (content t.chart.now) (g.D.Delivery.rule t.delivery.now) (g.D.Delivery.room t.delivery.now) w.sweep w.given c.loop-self.invariant.place c.in-Some.sweep c.in-Some.is c.in-Some-next_second.second c.in-Some-next_second.ensures

pub returns-in-Some-next_second : goal.returns-in-Some-next_second
returns-in-Some-next_second g c =
    let rule = g.D.Delivery.rule in
    let room = g.D.Delivery.room in
    let w = c.loop-self.self-inside in
    let t = w.survey.now.setting in
    let v = c.self.inside in
    let s = c.in-Some.sweep in
    let next = gives_next (content t.chart.now) (rule t.delivery.now) (room t.delivery.now) w.sweep w.given c.loop-self.invariant.place s c.in-Some.is c.in-Some-next_second.second c.in-Some-next_second.ensures in
    let step = gives_one (races_in rule room v.survey.now.setting) v.given c.args.self.now c.self.view_is (races_in rule room t) w.given (ap (λ b. races_in rule room b.now.setting) c.loop-self.invariant.left) c.loop-self.invariant.given _ next in
    record { steps = step; goes = nearer c.args.self.now _ _ step }

pub loop-self-preserved : goal.loop-self-preserved
loop-self-preserved g c =
    let w = c.loop-self.self-inside in
    let t = w.survey.now.setting in
    record {
      place =
          row_over (content t.chart.now) (g.D.Delivery.rule t.delivery.now) (g.D.Delivery.room t.delivery.now) w.sweep w.given c.loop-self.invariant.place c.in-Some.sweep c.in-Some.is c.in_default-next_second.ensures
          c.sweep_at-self-inside.result c.sweep_at-self-inside.ensures;
      left = c.loop-self.invariant.left;
      given = c.loop-self.invariant.given;
    }

pub returns-clause-steps : goal.returns-clause-steps
returns-clause-steps g c =
    let rule = g.D.Delivery.rule in
    let room = g.D.Delivery.room in
    let w = c.loop-self.self-inside in
    let t = w.survey.now.setting in
    let v = c.self.inside in
    let all = at_end (content t.chart.now) (rule t.delivery.now) (room t.delivery.now) w.sweep w.given c.loop-self.invariant.place c.in_default.is in
    gives_none (races_in rule room v.survey.now.setting) v.given c.args.self.now c.self.view_is (races_in rule room t) w.given (ap (λ b. races_in rule room b.now.setting) c.loop-self.invariant.left) c.loop-self.invariant.given all
