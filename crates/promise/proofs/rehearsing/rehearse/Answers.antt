use Rattle.std.proofs.Common.{◌∙◌}
use Rattle.chart.specs.Charted.{content}
use Rattle.promise.proofs.Whole.{session_of, stage_of_lem, reported_of, scheduled_of, recorded_of}
use Rattle.promise.proofs.rehearsing.rehearse.Goals as goal

pub returns : goal.returns
returns g c =
    let m = g.D.Delivery in
    let chart = c.args.chart.now in
    let d = c.args.delivery in
    let transitive = g.met.D.Delivery.transitive d in
    let some = g.met.D.Delivery.some d in
    let o = c.in-Ok-open.ensures in
    let p = c.perform.ensures in
    let sound = p.onward.remains.sound (content chart) o.sound in
    record {
      session = session_of (stage_of_lem m chart d transitive some _ o) o.state (c.reserve.ensures.len ∙ c.args.slips.ok.0) (p.performs (content chart) o.sound);
      reported = reported_of m chart d transitive some _ _ o p.onward.remains.same _ c.delivery.ensures _ _ _ c.report-report.ensures.answer c.report-report.ensures.bytes;
      scheduled = scheduled_of m chart d transitive some _ _ o p.onward.remains.same _ c.delivery-2.ensures _ _ _ _ _ c.schedule-schedule.ensures;
      recorded = recorded_of m chart d transitive some _ _ o p.onward.remains.same sound;
    }
