use Rattle.std.proofs.Common.{vec_items, ap}
use Rattle.chart.specs.Charted.{content}
use Rattle.order.proofs.Verdict.{chart_laid}
use Rattle.bench.specs.States.{play_at}
use Rattle.bench.proofs.Standing.{same_state, cleared_sound, few_messages}
use Rattle.bench.proofs.stand.Bench.open.Goals as goal

pub returns : goal.returns
returns g c =
    let chart = c.args.chart.now in
    let emptied = c.empty.ensures in
    let own = c.in-Ok.ensures in
    record {
      rule = emptied.rule;
      room = emptied.room;
      layer = emptied.layer;
      state = same_state own.empty emptied.empties (ap (λ k. play_at k (vec_items c.in-Ok.play.entries)) own.closed);
      sound = cleared_sound g.D.Delivery (content chart) _ emptied.starts (chart_laid chart) (few_messages chart) own.copies own.empty emptied.empties own.closed;
    }
