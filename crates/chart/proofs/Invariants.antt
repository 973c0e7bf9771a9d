-- What always holds of the parts of a chart, all together.
use Rattle.chart.specs.Shown.{content_of}
use Rattle.chart.specs.declared.pieces.Parts.{Parts}
use Rattle.chart.proofs.Additions.{Growing}

pub growing : (p : Parts) → Growing (content_of p)
growing p =
    record {
      instances_apart = p.instances_apart;
      messages_apart = p.messages_apart;
      all_join = p.all_join;
      is_numbered = p.numbered;
      all_sent = p.all_sent;
      none_twice = p.none_twice;
    }
