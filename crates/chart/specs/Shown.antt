-- What stored parts say.
pub use Rattle.chart.specs.Kept.{title_of, happening, post}
use Rattle.chart.specs.Kept.{kept}
use Rattle.chart.specs.Content.{Content}
use Rattle.chart.specs.declared.pieces.Parts.{Parts}

abbrev pub content_of : Parts → Content
content_of p = kept p.title p.instances p.messages p.events
