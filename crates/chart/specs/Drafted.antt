-- What a draft says.
use Rattle.chart.specs.Content.{Content}
use Rattle.chart.specs.Shown.{content_of}
use Rattle.chart.specs.declared.drafting.Draft.{Draft}

abbrev pub drafted : Draft → Content
drafted d = content_of d.parts
