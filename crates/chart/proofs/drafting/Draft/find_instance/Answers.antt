use Rattle.std.proofs.Common.{◌≡◌, ap, ◌∙◌, rules}
use Rattle.std.specs.Option.{option_map}
use Rattle.std.specs.List.{position}
use Rattle.std.specs.Str.{bytes_eq}
use Rattle.chart.specs.Names.{text_of}
use Rattle.chart.specs.declared.names.Name.{Name}
use Rattle.chart.specs.declared.numbers.InstanceId.{InstanceId}
use Rattle.chart.proofs.Stored.{seek_instance}
use Rattle.chart.proofs.drafting.Draft.find_instance.Goals as goal

pub returns : goal.returns
returns c =
    let same : option_map (λ (i : InstanceId). i.0) c.map.result ≡ c.find.result = search rules in
    same ∙ c.find.ensures ∙ ap (position (λ (n : Name). bytes_eq (text_of n) c.args.text.now)) c.deref.ensures.value ∙ seek_instance c.args.self.now.parts c.args.text.now
