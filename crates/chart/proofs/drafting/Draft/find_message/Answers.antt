use Rattle.std.proofs.Common.{sym, ap, ◌∙◌}
use Rattle.std.specs.List.{position}
use Rattle.std.specs.Option.{option_map}
use Rattle.std.specs.Str.{bytes_eq}
use Rattle.chart.specs.Names.{text_of}
use Rattle.chart.specs.declared.drafting.consulting.Sent.{Sent}
use Rattle.chart.specs.declared.pieces.Message.{Message}
use Rattle.chart.proofs.Stored.{seek_message}
use Rattle.chart.proofs.drafting.Draft.find_message.Goals as goal

pub returns-in_err-place-clause-number : goal.returns-in_err-place-clause-number
returns-in_err-place-clause-number c =
    ap (option_map (λ (p : Sent). p.number.0)) c.from_residual.ensures ∙ sym c.in_err-place.was ∙ c.find.ensures
    ∙ ap (position (λ (m : Message). bytes_eq (text_of m.name) c.args.text.now)) c.deref.ensures.value ∙ seek_message c.args.self.now.parts c.args.text.now

pub returns-clause-number : goal.returns-clause-number
returns-clause-number c =
    sym c.in_ok-place.was ∙ c.find.ensures
    ∙ ap (position (λ (m : Message). bytes_eq (text_of m.name) c.args.text.now)) c.deref.ensures.value ∙ seek_message c.args.self.now.parts c.args.text.now
