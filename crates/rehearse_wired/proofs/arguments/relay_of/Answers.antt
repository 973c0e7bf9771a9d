use Rattle.std.proofs.Common.{◌≡◌, rules}
use Rattle.std.specs.Str.Parse.{digits_value, without_leading_plus}
use Rattle.rehearse_wired.specs.Requests.{IsNumber}
use Rattle.rehearse_wired.proofs.Relaying.{no_colon, no_number, is_read}
use Rattle.rehearse_wired.proofs.arguments.relay_of.Goals as goal

pub returns-in_default : goal.returns-in_default
returns-in_default c = no_colon c.args.word.now c.in_default.ensures.cases

pub returns-in_default-parse : goal.returns-in_default-parse
returns-in_default-parse c =
    let none : IsNumber c.in-Some.digits.now → ⊥ = search rules in
    no_number c.args.word.now (c.in-Some.digits, c.in-Some.names) c.in-Some.ensures.cases none

pub returns : goal.returns
returns c =
    let read : IsNumber c.in-Some.digits.now × (c.in-Ok.number ≡ digits_value 10 (without_leading_plus c.in-Some.digits.now)) = search rules in
    is_read c.args.word.now (c.in-Some.digits, c.in-Some.names) c.in-Some.ensures.cases _ c.in_ok-members.ensures.ok _ read
