use Rattle.std.proofs.Common.{sym, ap}
use Rattle.std.proofs.Output.{has_written_of_eq}
use Rattle.rehearse_wired.specs.Misuses.{misuse_words}
use Rattle.rehearse_wired.proofs.misuse.MisuseDisplay.fmt.Goals as goal

pub returns-in-UnknownMember-clause-writes : goal.returns-in-UnknownMember-clause-writes
returns-in-UnknownMember-clause-writes g c plain ok =
    has_written_of_eq _ _ _ _ _ (sym (ap misuse_words c.in-UnknownMember.is)) (c.write-in-UnknownMember.ensures.writes plain ok)
