use Rattle.std.proofs.Common.{IsUtf8, sym, subst, rules}
use Rattle.console.proofs.Spelling.{name_utf8}
use Rattle.console.proofs.table.shown.Goals as goal

pub unwrap-requires : goal.unwrap-requires
unwrap-requires c = let text = subst IsUtf8 (sym c.text.ensures) (name_utf8 _ c.args.name.now.valid) in search rules
