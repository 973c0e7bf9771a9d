use Rattle.std.proofs.Common.{rules}
use Rattle.matrix.proofs.Rows.{blank_rows}
use Rattle.matrix.proofs.matrices.OrderMatrix.clear.Goals as goal

pub returns : goal.returns
returns c = blank_rows _ _ c.empty.result (c.fill.ensures.after (λ y h. search rules)) c.empty.ensures
