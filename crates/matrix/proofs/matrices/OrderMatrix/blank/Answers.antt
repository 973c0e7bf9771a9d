use Rattle.std.proofs.Common.{refl}
use Rattle.matrix.specs.Places.{event_limit}
use Rattle.matrix.proofs.Rows.{blank_rows}
use Rattle.matrix.proofs.matrices.OrderMatrix.blank.Goals as goal

pub returns : goal.returns
returns c = blank_rows _ event_limit c.empty-row.result refl c.empty-row.ensures
