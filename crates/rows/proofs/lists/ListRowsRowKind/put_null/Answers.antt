use Rattle.rows.proofs.Cells.{filled_none}
use Rattle.rows.proofs.lists.ListRowsRowKind.put_null.Goals as goal

pub returns : goal.returns
returns c = filled_none 1 c.args._stride c.args._at c.args._work.now
