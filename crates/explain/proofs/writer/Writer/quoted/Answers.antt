use Rattle.explain.proofs.Joins.{puts_join}
use Rattle.explain.proofs.writer.Writer.quoted.Goals as goal

pub returns : goal.returns
returns c = puts_join c.put.ensures (puts_join c.put-2.ensures c.put-3.ensures)
