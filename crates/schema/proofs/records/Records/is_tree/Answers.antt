use Rattle.schema.proofs.Nodes.{tree_found}
use Rattle.schema.proofs.records.Records.is_tree.Goals as goal

pub returns-then-is_rooted : goal.returns-then-is_rooted
returns-then-is_rooted c = rw c.eq.ensures (tree_found (c.is_rooted.ensures.0 c.if-is_rooted.true) c.tree.result c.tree.ensures c.len.result c.len.ensures)
