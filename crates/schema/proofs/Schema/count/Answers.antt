use Rattle.std.proofs.Common.{◌∙◌}
use Rattle.schema.proofs.Nodes.{held_written}
use Rattle.schema.proofs.Schema.count.Goals as goal

pub returns-clause-node : goal.returns-clause-node
returns-clause-node c = λ t h. c.count.ensures.said ∙ (held_written h).count
