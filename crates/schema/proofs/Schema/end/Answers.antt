use Rattle.std.proofs.Common.{◌∙◌}
use Rattle.schema.proofs.Nodes.{held_written}
use Rattle.schema.proofs.Schema.end.Goals as goal

pub returns-clause-node : goal.returns-clause-node
returns-clause-node c = λ t h. c.end.ensures ∙ (held_written h).end
