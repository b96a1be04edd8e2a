use Rattle.std.proofs.Common.{◌∙◌}
use Rattle.schema.proofs.Nodes.{held_written}
use Rattle.schema.proofs.Schema.letter.Goals as goal

pub returns-clause-node : goal.returns-clause-node
returns-clause-node c = λ t h. c.letter.ensures ∙ (held_written h).letter
