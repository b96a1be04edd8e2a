use Rattle.std.proofs.Common.{◌∙◌}
use Rattle.schema.specs.Tree.{field_of}
use Rattle.schema.proofs.Nodes.{held_written, flag_read}
use Rattle.schema.proofs.Schema.nullable.Goals as goal

pub returns-clause-node : goal.returns-clause-node
returns-clause-node c = λ t h. flag_read (field_of t).nullable _ (c.flag.ensures ∙ (held_written h).flag)
