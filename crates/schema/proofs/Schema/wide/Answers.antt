use Rattle.std.proofs.Common.{◌∙◌}
use Rattle.schema.specs.Held.{wide_of}
use Rattle.schema.proofs.Nodes.{held_written, flag_read}
use Rattle.schema.proofs.Schema.wide.Goals as goal

pub returns-clause-node : goal.returns-clause-node
returns-clause-node c = λ t h. flag_read (wide_of t) _ (c.wide.ensures ∙ (held_written h).wide)
