use Rattle.std.proofs.Common.{◌∙◌}
use Rattle.schema.specs.Tree.{branch}
use Rattle.schema.specs.declared.kind.Branch.TheVariants.{Struct as struct}
use Rattle.schema.proofs.Nodes.{held_written}
use Rattle.rows.proofs.Alike.{names-named}
use Rattle.replay_tests.proofs.ByScanStructRows.enter_struct.Goals as goal

pub returns : goal.returns
returns c = λ f cs h. c.enter.ensures f cs (held_written h).number (names-named _ ∙ c.of-scan.ensures.names (branch f struct cs) h)
