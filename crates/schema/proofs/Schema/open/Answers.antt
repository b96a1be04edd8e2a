use Rattle.schema.proofs.Nodes.{one_tree, all_formed, all_held}
use Rattle.schema.proofs.Schema.open.Goals as goal

pub returns-then-is_tree-clause-one : goal.returns-then-is_tree-clause-one
returns-then-is_tree-clause-one c = one_tree _ _

pub returns-then-is_tree-clause-formed : goal.returns-then-is_tree-clause-formed
returns-then-is_tree-clause-formed c = all_formed _ _

pub returns-then-is_tree-clause-held : goal.returns-then-is_tree-clause-held
returns-then-is_tree-clause-held c = all_held _ _
