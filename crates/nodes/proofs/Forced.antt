-- A node by its kind, and which nodes make their children nullable in force.
use Rattle.std.proofs.Common.{◌≡◌, ◌∙◌, refl}
use Rattle.schema.specs.Tree.{Node, kind_of, field_of, children_of}
use Rattle.schema.specs.declared.kind.Kind.{Kind}
use Rattle.schema.specs.OneTree.{made_of, again}

-- a node of a known kind
pub by_kind : (t : Node) (k : Kind) → k ≡ kind_of t → t ≡ made_of k (field_of t) (children_of t)
by_kind t k e = again t ∙ rw e refl
