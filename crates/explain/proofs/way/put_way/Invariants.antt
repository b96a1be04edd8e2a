use Rattle.std.proofs.Common.{◌-◌, ◌<◌}
use Rattle.schema.specs.Opened.{TreeOf, NodeOf, size_of}
use Rattle.schema.specs.Tree.{Node}
use Rattle.explain.specs.Way.{way_to}
use Rattle.explain.proofs.Joins.{Leads}
use Rattle.explain.proofs.way.put_way.Given as goal

abbrev pub invariant-loop-child : goal.invariant-loop-child
invariant-loop-child l =
    (l.parent < size_of l.schema)
    × ((root : Node) → TreeOf l.schema root → (t : Node) × NodeOf l.schema l.parent t × Leads (way_to l.node root) l.initial.w (way_to l.node t) l.w)

abbrev pub decreases-loop-child : goal.decreases-loop-child
decreases-loop-child l = size_of l.schema - l.parent
