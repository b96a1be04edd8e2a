use Rattle.schema.specs.Children.{rest}
use Rattle.schema.specs.Opened.{NodeOf, records_of, names_of}
use Rattle.schema.specs.Tree.{Node}
use Rattle.explain.proofs.Ways.{Left}
use Rattle.explain.proofs.way.toward.Given as goal

abbrev pub invariant-loop-child : goal.invariant-loop-child
invariant-loop-child l =
    (goal.iterator-loop-child).can_next l.child-iterator
    × (goal.iterator-loop-child).is_finite l.child-iterator
    × ((t : Node) → NodeOf l.schema l.parent t → Left (records_of l.schema) (names_of l.schema) l.parent l.node t (rest l.child-iterator))
