use Rattle.std.proofs.Common.{◌≡◌}
use Rattle.schema.specs.Children.{rest}
use Rattle.nodes.specs.Contract.{seen}
use Rattle.bare.proofs.Leaving.{Inside}
use Rattle.bare.proofs.leave.Given as goal

abbrev pub invariant-loop-child : goal.invariant-loop-child
invariant-loop-child g l =
    let v = seen g.X.Leaf.meaning l.frame l.visit in
    (goal.iterator-loop-child g).can_next l.child-iterator
    × (goal.iterator-loop-child g).is_finite l.child-iterator
    × (l.rows.tape ≡ l.visit.rows.tape)
    × Inside v l.slots l.rows.positions.now (rest l.child-iterator)
