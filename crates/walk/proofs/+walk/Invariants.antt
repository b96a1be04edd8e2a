use Rattle.std.proofs.Common.{◌≡◌, ◌-◌, ◌^◌, ◌≤◌, length}
use Rattle.tape.specs.Opened.{view_of}
use Rattle.schema.specs.Layout.{end_at}
use Rattle.schema.specs.Children.{rest}
use Rattle.schema.specs.Opened.{records_of}
use Rattle.columns.specs.Areas.{Blank}
use Rattle.nodes.specs.Contract.{seen, Positions}
use Rattle.nodes.proofs.Walking.{Between}
use Rattle.walk.proofs.+walk.Given as goal

abbrev pub decreases-walk : goal.decreases-walk
decreases-walk g l = end_at (records_of l.named.frame.schema) l.visit.node - l.visit.node

-- the rows that are left are few positions of the tape, and between two children what is left gives what the whole gives
abbrev pub invariant-loop-child : goal.invariant-loop-child
invariant-loop-child g l =
    (goal.iterator-loop-child g).can_next l.child-iterator
    × (goal.iterator-loop-child g).is_finite l.child-iterator
    × (l.rows.0 ≡ l.visit.rows.tape)
    × Positions (view_of l.rows.0) l.rows.1.0.now
    × (length l.rows.1.0.now ≤ 2 ^ 24)
    × (l.top ≤ length l.area)
    × Blank l.area l.top
    × Between (seen g.X.Leaf.meaning l.named.frame l.visit) l.stride l.initial.area (length l.initial.deeper) l.initial.top l.rows.1.0.now (rest l.child-iterator) l.area l.top
