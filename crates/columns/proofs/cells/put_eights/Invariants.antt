use Rattle.tape.specs.Opened.{view_of}
use Rattle.columns.specs.Leaves.{cells}
use Rattle.columns.proofs.Filling.{EightsTo}
use Rattle.columns.proofs.cells.put_eights.Given as goal

abbrev pub invariant-loop-i : goal.invariant-loop-i
invariant-loop-i g l = EightsTo (cells (g.L.Leaf.meaning l.leaf) (view_of l.rows.tape) l.rows.positions.now) l.i l.out
