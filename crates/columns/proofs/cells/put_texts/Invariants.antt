use Rattle.tape.specs.Opened.{view_of}
use Rattle.columns.specs.Leaves.{cells}
use Rattle.columns.proofs.Filling.{TextsTo}
use Rattle.columns.proofs.cells.put_texts.Given as goal

abbrev pub invariant-loop-i : goal.invariant-loop-i
invariant-loop-i g l = TextsTo g.O.OffsetSize.WIDTH (cells (g.L.Leaf.meaning l.leaf) (view_of l.rows.tape) l.rows.positions.now) l.i l.end l.out
