use Rattle.tape.specs.Opened.{view_of}
use Rattle.columns.proofs.Scanning.{Scanning}
use Rattle.columns.proofs.scan.scan.Given as goal

abbrev pub invariant-loop-p : goal.invariant-loop-p
invariant-loop-p g l = Scanning (g.L.Leaf.meaning l.leaf) (view_of l.rows.tape) l.node l.rows.positions.now l.p-index l.nulls l.bytes
