use Rattle.std.proofs.Common.{◌≡◌, map, length, take}
use Rattle.tape.specs.Opened.{view_of}
use Rattle.columns.specs.Spans.{Begun}
use Rattle.schema.specs.Tree.{many}
use Rattle.rows.specs.Kinds.{row_there, items_in}
use Rattle.rows.specs.Filling.{Filled, Positions}
use Rattle.rows.proofs.Tallies.{gathered}
use Rattle.rows.proofs.passes.fill_rows.Given as goal

abbrev pub invariant-loop-slot : goal.invariant-loop-slot
invariant-loop-slot g l =
    let b = g.K.RowKind.branch l.kind in
    let cs = g.K.RowKind.children l.kind in
    let done = gathered (items_in l.reading b cs) l.reading.rows.positions.now l.slot in
    (l.at ≡ length done) × Filled (many cs) l.stride 0 done l.initial.work l.work × Positions (view_of l.reading.rows.tape) done
    × Begun l.spans l.out (map (row_there l.reading b cs) (take l.slot l.reading.rows.positions.now))
