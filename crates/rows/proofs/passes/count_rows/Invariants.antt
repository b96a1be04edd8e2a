use Rattle.std.proofs.Common.{◌≡◌, ◌*◌, ◌^◌, ◌≤◌}
use Rattle.schema.specs.Tree.{many}
use Rattle.rows.specs.Kinds.{row_in}
use Rattle.rows.proofs.Tallies.{Left}
use Rattle.rows.proofs.passes.count_rows.Given as goal

abbrev pub invariant-loop-p : goal.invariant-loop-p
invariant-loop-p g l =
    let b = g.K.RowKind.branch l.kind in
    let cs = g.K.RowKind.children l.kind in
    (l.items ≤ 2 ^ 24 * l.p-index) × (l.nulls ≤ l.p-index) × (many cs ≡ 0 → l.items ≤ l.p-index) × Left b cs (row_in l.reading b cs) l.reading.rows.positions.now l.p-index l.items l.nulls
