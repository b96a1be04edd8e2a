use Rattle.std.proofs.Common.{get_or, arith}
use Rattle.std.proofs.lemmas.Result.{err_from_is_err_and}
use Rattle.slip.specs.Slips.{slip_of}
use Rattle.rows.specs.Kinds.{row_in, row_size}
use Rattle.rows.proofs.Tallies.{left-first, left_step, left_refused, left_last, refused_then, one-null}
use Rattle.rows.proofs.passes.count_rows.Goals as goal

pub loop-p-init : goal.loop-p-init
loop-p-init g c =
    let b = g.K.RowKind.branch c.args.kind.now in
    let cs = g.K.RowKind.children c.args.kind.now in
    (omega arith, omega arith, (λ z. omega arith), left-first b cs (row_in c.args.reading b cs) c.args.reading.rows.positions.now)

pub loop-p-preserved : goal.loop-p-preserved
loop-p-preserved g c =
    let b = g.K.RowKind.branch c.args.kind.now in
    let cs = g.K.RowKind.children c.args.kind.now in
    let row = c.in_ok-row.row in
    let i = c.loop-p.p-index in
    let said = c.in_ok-row.ensures in (
      omega (arith, said.few.0, c.loop-p.invariant.0),
      omega (arith, one-null row.null, c.loop-p.invariant.1),
      (λ z. omega (arith, said.few.1 z, c.loop-p.invariant.2 z)),
      left_step b cs (row_in c.args.reading b cs) c.args.reading.rows.positions.now i c.loop-p.items c.loop-p.nulls c.loop-p-test.true c.loop-p.invariant.3 row said.said,
    )

pub returns : goal.returns
returns g c =
    let b = g.K.RowKind.branch c.args.kind.now in
    let cs = g.K.RowKind.children c.args.kind.now in
    record {
      said = left_last b cs (row_in c.args.reading b cs) c.args.reading.rows.positions.now c.loop-p.p-index c.loop-p.items c.loop-p.nulls c.loop-p-test.false c.loop-p.invariant.3;
      few = (omega (arith, c.loop-p.invariant.0), omega (arith, c.loop-p.invariant.1), λ z. omega (arith, c.loop-p.invariant.2 z));
    }

pub returns-in_err-row : goal.returns-in_err-row
returns-in_err-row g c =
    let b = g.K.RowKind.branch c.args.kind.now in
    let cs = g.K.RowKind.children c.args.kind.now in
    let row = row_in c.args.reading b cs in
    let ps = c.args.reading.rows.positions.now in
    let i = c.loop-p.p-index in
    let f = c.in_err-row.field-0.0 in
    let p = err_from_is_err_and c.from_residual.result c.from_residual.ensures.1 in
    rw (p.1, p.2) (record { few = tt; said = left_refused b cs row ps i c.loop-p.items c.loop-p.nulls c.loop-p-test.true c.loop-p.invariant.3 (slip_of f) (refused_then (row (get_or ps i 0)) (row_size b cs) (slip_of f) c.in_err-row.ensures.said) })
