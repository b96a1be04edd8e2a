use Rattle.std.proofs.Common.{get_or, ap, ◌∙◌}
use Rattle.tape.specs.Opened.{view_of}
use Rattle.batch.specs.Values.{kept}
use Rattle.leaf.specs.Replies.{reply_of}
use Rattle.columns.proofs.Scanning.{next_null, next_value, broken, scanned, conflict_from, misfit_from}
use Rattle.columns.proofs.scan.scan.Goals as goal
use Rattle.columns.proofs.scan.scan.Goals.{in-Null, in-Value}

pub loop-p-preserved : goal.loop-p-preserved
loop-p-preserved g c =
    let m = g.L.Leaf.meaning c.args.leaf.now in
    let t = view_of c.args.rows.tape in
    let here = ap (λ e. reply_of (m.answer e)) c.element.ensures in
    elim c.match-answer.branch [
      | in-Null w ↦ next_null m t c.args.node c.args.rows.positions.now _ _ _ c.loop-p-test.true c.loop-p.invariant _ _ (w.in-Null.ensures ∙ here) w.nulls-is w.bytes-is
      | in-Value w ↦ next_value m t c.args.node c.args.rows.positions.now _ _ _ c.loop-p-test.true c.loop-p.invariant _ _ _ (w.in-Value.ensures ∙ here) w.nulls-is (w.bytes-is ∙ w.saturating_add-bytes.ensures)
    ]

pub returns-in-Conflict : goal.returns-in-Conflict
returns-in-Conflict g c =
    let m = g.L.Leaf.meaning c.args.leaf.now in
    let e = conflict_from _ (c.in-Conflict.ensures ∙ ap (λ e. reply_of (m.answer e)) c.element.ensures) in
    broken m (view_of c.args.rows.tape) c.args.node c.args.rows.positions.now _ _ _ c.loop-p-test.true c.loop-p.invariant _ (ap (kept c.args.node (get_or c.args.rows.positions.now c.loop-p.p-index 0)) e)

pub returns-in-Misfit : goal.returns-in-Misfit
returns-in-Misfit g c =
    let m = g.L.Leaf.meaning c.args.leaf.now in
    let e = misfit_from _ (c.in-Misfit.ensures ∙ ap (λ e. reply_of (m.answer e)) c.element.ensures) in
    broken m (view_of c.args.rows.tape) c.args.node c.args.rows.positions.now _ _ _ c.loop-p-test.true c.loop-p.invariant _ (ap (kept c.args.node (get_or c.args.rows.positions.now c.loop-p.p-index 0)) e)

pub returns : goal.returns
returns g c = scanned (g.L.Leaf.meaning c.args.leaf.now) (view_of c.args.rows.tape) c.args.node c.args.rows.positions.now _ _ _ c.loop-p-test.false c.loop-p.invariant
