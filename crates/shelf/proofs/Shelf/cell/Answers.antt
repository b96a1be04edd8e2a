use Rattle.std.proofs.Common.{◌<◌, Err, ap, ◌∙◌, arith}
use Rattle.std.proofs.lemmas.Result.{err_from_is_err_and}
use Rattle.slip.specs.Slips.{Got, got, then, answer_of}
use Rattle.schema.specs.Tree.{node_at, kind_of}
use Rattle.schema.specs.Layout.{record_count}
use Rattle.schema.specs.Opened.{records_of}
use Rattle.schema.proofs.Nodes.{held_at}
use Rattle.batch.specs.Cells as Batch
use Rattle.batch.specs.Cells.{triple}
use Rattle.shelf.specs.Standing.{shape_by}
use Rattle.shelf.specs.Shelves.{setup_in}
use Rattle.shelf.proofs.Shapes.{shape_is}
use Rattle.shelf.proofs.Cells.{cell-at}
use Rattle.shelf.proofs.Shelf.cell.Goals as goal

pub returns-in_err-content-clause-held : goal.returns-in_err-content-clause-held
returns-in_err-content-clause-held g c = λ root size held h.
    let st = setup_in g.X.Leaf.meaning c.args.self.now root size in
    let there : c.args.node < record_count (records_of c.args.self.now.schema) = omega (arith, c.len-else-batch-len.ensures.said) in
    let p = err_from_is_err_and c.from_residual.result c.from_residual.ensures.1 in
    ap answer_of (p.1 ∙ ap Err p.2)
    ∙ ap (λ (m : Got Batch.Cell). then m (λ x. got (triple x)))
    (c.in_err-content.ensures
    ∙ cell-at h c.args.batch c.args.node c.args.slot c.bounds-from.result.0 c.bounds-from.result.1 c.shape-shape.result (omega (arith, h.many)) (omega (arith, c.len-else-batch-len.ensures.tree root h.tree))
    c.bounds-from.ensures.from c.bounds-from.ensures.to
    (c.shape-shape.ensures (node_at root c.args.node) (held_at h.tree c.args.node there)
    ∙ ap (λ l. shape_by l (kind_of (node_at root c.args.node))) c.layout.ensures ∙ shape_is st (node_at root c.args.node)))

pub returns-clause-held : goal.returns-clause-held
returns-clause-held g c = λ root size held h.
    let st = setup_in g.X.Leaf.meaning c.args.self.now root size in
    let there : c.args.node < record_count (records_of c.args.self.now.schema) = omega (arith, c.len-else-batch-len.ensures.said) in
    ap got c.into.ensures
    ∙ ap (λ (m : Got Batch.Cell). then m (λ x. got (triple x)))
    (c.in_ok-content.ensures
    ∙ cell-at h c.args.batch c.args.node c.args.slot c.bounds-from.result.0 c.bounds-from.result.1 c.shape-shape.result (omega (arith, h.many)) (omega (arith, c.len-else-batch-len.ensures.tree root h.tree))
    c.bounds-from.ensures.from c.bounds-from.ensures.to
    (c.shape-shape.ensures (node_at root c.args.node) (held_at h.tree c.args.node there)
    ∙ ap (λ l. shape_by l (kind_of (node_at root c.args.node))) c.layout.ensures ∙ shape_is st (node_at root c.args.node)))
