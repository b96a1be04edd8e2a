use Rattle.std.proofs.Common.{sym, subst}
use lib.ListN.{length-map}
use Rattle.tape.specs.Opened.{view_of}
use Rattle.leaf.specs.declared.layout.Layout.{Layout}
use Rattle.batch.specs.Batch.{leaf_column}
use Rattle.columns.specs.Leaves.{cells, cell_at, Whole}
use Rattle.columns.specs.Plans.{Totals}
use Rattle.columns.proofs.LeafColumns.{whole_cells, plan_few}
use Rattle.columns.proofs.leaves.plan_leaf.Goals as goal

pub returns : goal.returns
returns g c =
    let m = g.L.Leaf.meaning c.args.leaf.now in
    let t = view_of c.args.rows.tape in
    let os = cells m t c.args.rows.positions.now in
    let s = c.in_ok-seen.ensures in
    let many = length-map c.args.rows.positions.now (cell_at m t) in
    let T : Layout → Type 0 = λ l. Whole l os → Totals c.sized.result (leaf_column l g.O.OffsetSize.WIDTH os) in
    let totals = subst T c.layout.ensures (c.sized.ensures os many (sym s.1) s.2) (whole_cells m t c.requires.fits c.args.rows.positions.now) in
    let few = plan_few m.layout g.O.OffsetSize.WIDTH os _ _ totals many in
    (s.0, totals, few.0, few.1)
