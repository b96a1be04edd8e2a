use Rattle.std.proofs.Common.{ℕ, length, ap, ◌∙◌, arith}
use lib.ListN.{length-replicate}
use Rattle.tape.specs.Opened.{view_of}
use Rattle.batch.specs.Batch.{leaf_column}
use Rattle.columns.specs.Leaves.{cells}
use Rattle.columns.specs.Plans.{bytes_of}
use Rattle.columns.proofs.Begins.{plans_size}
use Rattle.columns.proofs.Places.{space-there, totals_exact, blank_after, column-after}
use Rattle.columns.proofs.LeafColumns.{leaf_entered}
use Rattle.columns.proofs.leaves.put_leaf.Goals as goal

pub put_buffers-requires : goal.put_buffers-requires
put_buffers-requires g c =
    let m = g.L.Leaf.meaning c.args.leaf.now in
    let os = cells m (view_of c.args.rows.tape) c.args.rows.positions.now in
    let col = leaf_column m.layout g.O.OffsetSize.WIDTH os in
    let p = c.in_ok-plan.ensures in
    let there = space-there (length c.args.area.now) 0 c.args.node c.args.top 0 col c.in_ok-end.end (c.in_ok-end.ensures col p.1) in
    let plans = totals_exact c.in_ok-plan.plan col c.args.top (length c.args.area.now) p.1 there.0 c.requires.place.page in
    let size = plans_size c.in_ok-plan.plan col plans in
    let blank = blank_after c.args.area.now _ c.args.node c.args.top c.in_ok-end.end (bytes_of c.in_ok-plan.plan) col c.requires.place (c.put_record.ensures col plans) size there.2 there.0 in
    record {
      few = omega (arith, ap length blank ∙ length-replicate {A = ℕ} (bytes_of c.in_ok-plan.plan) 0, size, there.0, c.requires.place.page);
      fits = c.requires.fits;
      planned = plans;
      blank = blank;
    }

pub returns : goal.returns
returns g c =
    let m = g.L.Leaf.meaning c.args.leaf.now in
    let os = cells m (view_of c.args.rows.tape) c.args.rows.positions.now in
    let col = leaf_column m.layout g.O.OffsetSize.WIDTH os in
    let p = c.in_ok-plan.ensures in
    let e = c.in_ok-end.ensures col p.1 in
    let there = space-there (length c.args.area.now) 0 c.args.node c.args.top 0 col c.in_ok-end.end e in
    let plans = totals_exact c.in_ok-plan.plan col c.args.top (length c.args.area.now) p.1 there.0 c.requires.place.page in
    leaf_entered m g.O.OffsetSize.WIDTH (view_of c.args.rows.tape) c.args.node c.args.top c.args.rows.positions.now c.args.area.now _ c.in_ok-end.end os p.0 e
    (column-after c.args.area.now _ c.args.node c.args.top c.in_ok-end.end col _ (c.put_record.ensures col plans) c.put_buffers.ensures there.2)
