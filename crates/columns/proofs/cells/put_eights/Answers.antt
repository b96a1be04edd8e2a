use Rattle.std.proofs.Common.{ℕ, ◌*◌, length, sym, ap, ◌∙◌, arith}
use lib.ListN.{length-map, length-replicate}
use Rattle.tape.specs.Opened.{view_of}
use Rattle.tape.specs.Values.{elem_of}
use Rattle.leaf.specs.Meaning.{shown}
use Rattle.columns.specs.Leaves.{cells, cell_at}
use Rattle.columns.proofs.Filling.{cell_here, eights-start, eights_more, eights_end, wide_cell, thin_cell}
use Rattle.columns.proofs.cells.put_eights.Goals as goal

pub loop-i-init : goal.loop-i-init
loop-i-init g c = eights-start _ (length c.args.rows.positions.now) c.args.out.now (sym (length-map c.args.rows.positions.now _)) c.requires.blank

pub put_value-requires : goal.put_value-requires
put_value-requires g c =
    let thin = thin_cell 8 ((g.L.Leaf.meaning c.args.leaf.now).answer (elem_of c.element.result)) (c.requires.bytes _) in
    let z = length-replicate {A = ℕ} (8 * length c.args.rows.positions.now) 0 in
    omega (arith, thin, c.loop-i.auto.out, ap length c.requires.blank, z, c.loop-i-test.true)

pub loop-i-preserved : goal.loop-i-preserved
loop-i-preserved g c =
    let m = g.L.Leaf.meaning c.args.leaf.now in
    let t = view_of c.args.rows.tape in
    let ps = c.args.rows.positions.now in
    let o = shown (m.answer (elem_of c.element.result)) in
    let is = cell_here m t ps c.loop-i.i c.loop-i-test.true ∙ ap (λ e. shown (m.answer e)) (sym c.element.ensures) in
    eights_more (cells m t ps) c.loop-i.i c.loop-i.out _ o (omega (arith, length-map ps (cell_at m t), c.loop-i-test.true)) c.loop-i.invariant is (wide_cell 8 _ (c.requires.bytes _)) c.put_value.ensures.after

pub returns : goal.returns
returns g c =
    let n = length-map c.args.rows.positions.now (cell_at (g.L.Leaf.meaning c.args.leaf.now) (view_of c.args.rows.tape)) in
    eights_end _ c.loop-i.i c.loop-i.out (omega (arith, n, c.loop-i-test.false)) (omega (arith, n, c.loop-i.auto.i-end)) c.loop-i.invariant
