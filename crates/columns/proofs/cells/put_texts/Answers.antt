use Rattle.std.proofs.Common.{ℕ, ◌+◌, ◌*◌, length, sym, ap, ◌∙◌, arith}
use lib.ListN.{length-map}
use Rattle.tape.specs.Opened.{view_of}
use Rattle.tape.specs.Values.{elem_of}
use Rattle.leaf.specs.Meaning.{shown}
use Rattle.octets.specs.Lists.{splice}
use Rattle.octets.specs.Numbers.{padded, le}
use Rattle.columns.specs.Leaves.{cells, cell_at}
use Rattle.columns.proofs.Filling.{cell_here, texts-start, texts_more, texts_end, texts-room, value_room, last_room}
use Rattle.columns.proofs.cells.put_texts.Goals as goal

pub loop-i-init : goal.loop-i-init
loop-i-init g c = texts-start _ _ (length c.args.rows.positions.now) c.args.place c.args.out.now (sym (length-map c.args.rows.positions.now _)) c.requires.offsets c.requires.blank

pub overflow_mul-WIDTH : goal.overflow_mul-WIDTH
overflow_mul-WIDTH g c =
    let r = texts-room _ _ (length c.args.rows.positions.now) c.loop-i.i c.loop-i.end c.args.place c.loop-i.out (length-map c.args.rows.positions.now _) (omega arith) c.requires.offsets c.loop-i.invariant in
    omega (arith, r.1, c.requires.few, c.loop-i.auto.out, ap (λ (k : ℕ). k * c.loop-i.i) c.WIDTH.ensures)

pub put_count-requires : goal.put_count-requires
put_count-requires g c =
    let r = texts-room _ _ (length c.args.rows.positions.now) c.loop-i.i c.loop-i.end c.args.place c.loop-i.out (length-map c.args.rows.positions.now _) (omega arith) c.requires.offsets c.loop-i.invariant in
    record { place = omega (arith, r.0, ap (λ (k : ℕ). k * c.loop-i.i) c.WIDTH.ensures); small = omega (arith, r.2, c.requires.few, c.loop-i.auto.out) }

pub overflow_add-place : goal.overflow_add-place
overflow_add-place g c =
    let r = texts-room _ _ (length c.args.rows.positions.now) c.loop-i.i c.loop-i.end c.args.place c.loop-i.out (length-map c.args.rows.positions.now _) (omega arith) c.requires.offsets c.loop-i.invariant in
    omega (arith, r.2, c.requires.few, c.loop-i.auto.out)

pub put_value-end-requires : goal.put_value-end-requires
put_value-end-requires g c =
    let m = g.L.Leaf.meaning c.args.leaf.now in
    let is = cell_here m (view_of c.args.rows.tape) c.args.rows.positions.now c.loop-i.i c.loop-i-test.true ∙ ap (λ e. shown (m.answer e)) (sym c.element.ensures) in
    let r = value_room _ _ (length c.args.rows.positions.now) c.loop-i.i c.loop-i.end c.args.place c.loop-i.out _ (length-map c.args.rows.positions.now _) c.loop-i-test.true c.requires.offsets c.loop-i.invariant is in
    omega (arith, r, c.put_count.auto.out)

pub overflow_add-end : goal.overflow_add-end
overflow_add-end g c =
    let m = g.L.Leaf.meaning c.args.leaf.now in
    let is = cell_here m (view_of c.args.rows.tape) c.args.rows.positions.now c.loop-i.i c.loop-i-test.true ∙ ap (λ e. shown (m.answer e)) (sym c.element.ensures) in
    let r = value_room _ _ (length c.args.rows.positions.now) c.loop-i.i c.loop-i.end c.args.place c.loop-i.out _ (length-map c.args.rows.positions.now _) c.loop-i-test.true c.requires.offsets c.loop-i.invariant is in
    omega (arith, r, c.put_value-end.ensures.size, c.requires.few, c.loop-i.auto.out)

pub loop-i-preserved : goal.loop-i-preserved
loop-i-preserved g c =
    let m = g.L.Leaf.meaning c.args.leaf.now in
    let t = view_of c.args.rows.tape in
    let ps = c.args.rows.positions.now in
    let w = g.O.OffsetSize.WIDTH in
    let many = length-map ps (cell_at m t) in
    let is = cell_here m t ps c.loop-i.i c.loop-i-test.true ∙ ap (λ e. shown (m.answer e)) (sym c.element.ensures) in
    texts_more w (cells m t ps) c.loop-i.i c.loop-i.end c.loop-i.out (shown (m.answer (elem_of c.element.result))) (omega (arith, many, c.loop-i-test.true)) c.loop-i.invariant is
    c.args.place _ _ _ (c.requires.offsets ∙ ap (λ (k : ℕ). padded (w * (k + 1))) (sym many))
    (c.put_count.ensures ∙ ap (λ (k : ℕ). splice c.loop-i.out (k * c.loop-i.i) (le w c.loop-i.end)) c.WIDTH.ensures) c.put_value-end.ensures.after
    (ap (λ (k : ℕ). c.loop-i.end + k) c.put_value-end.ensures.size)

pub overflow_mul-WIDTH-2 : goal.overflow_mul-WIDTH-2
overflow_mul-WIDTH-2 g c =
    let n = length c.args.rows.positions.now in
    let r = last_room _ _ n c.loop-i.i c.loop-i.end c.args.place c.loop-i.out (length-map c.args.rows.positions.now _) c.loop-i-test.false c.loop-i.auto.i-end c.requires.offsets c.loop-i.invariant in
    omega (arith, r.1, c.requires.few, c.loop-i.auto.out, ap (λ (k : ℕ). k * n) c.WIDTH-2.ensures)

pub put_count-requires-2 : goal.put_count-requires-2
put_count-requires-2 g c =
    let n = length c.args.rows.positions.now in
    let r = last_room _ _ n c.loop-i.i c.loop-i.end c.args.place c.loop-i.out (length-map c.args.rows.positions.now _) c.loop-i-test.false c.loop-i.auto.i-end c.requires.offsets c.loop-i.invariant in
    record { place = omega (arith, r.0, ap (λ (k : ℕ). k * n) c.WIDTH-2.ensures); small = omega (arith, r.2, c.requires.few, c.loop-i.auto.out) }

pub returns : goal.returns
returns g c =
    let m = g.L.Leaf.meaning c.args.leaf.now in
    let t = view_of c.args.rows.tape in
    let ps = c.args.rows.positions.now in
    let w = g.O.OffsetSize.WIDTH in
    let many = length-map ps (cell_at m t) in
    texts_end w (cells m t ps) c.loop-i.i c.loop-i.end c.loop-i.out _ (omega (arith, many, c.loop-i-test.false)) (omega (arith, many, c.loop-i.auto.i-end)) c.loop-i.invariant
    (c.put_count-2.ensures ∙ ap (λ (k : ℕ). splice c.loop-i.out (k * length ps) (le w c.loop-i.end)) c.WIDTH-2.ensures ∙ ap (λ (k : ℕ). splice c.loop-i.out (w * k) (le w c.loop-i.end)) (sym many))
