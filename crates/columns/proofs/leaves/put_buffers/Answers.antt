use Rattle.std.proofs.Common.{◌≡◌, ℕ, ◌+◌, ◌-◌, ◌/◌, ◌≤◌, length, replicate, sym, refl, ap, ◌∙◌, ap₂, arith, rules}
use lib.ListN.{length-map, length-replicate}
use Rattle.octets.specs.Numbers.{padded}
use Rattle.octets.proofs.Pieces.{length-pad}
use Rattle.tape.specs.Opened.{view_of}
use Rattle.batch.specs.Batch.{leaf_column}
use Rattle.columns.specs.Plans.{bytes_of}
use Rattle.columns.specs.Leaves.{cells, cell_at}
use Rattle.columns.proofs.LeafColumns.{valid_is, valid_whole, blank_front, blank_back, both_parts}
use Rattle.columns.proofs.leaves.put_buffers.Goals as goal

pub round_up-place-requires : goal.round_up-place-requires
round_up-place-requires g c =
    let long = ap length c.requires.blank ∙ length-replicate {A = ℕ} (bytes_of c.args.plan) 0 in omega (arith, long, c.requires.few)

pub round_up-offsets-requires : goal.round_up-offsets-requires
round_up-offsets-requires g c =
    let long = ap length c.requires.blank ∙ length-replicate {A = ℕ} (bytes_of c.args.plan) 0 in omega (arith, long, c.requires.few)

pub slice_bounds-put_validity-end : goal.slice_bounds-put_validity-end
slice_bounds-put_validity-end g c =
    let long = ap length c.requires.blank ∙ length-replicate {A = ℕ} (bytes_of c.args.plan) 0 in
    let h : c.round_up-place.result ≤ length c.args.out.now = omega (arith, long, c.round_up-place.ensures) in search rules

pub put_validity-requires : goal.put_validity-requires
put_validity-requires g c =
    let m = g.L.Leaf.meaning c.args.leaf.now in
    let t = view_of c.args.rows.tape in
    let os = cells m t c.args.rows.positions.now in
    let many = length-map c.args.rows.positions.now (cell_at m t) in
    record {
      whole = λ some. valid_whole m.layout g.O.OffsetSize.WIDTH os _ c.requires.planned.validity some ∙ ap (λ (n : ℕ). (n + 7) / 8) many;
      blank = blank_front c.args.out.now (bytes_of c.args.plan) _ _ c.requires.blank (omega (arith, c.round_up-place.ensures)) (sym c.round_up-place.ensures);
    }

pub slice_bounds-put_values-count : goal.slice_bounds-put_values-count
slice_bounds-put_values-count g c =
    let long = ap length c.requires.blank ∙ length-replicate {A = ℕ} (bytes_of c.args.plan) 0 in
    omega (arith, long, c.round_up-place.ensures)

pub slice_bounds-put_values-start : goal.slice_bounds-put_values-start
slice_bounds-put_values-start g c =
    let long = ap length c.requires.blank ∙ length-replicate {A = ℕ} (bytes_of c.args.plan) 0 in
    let h : c.round_up-place.result ≤ length c.args.out.now = omega (arith, long, c.round_up-place.ensures) in search rules

-- the bits are in their place
pub put_values-requires : goal.put_values-requires
put_values-requires g c =
    let plan = c.args.plan in
    let place = c.round_up-place.result in
    let long = ap length c.requires.blank ∙ length-replicate {A = ℕ} (bytes_of plan) 0 in
    let front = blank_front c.args.out.now (bytes_of plan) place place c.requires.blank (omega (arith, c.round_up-place.ensures)) refl in
    let x : length c.put_validity.new.out ≡ place = c.put_validity.auto.out ∙ ap length front ∙ length-replicate {A = ℕ} place 0 in
    let back = blank_back c.put_validity.new.out c.args.out.now place (bytes_of plan) (padded plan.offsets + padded plan.data_size) x c.requires.blank (omega (arith, c.round_up-place.ensures)) in
    record {
      few = omega (arith, ap length back ∙ length-replicate {A = ℕ} (padded plan.offsets + padded plan.data_size) 0, long, c.requires.few);
      fits = c.requires.fits;
      offsets = c.round_up-offsets.ensures ∙ ap padded c.requires.planned.offsets;
      blank = back ∙ ap₂ (λ (a b : ℕ). replicate (a + padded b) 0) (sym c.round_up-offsets.ensures) c.requires.planned.data_size;
    }

pub returns : goal.returns
returns g c =
    let m = g.L.Leaf.meaning c.args.leaf.now in
    let os = cells m (view_of c.args.rows.tape) c.args.rows.positions.now in
    let w = g.O.OffsetSize.WIDTH in
    let plan = c.args.plan in
    let place = c.round_up-place.result in
    let long = ap length c.requires.blank ∙ length-replicate {A = ℕ} (bytes_of plan) 0 in
    let x = c.put_validity.ensures ∙ valid_is m.layout w os plan.validity c.requires.planned.validity in
    let lx = ap length x ∙ length-pad (leaf_column m.layout w os).validity ∙ ap padded (sym c.requires.planned.validity) ∙ sym c.round_up-place.ensures in
    both_parts (leaf_column m.layout w os) c.args.out.now c.put_validity.new.out c.put_values.new.out place (length c.args.out.now - place) x c.put_values.ensures lx
    (omega (arith, long, c.round_up-place.ensures))
