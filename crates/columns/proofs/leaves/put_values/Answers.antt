use Rattle.std.proofs.Common.{◌≡◌, ℕ, Bool, false, List, ◌++◌, length, ap, ◌∙◌, rules}
use lib.ListN.{length-map}
use Rattle.octets.specs.Numbers.{packed, pad}
use Rattle.tape.specs.Opened.{view_of}
use Rattle.tape.specs.View.{Elem}
use Rattle.tape.specs.Values.{elem_of}
use Rattle.leaf.specs.Meaning.{value, shown}
use Rattle.batch.specs.Batch.{leaf_column}
use Rattle.columns.specs.Leaves.{cells, cell_at, bit_of}
use Rattle.columns.proofs.Filling.{cell_bits}
use Rattle.columns.proofs.LeafColumns.{fit_one, fit_eight, whole_cells, blank_bit, blank_text, blank_eight}
use Rattle.columns.proofs.leaves.put_values.Goals as goal

pub put_bits-requires-clause-blank : goal.put_bits-requires-clause-blank
put_bits-requires-clause-blank g c =
    let m = g.L.Leaf.meaning c.args.leaf.now in
    blank_bit m.layout g.O.OffsetSize.WIDTH (cells m (view_of c.args.rows.tape) c.args.rows.positions.now) _ c.args.place _ c.in-Bit.ensures (length-map c.args.rows.positions.now _) c.requires.offsets c.requires.blank

pub returns-in-Bit : goal.returns-in-Bit
returns-in-Bit g c =
    let m = g.L.Leaf.meaning c.args.leaf.now in
    let t = view_of c.args.rows.tape in
    let ps = c.args.rows.positions.now in
    let w = g.O.OffsetSize.WIDTH in
    let one : (e : Elem) (bs : List ℕ) → m.answer e ≡ value bs → length bs ≡ 1 = λ e bs is. fit_one m.layout bs c.in-Bit.ensures (c.requires.fits e bs is) in
    let bit : Elem → Bool = λ e. bit_of false (shown (m.answer e)) in
    c.put_bits.ensures bit (λ e r k. let h = one (elem_of e) in search rules) ∙ ap (λ bs. pad (packed bs)) (cell_bits m t ps false)
    ∙ ap (λ l. pad (leaf_column l w (cells m t ps)).offsets ++ pad (leaf_column l w (cells m t ps)).bytes) c.in-Bit.ensures

pub put_texts-requires : goal.put_texts-requires
put_texts-requires g c =
    let m = g.L.Leaf.meaning c.args.leaf.now in
    let t = view_of c.args.rows.tape in
    let b = blank_text m.layout g.O.OffsetSize.WIDTH (cells m t c.args.rows.positions.now) _ c.args.place _ c.in-Text.ensures (length-map c.args.rows.positions.now (cell_at m t)) c.requires.offsets c.requires.blank in
    record { few = c.requires.few; offsets = b.0; blank = b.1 }

pub put_eights-requires : goal.put_eights-requires
put_eights-requires g c =
    let m = g.L.Leaf.meaning c.args.leaf.now in
    let t = view_of c.args.rows.tape in
    record {
      bytes = λ e bs is. fit_eight m.layout bs c.in-Eight.ensures (c.requires.fits e bs is);
      blank = blank_eight m.layout g.O.OffsetSize.WIDTH (cells m t c.args.rows.positions.now) _ c.args.place _ c.in-Eight.ensures (length-map c.args.rows.positions.now (cell_at m t)) (whole_cells m t c.requires.fits c.args.rows.positions.now) c.requires.offsets c.requires.blank;
    }
