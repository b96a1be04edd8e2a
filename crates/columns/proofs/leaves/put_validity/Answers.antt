use Rattle.std.proofs.Common.{Bool, true, cond, [], map, sym, ap, ◌∙◌, rules}
use Rattle.std.proofs.lemmas.Bool.{lt-ltb}
use Rattle.octets.specs.Lists.{is_some}
use Rattle.octets.specs.Numbers.{packed, pad}
use Rattle.tape.specs.Opened.{view_of}
use Rattle.tape.specs.View.{Elem}
use Rattle.leaf.specs.Meaning.{shown}
use Rattle.columns.specs.Leaves.{cells, bit_of}
use Rattle.columns.proofs.Filling.{cell_bits}
use Rattle.columns.proofs.leaves.put_validity.Goals as goal

pub returns-then-size-gt0 : goal.returns-then-size-gt0
returns-then-size-gt0 g c =
    let m = g.L.Leaf.meaning c.args.leaf.now in
    let t = view_of c.args.rows.tape in
    let ps = c.args.rows.positions.now in
    let bit : Elem → Bool = λ e. bit_of true (shown (m.answer e)) in
    c.put_bits.ensures bit (λ e r k. search rules) ∙ ap (λ bs. pad (packed bs)) (cell_bits m t ps true)
    ∙ ap (λ b. cond b (pad (packed (map (is_some) (cells m t ps)))) []) (sym (lt-ltb 0 c.args.size c.if-size-gt0.true))
