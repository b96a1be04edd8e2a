use Rattle.std.proofs.Common.{◌≡◌, ◌+◌, ◌/◌, ℕ, Bool, false, cond, map, length, get_or, sym, ap, ◌∙◌, arith}
use lib.ListN.{length-map, length-replicate}
use Rattle.std.proofs.lemmas.List.{get_or-map}
use Rattle.octets.specs.Numbers.{padded, with_bit}
use Rattle.tape.specs.Opened.{view_of}
use Rattle.tape.specs.View.{element_at}
use Rattle.columns.proofs.Filling.{bits_start, bits_more, bits_end}
use Rattle.columns.proofs.cells.put_bits.Goals as goal
use Rattle.columns.proofs.cells.put_bits.Goals.{then-bit, else-bit}

pub loop-i-init : goal.loop-i-init
loop-i-init g c = λ b _. bits_start _ (length c.args.rows.positions.now) c.args.out.now (sym (length-map c.args.rows.positions.now _)) c.requires.blank

pub set_bit-requires : goal.set_bit-requires
set_bit-requires g c =
    let z = length-replicate {A = ℕ} (padded ((length c.args.rows.positions.now + 7) / 8)) 0 in
    let l = ap length c.requires.blank in
    omega (arith, c.loop-i.auto.out, c.loop-i-test.true, l, z)

pub loop-i-preserved : goal.loop-i-preserved
loop-i-preserved g c = λ b h.
    let f : ℕ → Bool = λ p. b (element_at (view_of c.args.rows.tape) p) in
    let ps = c.args.rows.positions.now in
    let i = c.loop-i.i in
    let many = length-map ps f in
    let is : c.bit.result ≡ get_or (map f ps) i false = h c.element.result c.bit.result c.bit.ensures ∙ ap b c.element.ensures ∙ sym (get_or-map f ps i 0 false c.loop-i-test.true) in
    let after : c.if-bit.out ≡ cond c.bit.result (with_bit c.loop-i.out i) c.loop-i.out =
    elim c.if-bit.branch [
      | then-bit w ↦ w.out-is ∙ w.set_bit.ensures ∙ ap (λ v. cond v (with_bit c.loop-i.out i) c.loop-i.out) (sym w.if-bit.true)
      | else-bit w ↦ w.out-is ∙ ap (λ v. cond v (with_bit c.loop-i.out i) c.loop-i.out) (sym w.if-bit.false)
    ] in
    bits_more (map f ps) i c.loop-i.out c.if-bit.out c.bit.result (omega (arith, many, c.loop-i-test.true)) (c.loop-i.invariant b h) is after

pub returns : goal.returns
returns g c = λ b h.
    bits_end _ c.loop-i.i c.loop-i.out (omega (arith, length-map c.args.rows.positions.now (λ p. b (element_at (view_of c.args.rows.tape) p)), c.loop-i-test.false)) (c.loop-i.invariant b h)
