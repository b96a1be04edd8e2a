use Rattle.std.proofs.Common.{◌≡◌, Bool, map}
use Rattle.tape.specs.Opened.{view_of}
use Rattle.tape.specs.View.{Elem, element_at}
use Rattle.tape.specs.Values.{elem_of}
use Rattle.tape.specs.declared.element.Element.{Element}
use Rattle.columns.proofs.Filling.{BitsTo}
use Rattle.columns.proofs.cells.put_bits.Given as goal

abbrev pub invariant-loop-i : goal.invariant-loop-i
invariant-loop-i g l =
    (b : Elem → Bool) → ((e : Element) (r : Bool) → goal.F-post g l.bit e r → r ≡ b (elem_of e)) → l.out ≡ BitsTo (map (λ p. b (element_at (view_of l.rows.tape) p)) l.rows.positions.now) l.i
