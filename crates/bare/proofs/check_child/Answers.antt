use Rattle.std.proofs.Common.{sym, ap, ◌∙◌}
use Rattle.std.proofs.lemmas.List.{at_drop_all}
use Rattle.slip.specs.Slips.{refuse, slip}
use Rattle.tape.specs.Opened.{view_of}
use Rattle.schema.proofs.Nodes.{held_written}
use Rattle.laws.specs.Shelf.{bare_from}
use Rattle.nodes.specs.Contract.{setup_of}
use Rattle.bare.specs.Slots.{hidden_at, veiled}
use Rattle.bare.proofs.Testing.{may_not_be, passed_hidden, passed_there, found}
use Rattle.bare.proofs.check_child.Goals as goal
use Rattle.bare.proofs.check_child.Goals.{else-is_null-via-then-is_null+else-not-hidden, else-is_null-via-else-is_null}

pub returns-then-not-hidden : goal.returns-then-not-hidden
returns-then-not-hidden g c = λ root size t k h there.
    let s = c.args.frame.settings in
    let st = setup_of s (g.X.Leaf.meaning c.args.frame.custom.now) root size in
    let tape = view_of c.args.child.rows.tape in
    let hid = hidden_at s (view_of c.args.visit.rows.tape) t c.args.visit.rows.positions.now in
    let slots = c.args.child.rows.positions.now in
    let i = c.loop-slot.slot in
    ap (λ n. refuse (slip 10 n i)) (sym (held_written there).number)
    ∙ found st tape k c.args.child.in_force hid slots i c.loop-slot-test.true (sym (c.hidden.ensures t h) ∙ c.if-not-hidden.true) (sym (c.is_null.ensures root size k there) ∙ c.if-is_null.true)
    ∙ c.loop-slot.invariant root size t k h there
    ∙ may_not_be st tape k c.args.child.in_force (veiled hid 0 slots) (sym (c.may_be_null.ensures root size k there) ∙ c.if-may_be_null.false)

pub loop-slot-preserved : goal.loop-slot-preserved
loop-slot-preserved g c = λ root size t k h there.
    let s = c.args.frame.settings in
    let st = setup_of s (g.X.Leaf.meaning c.args.frame.custom.now) root size in
    let tape = view_of c.args.child.rows.tape in
    let hid = hidden_at s (view_of c.args.visit.rows.tape) t c.args.visit.rows.positions.now in
    let slots = c.args.child.rows.positions.now in
    let i = c.loop-slot.slot in
    elim c.else-is_null.branch [
      | else-is_null-via-then-is_null+else-not-hidden w ↦
          passed_hidden st tape k c.args.child.in_force hid slots i c.loop-slot-test.true (sym (w.hidden.ensures t h) ∙ w.if-not-hidden.false) ∙ c.loop-slot.invariant root size t k h there
      | else-is_null-via-else-is_null w ↦
          passed_there st tape k c.args.child.in_force hid slots i c.loop-slot-test.true (sym (c.is_null.ensures root size k there) ∙ w.if-is_null.false) ∙ c.loop-slot.invariant root size t k h there
    ]

pub returns : goal.returns
returns g c = λ root size t k h there.
    let s = c.args.frame.settings in
    let st = setup_of s (g.X.Leaf.meaning c.args.frame.custom.now) root size in
    let tape = view_of c.args.child.rows.tape in
    let hid = hidden_at s (view_of c.args.visit.rows.tape) t c.args.visit.rows.positions.now in
    let slots = c.args.child.rows.positions.now in
    let i = c.loop-slot.slot in
    sym (at_drop_all (λ xs. bare_from st tape k c.args.child.in_force i (veiled hid i xs)) slots i c.loop-slot-test.false)
    ∙ c.loop-slot.invariant root size t k h there
    ∙ may_not_be st tape k c.args.child.in_force (veiled hid 0 slots) (sym (c.may_be_null.ensures root size k there) ∙ c.if-may_be_null.false)
