use Rattle.std.proofs.Common.{◌≡◌, ℕ, drop}
use Rattle.tape.specs.Opened.{view_of}
use Rattle.schema.specs.Tree.{Node}
use Rattle.schema.specs.Opened.{NodeOf}
use Rattle.laws.specs.Shelf.{bare_from}
use Rattle.nodes.specs.Contract.{setup_of}
use Rattle.bare.specs.Slots.{hidden_at, veiled}
use Rattle.bare.proofs.check_child.Given as goal

abbrev pub invariant-loop-slot : goal.invariant-loop-slot
invariant-loop-slot g l =
    let s = l.frame.settings in
    let tape = view_of l.child.rows.tape in
    (root : Node) (size : ℕ) (t c : Node) → NodeOf l.frame.schema l.visit.node t → NodeOf l.frame.schema l.child.node c →
    let st = setup_of s (g.X.Leaf.meaning l.frame.custom.now) root size in
    let hid = hidden_at s (view_of l.visit.rows.tape) t l.visit.rows.positions.now in
    bare_from st tape c l.child.in_force l.slot (veiled hid l.slot (drop l.slot l.slots)) ≡ bare_from st tape c l.child.in_force 0 (veiled hid 0 l.slots)
