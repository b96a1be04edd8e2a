use Rattle.std.proofs.Common.{ℕ, true, false, refl, ap, ◌∙◌}
use Rattle.tape.specs.Opened.{view_of}
use Rattle.schema.specs.declared.kind.LeafKind.{LeafKind}
use Rattle.schema.specs.declared.kind.LeafKind.TheVariants.{Text as text, Boolean as boolean}
use Rattle.leaf.specs.Meaning.{Meaning}
use Rattle.columns.specs.Entering.{LeafEntered}
use Rattle.entry.proofs.Entries.{by_leaf}
use Rattle.entry.proofs.enter_leaf.Goals as goal

pub returns-in-Text-true : goal.returns-in-Text-true
returns-in-Text-true g c =
    let own = g.X.Leaf.meaning c.args.frame.custom.now in
    let P = λ (m : Meaning) (w : ℕ). LeafEntered m w (view_of c.args.visit.rows.tape) c.args.visit.node c.args.top c.args.visit.rows.positions.now c.args.area.now c.put_leaf.new.area c.put_leaf.result in
    by_leaf P c.args.frame.settings own _ 8 _ (text true) (c.in-Text-true.is ∙ ap text c.in-Text-true.wide-test) (c.text_pile.ensures own true) refl c.put_leaf.ensures

pub returns-in-Text-false : goal.returns-in-Text-false
returns-in-Text-false g c =
    let own = g.X.Leaf.meaning c.args.frame.custom.now in
    let P = λ (m : Meaning) (w : ℕ). LeafEntered m w (view_of c.args.visit.rows.tape) c.args.visit.node c.args.top c.args.visit.rows.positions.now c.args.area.now c.put_leaf-in-Text-false.new.area c.put_leaf-in-Text-false.result in
    by_leaf P c.args.frame.settings own _ 4 _ (text false) (c.in-Text-false.is ∙ ap text c.in-Text-false.wide-test) (c.text_pile-in-Text-false.ensures own false) refl c.put_leaf-in-Text-false.ensures

pub returns-in-Boolean : goal.returns-in-Boolean
returns-in-Boolean g c =
    let own = g.X.Leaf.meaning c.args.frame.custom.now in
    let P = λ (m : Meaning) (w : ℕ). LeafEntered m w (view_of c.args.visit.rows.tape) c.args.visit.node c.args.top c.args.visit.rows.positions.now c.args.area.now c.put_leaf-in-Boolean.new.area c.put_leaf-in-Boolean.result in
    by_leaf P c.args.frame.settings own _ 4 _ boolean c.in-Boolean.is (c.boolean_pile.ensures own) refl c.put_leaf-in-Boolean.ensures

pub returns-in-Null : goal.returns-in-Null
returns-in-Null g c =
    let own = g.X.Leaf.meaning c.args.frame.custom.now in
    let P = λ (m : Meaning) (w : ℕ). LeafEntered m w (view_of c.args.visit.rows.tape) c.args.visit.node c.args.top c.args.visit.rows.positions.now c.args.area.now c.put_leaf-in-Null.new.area c.put_leaf-in-Null.result in
    by_leaf P c.args.frame.settings own _ 4 _ LeafKind.Null c.in-Null.is (c.null_pile.ensures own) refl c.put_leaf-in-Null.ensures
