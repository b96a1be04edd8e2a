use Rattle.std.proofs.Common.{sym, ap, ◌∙◌}
use Rattle.tape.specs.Opened.{view_of}
use Rattle.tape.specs.Values.{elem_of}
use Rattle.schema.specs.declared.kind.Kind.TheVariants.{Leaf as a_leaf}
use Rattle.schema.specs.declared.kind.LeafKind.{LeafKind}
use Rattle.schema.specs.declared.kind.LeafKind.TheVariants.{Text as text, Boolean as boolean, Custom as custom}
use Rattle.nodes.specs.Contract.{setup_of}
use Rattle.bare.proofs.Nulls.{leaf_null, branch_null}
use Rattle.bare.proofs.is_null.Goals as goal

pub returns-in-Branch : goal.returns-in-Branch
returns-in-Branch g c = λ root size t h.
    branch_null (setup_of c.args.frame.settings (g.X.Leaf.meaning c.args.frame.custom.now) root size) (view_of c.args.visit.rows.tape) c.args.visit.in_force c.args.p t _ c.in-Branch.branch (sym c.in-Branch.is ∙ c.kind.ensures t h) c.null_row.ensures

pub returns-in-Leaf-Text : goal.returns-in-Leaf-Text
returns-in-Leaf-Text g c = λ root size t h.
    let m = g.X.Leaf.meaning c.args.frame.custom.now in
    let a = c.in-Leaf-Text in
    leaf_null (setup_of c.args.frame.settings m root size) (view_of c.args.visit.rows.tape) c.args.visit.in_force c.args.p t _ (text a.field-0-0) _ (elem_of c.element-e.result) (sym (a.is ∙ ap a_leaf a.field-0-is) ∙ c.kind.ensures t h) (c.text_pile.ensures m a.field-0-0) c.element-e.ensures c.nothing.ensures

pub returns-in-Leaf-Boolean : goal.returns-in-Leaf-Boolean
returns-in-Leaf-Boolean g c = λ root size t h.
    let m = g.X.Leaf.meaning c.args.frame.custom.now in
    let a = c.in-Leaf-Boolean in
    leaf_null (setup_of c.args.frame.settings m root size) (view_of c.args.visit.rows.tape) c.args.visit.in_force c.args.p t _ boolean _ (elem_of c.element-e.result) (sym (a.is ∙ ap a_leaf a.field-0-is) ∙ c.kind.ensures t h) (c.boolean_pile.ensures m) c.element-e.ensures c.nothing-in-Leaf-Boolean.ensures

pub returns-in-Leaf-Null : goal.returns-in-Leaf-Null
returns-in-Leaf-Null g c = λ root size t h.
    let m = g.X.Leaf.meaning c.args.frame.custom.now in
    let a = c.in-Leaf-Null in
    leaf_null (setup_of c.args.frame.settings m root size) (view_of c.args.visit.rows.tape) c.args.visit.in_force c.args.p t _ LeafKind.Null _ (elem_of c.element-e.result) (sym (a.is ∙ ap a_leaf a.field-0-is) ∙ c.kind.ensures t h) (c.null_pile.ensures m) c.element-e.ensures c.nothing-in-Leaf-Null.ensures

pub returns-in-Leaf-Custom : goal.returns-in-Leaf-Custom
returns-in-Leaf-Custom g c = λ root size t h.
    let m = g.X.Leaf.meaning c.args.frame.custom.now in
    let a = c.in-Leaf-Custom in
    leaf_null (setup_of c.args.frame.settings m root size) (view_of c.args.visit.rows.tape) c.args.visit.in_force c.args.p t _ custom _ (elem_of c.element-e.result) (sym (a.is ∙ ap a_leaf a.field-0-is) ∙ c.kind.ensures t h) c.custom_pile.ensures c.element-e.ensures c.nothing-in-Leaf-Custom.ensures
