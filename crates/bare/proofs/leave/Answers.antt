use Rattle.std.proofs.Common.{◌≡◌, ◌∷◌, sym, ap, ◌∙◌}
use Rattle.std.proofs.lemmas.Result.{err_from_is_err_and}
use Rattle.tape.specs.Opened.{view_of}
use Rattle.schema.specs.Children.{rest}
use Rattle.schema.proofs.Nodes.{held_written}
use Rattle.nodes.specs.Contract.{seen, setup_in}
use Rattle.nodes.specs.Nodes.{unbare}
use Rattle.bare.specs.Slots.{hidden_at, veiled}
use Rattle.bare.proofs.Leaving.{begun, child_enough, slots_had, one_more, not_one, none_left}
use Rattle.bare.proofs.leave.Goals as goal
use Rattle.bare.proofs.leave.Goals.{After-visit_child}

pub loop-child-init : goal.loop-child-init
loop-child-init g c = (
  tt,
  tt,
  c.requires.tape,
  begun c.requires.lying (rest c.into_iter-child-iterator.result) (λ T h. ap rest c.into_iter-child-iterator.ensures.into_iter_gives ∙ c.children-child-items.ensures.node T h),
)

pub visit_child-requires-clause-parent : goal.visit_child-requires-clause-parent
visit_child-requires-clause-parent g c = (held_written c.requires.lying.formed.1).within

pub visit_child-requires-clause-enough : goal.visit_child-requires-clause-enough
visit_child-requires-clause-enough g c = child_enough c.requires.lying c.loop-child.rows.positions.now (rest c.loop-child.child-iterator) c.loop-child.invariant.3 c.in-Some.ensures.steps

-- the child that is visited is the next of the children
turn : (g : _) (c : After-visit_child g) → rest c.loop-child.child-iterator ≡ c.visit_child.result.0.node ∷ rest c.next.new.self
turn g c = c.in-Some.ensures.steps ∙ ap (λ n. n ∷ rest c.next.new.self) (sym c.visit_child.ensures.node)

pub check_child-requires-clause-formed : goal.check_child-requires-clause-formed
check_child-requires-clause-formed g c =
    slots_had c.requires.lying c.loop-child.rows.positions.now (rest c.loop-child.child-iterator) c.loop-child.invariant.3 (turn g (goal.at.check_child-requires-clause-formed g c).After-visit_child) _ _ c.visit_child.ensures.halves c.visit_child.ensures.short

pub returns-in_err-check_child : goal.returns-in_err-check_child
returns-in_err-check_child g c =
    let v = seen g.X.Leaf.meaning c.args.frame c.args.visit in
    let w = c.visit_child.ensures in
    let p = err_from_is_err_and c.from_residual.result c.from_residual.ensures.1 in
    not_one c.requires.lying c.loop-child.rows.positions.now (rest c.loop-child.child-iterator) c.loop-child.invariant.3 (turn g (goal.at.returns-in_err-check_child g c).After-visit_child)
    _ _ w.halves w.short c.visit_child.result.0.in_force (λ T h k d. w.in_force T k h d) p.0 c.in_err-check_child.field-0.0 c.from_residual.result p.1 p.2
    (λ root size T k h d.
    c.in_err-check_child.ensures root size T k h d
    ∙ ap (λ tape. unbare (setup_in v root size) (view_of tape) k c.visit_child.result.0.in_force (veiled (hidden_at v.settings v.tape T v.positions) 0 c.visit_child.result.0.rows.positions.now)) (w.tape ∙ c.loop-child.invariant.2))

pub loop-child-preserved : goal.loop-child-preserved
loop-child-preserved g c =
    let v = seen g.X.Leaf.meaning c.args.frame c.args.visit in
    let w = c.visit_child.ensures in (
      tt,
      tt,
      w.same_tape ∙ c.loop-child.invariant.2,
      one_more c.requires.lying c.loop-child.rows.positions.now (rest c.loop-child.child-iterator) c.loop-child.invariant.3 (turn g (goal.at.loop-child-preserved g c).After-visit_child)
          _ _ w.halves w.short c.visit_child.result.0.in_force (λ T h k d. w.in_force T k h d)
          (λ root size T k h d.
          c.in_ok-check_child.ensures root size T k h d
          ∙ ap (λ tape. unbare (setup_in v root size) (view_of tape) k c.visit_child.result.0.in_force (veiled (hidden_at v.settings v.tape T v.positions) 0 c.visit_child.result.0.rows.positions.now)) (w.tape ∙ c.loop-child.invariant.2)),
    )

pub returns : goal.returns
returns g c = none_left c.requires.lying c.loop-child.rows.positions.now (rest c.loop-child.child-iterator) c.loop-child.invariant.3 c.in-None.ensures.steps.0
