use Rattle.std.proofs.Common.{arith, ap, ◌∙◌}
use Rattle.std.proofs.lemmas.Bool.Decides.{nat_tests}
use Rattle.schema.specs.Children.{rest}
use Rattle.explain.proofs.Ways.{left-all, left_none, left_more, front, front_of, step_to}
use Rattle.explain.proofs.way.toward.Goals as goal

pub loop-child-init : goal.loop-child-init
loop-child-init c = (tt, tt, λ t h. left-all c.args.node h (ap rest c.into_iter-child-iterator.ensures.into_iter_gives ∙ c.children-child-items.ensures.node t h))

pub end-requires : goal.end-requires
end-requires c = (front_of c.args.schema c.args.parent c.requires c.in-Some.ensures.steps c.loop-child.invariant.2).within

pub returns-then-contains : goal.returns-then-contains
returns-then-contains c t h =
    let e = c.end.ensures.said in
    step_to c.args.schema (front c.in-Some.ensures.steps (c.loop-child.invariant.2 t h)) c.if-contains.true (c.contains.ensures.value ∙ grind (arith, nat_tests))

pub loop-child-preserved : goal.loop-child-preserved
loop-child-preserved c = (
  tt,
  tt,
  λ t h.
      let e = c.end.ensures.said in
      left_more (front c.in-Some.ensures.steps (c.loop-child.invariant.2 t h)) c.if-contains.false (c.contains.ensures.value ∙ grind (arith, nat_tests)),
)

pub returns : goal.returns
returns c t h = left_none c.in-None.ensures.steps.0 (c.loop-child.invariant.2 t h)
