use Rattle.std.proofs.Common.{sym}
use Rattle.schema.proofs.Nodes.{held_at}
use Rattle.explain.proofs.Joins.{leads_more, puts_none, puts_as}
use Rattle.explain.proofs.way.put_way.Goals as goal

pub loop-child-preserved : goal.loop-child-preserved
loop-child-preserved c = (
  (c.in-Some.ensures _ (held_at c.args.schema.opened.1 c.loop-child.parent c.loop-child.invariant.0)).within,
  λ root r.
      let x = c.loop-child.invariant.1 root r in
      let y = c.in-Some.ensures x.0 x.1 in
      (y.tree, y.held, leads_more x.2 y.way (c.put_step.ensures x.0 y.tree x.1 y.held)),
)

pub returns : goal.returns
returns c root r =
    let x = c.loop-child.invariant.1 root r in
    x.2.ends (puts_as (sym (c.in_default.ensures x.0 x.1)) (puts_none c.loop-child.w))
