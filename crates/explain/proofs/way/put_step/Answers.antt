use Rattle.std.proofs.Common.{ap, ◌∙◌}
use Rattle.explain.specs.Way.{is_struct, step_into, prefix}
use Rattle.explain.proofs.Joins.{puts_none, puts_join, puts_as}
use Rattle.explain.proofs.way.put_step.Goals as goal

pub returns-then-is_struct : goal.returns-then-is_struct
returns-then-is_struct c t d h k =
    puts_as (ap prefix (c.name.ensures.node d k) ∙ ap (λ b. step_into b d) (c.if-is_struct.ensures ∙ ap is_struct (c.kind.ensures t h)))
    (puts_join c.put.ensures (puts_join c.put-then-is_struct.ensures c.put-then-is_struct-2.ensures))

pub returns-else-is_struct : goal.returns-else-is_struct
returns-else-is_struct c t d h k = puts_as (ap (λ b. step_into b d) (c.if-is_struct.ensures ∙ ap is_struct (c.kind.ensures t h))) (puts_none c.args.w.now)
