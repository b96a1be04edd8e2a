use Rattle.std.proofs.Common.{arith, rules, ◌∙◌}
use Rattle.explain.proofs.Joins.{puts_join, puts_all}
use Rattle.explain.proofs.told.Goals as goal

pub returns : goal.returns
returns c root r =
    let p = puts_join (c.put_way.ensures root r) c.put.ensures in
    let g = p.lent ∙ c.new-w.ensures.lent in
    puts_all p c.new-w.ensures.held c.new-w.ensures.empty (omega arith) c.len.ensures (search rules)
