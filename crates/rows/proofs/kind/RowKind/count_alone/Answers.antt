use Rattle.std.proofs.Common.{length, ap, ◌∙◌}
use Rattle.slip.specs.Slips.{then, got}
use Rattle.batch.specs.Values.{taken, zeros}
use Rattle.rows.proofs.kind.RowKind.count_alone.Goals as goal

pub returns-clause-said : goal.returns-clause-said
returns-clause-said g c =
    let b = g.Self.RowKind.branch c.args.self.now in
    let cs = g.Self.RowKind.children c.args.self.now in
    c.count.ensures.said ∙ ap (λ r. then r (λ o. got (length (taken b (zeros cs) o)))) (c.without_rows.ensures.same b cs c.args.p)
