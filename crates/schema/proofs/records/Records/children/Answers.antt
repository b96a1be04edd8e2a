use Rattle.schema.proofs.records.Records.children.Goals as goal

pub returns-in_err-kind : goal.returns-in_err-kind
returns-in_err-kind c = rw c.from_residual.ensures (λ k x. c.in_err-kind.ensures x.kind x.kinded)
