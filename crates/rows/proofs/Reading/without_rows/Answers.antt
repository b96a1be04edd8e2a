use Rattle.std.proofs.Common.{refl}
use Rattle.rows.specs.Kinds.{row_in}
use Rattle.rows.proofs.Reading.without_rows.Goals as goal

pub returns-clause-same : goal.returns-clause-same
unfolding row_in
returns-clause-same c = λ b cs p. refl
