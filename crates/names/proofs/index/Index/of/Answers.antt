use Rattle.names.proofs.Lowests.{always_lowest}
use Rattle.names.proofs.index.Index.of.Goals as goal

pub returns-clause-lowest : goal.returns-clause-lowest
returns-clause-lowest c = always_lowest
