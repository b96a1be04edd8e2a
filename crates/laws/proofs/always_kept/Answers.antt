use Rattle.laws.proofs.always_kept.Goals as goal
use Rattle.laws.proofs.Past.{always_kept_lem}

pub returns : goal.returns
returns c = always_kept_lem
