use Rattle.laws.proofs.always_in_format.Goals as goal
use Rattle.laws.proofs.Past.{always_in_format_lem}

pub returns : goal.returns
returns c = always_in_format_lem
