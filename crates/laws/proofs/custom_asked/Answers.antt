use Rattle.laws.proofs.custom_asked.Goals as goal
use Rattle.laws.proofs.Asks.{custom_asked_lem}

pub returns : goal.returns
returns c = custom_asked_lem
