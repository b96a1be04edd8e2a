use Rattle.std.proofs.Common.{rules}
use Rattle.std.specs.Fmt.{digits}
use Rattle.leaf.proofs.laws.decimals_stand.Goals as goal

pub returns : goal.returns
unfolding digits
returns c = search rules
