use Rattle.std.proofs.Common.{arith}
use Rattle.octets.proofs.Splices.{splice-part}
use Rattle.octets.proofs.copy_at.Goals as goal

pub returns : goal.returns
returns c = splice-part c.args.at _ c.args.bytes.now _ c.args.part.now c.copy_from_slice.ensures.after (omega arith)
