use Rattle.std.proofs.Common.{arith}
use Rattle.octets.proofs.Reading.{le_at_eight}
use Rattle.octets.proofs.word.U64Word.read_at.Goals as goal

pub returns : goal.returns
returns c = omega (arith, le_at_eight c.args.bytes.now c.args.at)
