use Rattle.std.proofs.Common.{arith}
use Rattle.tape.proofs.Cover.{letters}
use Rattle.tape.proofs.Tape.get.Goals as goal

pub unreachable-requires : goal.unreachable-requires
unreachable-requires c = omega (arith, letters c.args.self.opened c.args.p c.requires.within)
