use Rattle.std.proofs.Common.{arith}
use Rattle.tape.proofs.Cover.{partner_within}
use Rattle.tape.proofs.Tape.next.Goals as goal

pub overflow_add-result : goal.overflow_add-result
overflow_add-result c = rw c.number.ensures (omega (arith, partner_within c.args.self.opened c.args.p c.requires.within (rw c.letter.ensures at c.in-91.is)))
