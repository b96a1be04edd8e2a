use Rattle.std.proofs.Common.{◌+◌, arith}
use Rattle.tape.proofs.Tape.get_string.Goals as goal

pub range-requires-clause-start_le_end : goal.range-requires-clause-start_le_end
range-requires-clause-start_le_end c = rw (c.get-from.ensures, c.get-to.ensures) (c.args.self.opened.texts.rise.rising c.args.k c.requires.within)

pub range-requires-clause-start_boundary : goal.range-requires-clause-start_boundary
range-requires-clause-start_boundary c = rw c.get-from.ensures (λ _. c.args.self.opened.texts.rise.uncut c.args.k (omega arith))

pub range-requires-clause-end_boundary : goal.range-requires-clause-end_boundary
range-requires-clause-end_boundary c = rw c.get-to.ensures (c.args.self.opened.texts.rise.uncut (c.args.k + 1) c.requires.within)
