use Rattle.std.proofs.Common.{◌+◌, length, ap, arith}
use Rattle.tape.specs.Opened.{view_of}
use Rattle.tape.proofs.Walks.{position_below}
use Rattle.tape.proofs.Ahead.{pair_turn}
use Rattle.tape.proofs.walk.PairsIterator.next.Goals as goal

pub next-self-requires : goal.next-self-requires
next-self-requires c =
    let s = c.args.self.now in
    let t = view_of s.tape in
    record { within = position_below t (s.at + 1) (pair_turn t (omega arith) s.way).pair.value }

pub invariant_of-self : goal.invariant_of-self
invariant_of-self c =
    let s = c.args.self.now in
    record { way = rw c.next-self.ensures (pair_turn (view_of s.tape) (omega arith) s.way).way }

pub returns-clause-steps : goal.returns-clause-steps
returns-clause-steps c =
    let s = c.args.self.now in
    rw c.next-self.ensures (pair_turn (view_of s.tape) (omega arith) s.way).more

pub returns-clause-goes : goal.returns-clause-goes
returns-clause-goes c =
    record { on = λ f. (tt, f, omega (arith, ap length (returns-clause-steps c))); keeps = tt; rests = λ _. tt }
