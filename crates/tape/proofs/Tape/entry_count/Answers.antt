use Rattle.std.proofs.Common.{inl, length, ap, arith}
use Rattle.tape.specs.Opened.{view_of}
use Rattle.tape.proofs.Walks.{bracket_law}
use Rattle.tape.proofs.Tape.entry_count.Goals as goal

pub count-requires-clause-fits : goal.count-requires-clause-fits
count-requires-clause-fits c =
    let t = c.args.self in
    inl (omega (arith, ap length c.entries.ensures, (bracket_law (view_of t) t.opened c.args.p c.requires.position c.requires.bracket).1.few, t.opened.few_elements))
