use Rattle.std.proofs.Common.{refl}
use Rattle.tape.specs.Opened.{view_of}
use Rattle.tape.proofs.Walks.{bracket_law}
use Rattle.tape.proofs.Tape.entries.Goals as goal

pub new-requires : goal.new-requires
new-requires c =
    let t = c.args.self in
    rw c.number.ensures (∣ (bracket_law (view_of t) t.opened c.args.p c.requires.position c.requires.bracket).1.way ∣₁)

pub returns : goal.returns
returns c =
    let t = c.args.self in
    rw (c.new.ensures, c.number.ensures, (bracket_law (view_of t) t.opened c.args.p c.requires.position c.requires.bracket).1.all_steps) refl
