use Rattle.std.proofs.Common.{refl}
use Rattle.tape.specs.Opened.{view_of}
use Rattle.tape.proofs.Walks.{object_law}
use Rattle.tape.proofs.Tape.pairs.Goals as goal

pub new-requires : goal.new-requires
new-requires c =
    let t = c.args.self in
    rw c.number.ensures (∣ (object_law (view_of t) t.opened c.args.p c.requires.position c.requires.object).pairs ∣₁)

pub returns : goal.returns
returns c =
    let t = c.args.self in
    rw (c.new.ensures, c.number.ensures, (object_law (view_of t) t.opened c.args.p c.requires.position c.requires.object).bracketed.all_steps) refl
