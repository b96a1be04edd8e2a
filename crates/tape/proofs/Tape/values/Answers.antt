use Rattle.tape.specs.Opened.{view_of}
use Rattle.tape.proofs.Walks.{rows_law}
use Rattle.tape.proofs.Tape.values.Goals as goal

pub new-requires : goal.new-requires
new-requires c = rw c.count.ensures (∣ rows_law (view_of c.args.self) c.args.self.opened ∣₁)
