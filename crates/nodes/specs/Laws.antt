-- What an accepted walk writes.
use Rattle.std.specs.Prelude.{◌≡◌, ℕ, Bool, true, List}
use Rattle.slip.specs.Slips.{got, each}
use Rattle.octets.specs.Lists.{all}
use Rattle.tape.specs.View.{TapeView}
use Rattle.schema.specs.Tree.{Node}
use Rattle.batch.specs.Values.{NullFirst, Setup, Value, value, fits}
use Rattle.batch.specs.Batch.{columns}
use Rattle.laws.specs.Shelf.{walk}
use Rattle.nodes.specs.Nodes.{cols}

-- where a walk of positions that a node takes is accepted, it writes the columns of the node's values there
abbrev pub ColumnsOfValues : Type 0
ColumnsOfValues =
    (st : Setup) (t : TapeView) → NullFirst t → (free lent : ℕ) (c : Node) (inForce : Bool) (ps : List ℕ) (top work end : ℕ) → walk st t free lent c inForce ps top work ≡ got end
    → all (fits st t c inForce) ps ≡ true → (vs : List (Value c)) × (each (value st t c inForce) ps ≡ got vs) × (cols st t c inForce ps ≡ columns st c vs)
