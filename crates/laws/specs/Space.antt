-- How much of the work list the rows at some positions want.
use Rattle.std.specs.Prelude.{ℕ, ◌+◌, ◌*◌, max, Bool, ◌||◌, List, map, length}
use Rattle.octets.specs.Lists.{joined, rest, first}
use Rattle.schema.specs.Tree.{Node, Fields, Field, branch, leaf, ◌⊕◌, field_of, many}
use Rattle.schema.specs.declared.kind.Branch.{Branch}
use Rattle.tape.specs.View.{TapeView}
use Rattle.slip.specs.Slips.{accepted}
use Rattle.batch.specs.Rows.{row_at}
use Rattle.batch.specs.Values.{Setup, taken, zeros, below}

module _ (st : Setup) (t : TapeView) where
  -- the items that the rows at some positions give to the children
  abbrev pub items_of : Field → Branch → Fields → (inForce : Bool) → List ℕ → List (List ℕ)
  items_of f b cs inForce ps = joined (map (taken b (zeros cs)) (map (λ p. accepted (row_at st.settings t f b cs inForce p)) ps))

  -- the most child positions that stand in the work list at once: those of nodes that are entered and not left
  abbrev mutual
    pub peak : Node → (inForce : Bool) → List ℕ → ℕ
    peak (branch f b cs) inForce ps = let items = items_of f b cs inForce ps in many cs * length items + peak_in cs (below b inForce) items
    peak (leaf f k) inForce ps = 0

    pub peak_in : Fields → Bool → List (List ℕ) → ℕ
    peak_in Fields.none inForce items = 0
    peak_in (c ⊕ cs) inForce items = max (peak c (inForce || (field_of c).nullable) (map first items)) (peak_in cs inForce (map rest items))
