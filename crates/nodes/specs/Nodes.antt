-- A node by itself: what entering it gives, and what leaving it tests.
use Rattle.std.specs.Prelude.{ℕ, ◌*◌, Bool, false, cond, ◌||◌, List, [], ◌∷◌, ◌++◌, map, length}
use Rattle.std.proofs.Math.Option.{Option}
use Rattle.octets.specs.Lists.{joined, first, rest}
use Rattle.slip.specs.Slips.{Got, refuse, got, then, each}
use Rattle.tape.specs.View.{TapeView}
use Rattle.schema.specs.Tree.{Node, Fields, branch, leaf, ◌⊕◌, field_of, many}
use Rattle.batch.specs.Values.{Setup, meaning, may_be_null, below, leaf_at}
use Rattle.batch.specs.Format.{Column, text_width}
use Rattle.batch.specs.Batch.{branch_column, leaf_column}
use Rattle.columns.specs.Areas.{space}
use Rattle.rows.specs.Entering.{rows_at, items_of}
use Rattle.laws.specs.Shelf.{slots_of, bare_from, bare}

-- what was got, or nothing
abbrev pub gotten : {A : Type 0} → Got (List A) → List A
gotten (refuse r) = []
gotten (got xs) = xs

-- a struct that is nullable in force makes its fields so
abbrev pub below_of : Node → Bool → Bool
below_of (branch f b cs) inForce = below b inForce
below_of (leaf f k) inForce = false

module _ (st : Setup) (t : TapeView) where
  -- a node's own column
  abbrev pub own_of : Node → Bool → List ℕ → Column
  own_of (branch f b cs) inForce ps = branch_column b (gotten (rows_at st.settings t f b cs inForce ps))
  own_of (leaf f k) inForce ps = leaf_column (meaning st k).layout (text_width k) (gotten (each (leaf_at st t f k) ps))

  -- the items that its children have slots for
  abbrev pub items_in : Node → Bool → List ℕ → List (List ℕ)
  items_in (branch f b cs) inForce ps = items_of b cs (gotten (rows_at st.settings t f b cs inForce ps))
  items_in (leaf f k) inForce ps = []

  -- the place behind its buffers, if its rows are right and there is space
  abbrev pub entering : (free left : ℕ) → Node → Bool → List ℕ → (top : ℕ) → Got ℕ
  entering free left (branch f b cs) inForce ps top =
      then (rows_at st.settings t f b cs inForce ps) (λ rows. space free left f.number top (branch_column b rows) (many cs * length (items_of b cs rows)))
  entering free left (leaf f k) inForce ps top =
      then (each (leaf_at st t f k) ps) (λ os. space free left f.number top (leaf_column (meaning st k).layout (text_width k) os) 0)

  -- a child is nowhere null, or may be
  abbrev pub unbare : Node → Bool → List (Option ℕ) → Got (Unit {0})
  unbare c inForce os = cond (may_be_null st c) (got tt) (bare_from st t c inForce 0 os)

  -- no child is null that may not be
  abbrev pub leaving : Node → Bool → List ℕ → Got (Unit {0})
  leaving (branch f b cs) inForce ps = bare st t cs (below b inForce) (joined (map (slots_of b) (gotten (rows_at st.settings t f b cs inForce ps))))
  leaving (leaf f k) inForce ps = got tt

  abbrev mutual
    -- the columns of a node and of those below it, by positions
    pub cols : Node → Bool → List ℕ → List Column
    cols (branch f b cs) inForce ps =
        branch_column b (gotten (rows_at st.settings t f b cs inForce ps)) ∷ cols_in cs (below b inForce) (items_of b cs (gotten (rows_at st.settings t f b cs inForce ps)))
    cols (leaf f k) inForce ps = leaf_column (meaning st k).layout (text_width k) (gotten (each (leaf_at st t f k) ps)) ∷ []

    pub cols_in : Fields → Bool → List (List ℕ) → List Column
    cols_in Fields.none inForce items = []
    cols_in (c ⊕ cs) inForce items = cols c (inForce || (field_of c).nullable) (map first items) ++ cols_in cs inForce (map rest items)
