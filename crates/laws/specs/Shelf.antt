-- What a shelf holds, and Shelve.
use Rattle.std.specs.Prelude.{ℕ, ◌+◌, ◌-◌, ◌*◌, ◌^◌, Bool, cond, ◌||◌, List, [], ◌∷◌, ◌++◌, map, length, replicate, nat_lt}
use Rattle.std.proofs.Math.Option.{Option, none, some}
use Rattle.octets.specs.Lists.{joined, via, rest, first}
use Rattle.schema.specs.Tree.{Node, Fields, branch, leaf, ◌⊕◌, field_of, many, nodes}
use Rattle.schema.specs.declared.kind.Branch.{Branch}
use Rattle.tape.specs.View.{TapeView, is_position}
use Rattle.slip.specs.Slips.{slip, Got, refuse, got, then, each}
use Rattle.batch.specs.Rows.{row_at}
use Rattle.batch.specs.Values.{Setup, Value, meaning, is_null, hides, taken, zeros, below, may_be_null, leaf_at, value}
use Rattle.batch.specs.Batch.{size_of, bytes_of, branch_column, leaf_column}
use Rattle.batch.specs.Format.{Column, text_width}

-- the slots of a row's items in each child, of which those under a null row have nothing to say
abbrev pub slots_of : {A : Type 0} → Branch → Option (List A) → List (Option A)
slots_of b none = replicate (hides b) none
slots_of b (some is) = map some is

-- space for a node's buffers on the page, and for its children's positions in the work list: the place behind the buffers, or full (4)
abbrev pub room : (free lent number top work : ℕ) → Column → (positions : ℕ) → Got ℕ
room free lent number top work c positions =
    cond (nat_lt free (top + size_of c) || nat_lt lent (work + positions)) (refuse (slip 4 number 0)) (got (top + size_of c))

module _ (st : Setup) (t : TapeView) where
  -- the lowest slot in which a child is null, where it may not be, is a bare null (10)
  abbrev pub bare_from : (c : Node) → Bool → ℕ → List (Option ℕ) → Got (Unit {0})
  bare_from c inForce i [] = got tt
  bare_from c inForce i (none ∷ ps) = bare_from c inForce (i + 1) ps
  bare_from c inForce i (some p ∷ ps) =
      cond (is_null c (value st t c inForce p)) (refuse (slip 10 (field_of c).number i)) (bare_from c inForce (i + 1) ps)

  -- the children in order
  abbrev pub bare : Fields → Bool → List (Option (List ℕ)) → Got (Unit {0})
  bare Fields.none inForce os = got tt
  bare (c ⊕ cs) inForce os =
      then (cond (may_be_null st c) (got tt) (bare_from c (inForce || (field_of c).nullable) 0 (map (via first) os)))
      (λ _. bare cs inForce (map (via rest) os))

module _ (st : Setup) (t : TapeView) (free lent : ℕ) where
  -- a node and those below it, from the place where its buffers go to the place behind all theirs
  abbrev mutual
    pub walk : Node → (inForce : Bool) → List ℕ → (top work : ℕ) → Got ℕ
    walk (branch f b cs) inForce ps top work =
        then (each (row_at st.settings t f b cs inForce) ps) (λ rows.
        let items = joined (map (taken b (zeros cs)) rows) in
        let more = many cs * length items in
        then (room free lent f.number top work (branch_column b rows) more) (λ next.
        then (walk_in cs (below b inForce) items next (work + more)) (λ end.
        then (bare st t cs (below b inForce) (joined (map (slots_of b) rows))) (λ _. got end))))
    walk (leaf f k) inForce ps top work =
        then (each (leaf_at st t f k) ps) (λ os. room free lent f.number top work (leaf_column (meaning st k).layout (text_width k) os) 0)

    pub walk_in : Fields → Bool → List (List ℕ) → (top work : ℕ) → Got ℕ
    walk_in Fields.none inForce items top work = got top
    walk_in (c ⊕ cs) inForce items top work =
        then (walk c (inForce || (field_of c).nullable) (map first items) top work) (λ next. walk_in cs inForce (map rest items) next work)

-- the first that is no position is a bad position (3)
abbrev pub bad_position : TapeView → ℕ → List ℕ → Got (Unit {0})
bad_position t i [] = got tt
bad_position t i (p ∷ ps) = cond (is_position t p) (bad_position t (i + 1) ps) (refuse (slip 3 0 i))

-- what a shelf holds: the row values of each batch
abbrev pub Held : Setup → Type 0
Held st = List (List (Value st.root))

module _ (st : Setup) where
  -- the bytes of all batches
  abbrev pub used : Held st → ℕ
  used held = length (joined (map (bytes_of st) held))

  -- every byte of the page: the batches end to end, and zeros
  abbrev pub page : Held st → List ℕ
  page held = joined (map (bytes_of st) held) ++ replicate (st.size - used held) 0

  -- too many positions, too long a work list, a 65th batch, or no space for the records
  abbrev pub is_full : Held st → (positions lent : ℕ) → Bool
  is_full held n lent = nat_lt 65535 n || (nat_lt (2 ^ 24) lent || (nat_lt 63 (length held) || nat_lt (st.size - used held) (32 * length (nodes st.root))))

  -- the number of the new batch; the work list has `lent` entries
  abbrev pub shelve : Held st → TapeView → (positions : List ℕ) → (lent : ℕ) → Got ℕ
  shelve held t ps lent =
      let free = st.size - used held in
      let top = 32 * length (nodes st.root) in
      then (bad_position t 0 ps) (λ _.
      cond (is_full held (length ps) lent) (refuse (slip 4 0 0))
      (then (walk st t free lent st.root (field_of st.root).nullable ps top 0) (λ _. got (length held))))

  -- the rows of a batch: the root's value at each position
  abbrev pub rows_of : TapeView → List ℕ → Got (List (Value st.root))
  rows_of t ps = each (value st t st.root (field_of st.root).nullable) ps
