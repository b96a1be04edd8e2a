-- The four calls of a shelf: what each answers, and what the shelf holds after.
use Rattle.std.specs.Prelude.{ℕ, ◌-◌, cond, List, [], ◌∷◌, ◌++◌, length, take, ◌==◌, nat_lt, slice_index_or}
use Rattle.tape.specs.View.{TapeView}
use Rattle.slip.specs.Slips.{Got, refuse, got, slip, then, not_there}
use Rattle.batch.specs.Values.{Setup}
use Rattle.laws.specs.Shelf.{Held, shelve, used, rows_of}
use Rattle.batch.specs.Batch.{bytes_of}
use Rattle.batch.specs.Cells
use Rattle.batch.specs.Cells.{batch_cell}

-- the cell of a batch's node in a slot, if there are such a batch, node and slot
abbrev pub cell_at : (st : Setup) → Held st → (batch node slot : ℕ) → Got Cells.Cell
cell_at st held i n slot =
    cond (nat_lt i (length held)) (batch_cell st (used st (take i held)) (bytes_of st (slice_index_or held i [])) n slot) (refuse not_there)

-- the number of the newest batch
abbrev pub release : (st : Setup) → Held st → Got ℕ
release st held = cond (length held == 0) (refuse not_there) (got (length held - 1))

-- batches held, and free bytes
abbrev pub count : (st : Setup) → Held st → ℕ × ℕ
count st held = (length held, st.size - used st held)

-- the calls; a Shelve from bytes that are no tape is Torn
pub data Call : Type 0 where
  Shelve : TapeView → (positions : List ℕ) → (lent : ℕ) → Call
  Torn : Call
  Cell : (batch node slot : ℕ) → Call
  Release : Call
  Count : Call

-- the number of a batch, a cell, or batches held and free bytes
pub data Reply : Type 0 where
  batch : ℕ → Reply
  cell : Cells.Cell → Reply
  counts : ℕ × ℕ → Reply

module _ (st : Setup) where
  -- what each call answers
  abbrev pub answer : Held st → Call → Got Reply
  answer held (Shelve t ps lent) = then (shelve st held t ps lent) (λ n. got (batch n))
  answer held Torn = refuse (slip 1 0 0)
  answer held (Cell i n slot) = then (cell_at st held i n slot) (λ c. got (cell c))
  answer held Release = then (release st held) (λ n. got (batch n))
  answer held Count = got (counts (count st held))

  -- an accepted Shelve adds its rows, and Release takes the newest batch away
  abbrev pub after : Held st → Call → Held st
  after held (Shelve t ps lent) = elim (then (shelve st held t ps lent) (λ _. rows_of st t ps)) [ refuse r ↦ held | got rows ↦ held ++ (rows ∷ []) ]
  after held Torn = held
  after held (Cell i n slot) = held
  after held Release = take (length held - 1) held
  after held Count = held

  -- what is held after some calls
  abbrev pub run : Held st → List Call → Held st
  run held [] = held
  run held (c ∷ cs) = run (after held c) cs
