-- What holds of every batch, by its bytes.
use Rattle.std.specs.Prelude.{◌≡◌, ℕ, ◌+◌, ◌*◌, ◌%◌, ◌^◌, ◌<◌, ◌≤◌, Bool, ◌↔◌, List, map, length}
use Rattle.std.specs.List.{AllByRecursion}
use Rattle.octets.specs.Lists.{part, between, sum}
use Rattle.schema.specs.Tree.{Node, nodes, WellFormed}
use Rattle.tape.specs.View.{TapeView}
use Rattle.tape.specs.Opens.{Untorn}
use Rattle.leaf.specs.Bytes.{AreBytes, GivesBytes}
use Rattle.slip.specs.Slips.{Got, refuse, got, each, not_there}
use Rattle.batch.specs.Values.{Setup, Value, value}
use Rattle.batch.specs.Suited.{Sized, Full, Worded, Bytewise}
use Rattle.batch.specs.Format.{value_in, Laid, Filled, Spelled, Placed}
use Rattle.batch.specs.Batch.{columns, bytes_of, record_in, column_in, took_in, InOrder}
use Rattle.batch.specs.Cells.{Cell, batch_cell, read}

-- row values that a batch can hold: they suit the schema, every number of slots is a signed one of 32 bits, and there are at most 2^24 bytes
pub record Holdable (st : Setup) (rows : List (Value st.root)) : Type 0 where
  pub sized : AllByRecursion (Sized st st.root) rows
  pub few : AllByRecursion (λ c. c.slots < 2 ^ 31) (columns st st.root rows)
  pub short : length (bytes_of st rows) ≤ 2 ^ 24

-- the rows that a batch's bytes mean, by the Format
abbrev pub rows_in : (st : Setup) → List ℕ → List (Value st.root)
rows_in st bytes = map (value_in st (column_in bytes) st.root) (between 0 (record_in bytes 0).slots)

-- the buffers lie as the Format says; what is marked `ours` the Format leaves open
pub record LaidOut (st : Setup) (bytes : List ℕ) : Type 0 where
  pub laid : Laid st (column_in bytes) st.root
  pub placed : (n : ℕ) → n < length (nodes st.root) →
      let own = record_in bytes n in
      Placed bytes own.validity.place own.validity.size × Placed bytes own.offsets.place own.offsets.size × Placed bytes own.values.place own.values.size
  -- ours: records and buffers follow one another, and nothing else is there
  pub ordered : (n : ℕ) → n < length (nodes st.root) → InOrder (record_in bytes n) (32 * length (nodes st.root) + sum (map (took_in bytes) (between 0 n)))
  pub whole : length bytes ≡ 32 * length (nodes st.root) + sum (map (took_in bytes) (between 0 (length (nodes st.root))))

-- the bytes of a batch mean its rows
pub record InFormat (st : Setup) (bytes : List ℕ) (rows : List (Value st.root)) : Type 0 where
  pub many : (record_in bytes 0).slots ≡ length rows
  pub means : rows_in st bytes ≡ rows
  pub lies : LaidOut st bytes

-- so it is with every batch
abbrev pub BatchesInFormat : Type 0
BatchesInFormat = (st : Setup) → WellFormed st.root → (rows : List (Value st.root)) → Holdable st rows → InFormat st (bytes_of st rows) rows

-- where no child is null that may not be, none is in the columns
abbrev pub BatchesFilled : Type 0
BatchesFilled =
    (st : Setup) → WellFormed st.root → (rows : List (Value st.root)) → Holdable st rows → AllByRecursion (Full st st.root) rows
    → Filled st (column_in (bytes_of st rows)) st.root

-- where the texts of row values are UTF-8, they are so in the columns
abbrev pub BatchesSpelled : Type 0
BatchesSpelled =
    (st : Setup) → WellFormed st.root → (rows : List (Value st.root)) → Holdable st rows → AllByRecursion (Worded st.root) rows
    → Spelled st (column_in (bytes_of st rows)) st.root

-- every text of an opened tape is UTF-8
abbrev pub TapesWorded : Type 0
TapesWorded = (st : Setup) (t : TapeView) → Untorn t → (c : Node) (inForce : Bool) (p : ℕ) (v : Value c) → value st t c inForce p ≡ got v → Worded c v

-- on a page that has a batch at `base`, the cells lead from node 0 to the rows, and behind the last row there is nothing
pub record Readable (st : Setup) (rows : List (Value st.root)) (page : List ℕ) (ask : (node slot : ℕ) → Got Cell) : Type 0 where
  pub reads : each (read ask page st.root) (between 0 (length rows)) ≡ got rows
  pub end : (k : ℕ) → length rows ≤ k → ask 0 k ≡ refuse not_there

-- so it is with every batch, wherever it lies
abbrev pub BatchesReadBack : Type 0
BatchesReadBack =
    (st : Setup) → WellFormed st.root → (rows : List (Value st.root)) → Holdable st rows
    → (page : List ℕ) (base : ℕ) → length page < 2 ^ 64 → part page base (length (bytes_of st rows)) ≡ bytes_of st rows
    → Readable st rows page (batch_cell st base (bytes_of st rows))

-- equal bytes exactly where equal row values in equal order
abbrev pub SameBytes : Type 0
SameBytes =
    (st : Setup) → WellFormed st.root → (xs ys : List (Value st.root)) → Holdable st xs → Holdable st ys
    → (bytes_of st xs ≡ bytes_of st ys) ↔ (xs ≡ ys)

-- a multiple of 8 bytes
abbrev pub WholeWords : Type 0
WholeWords = (st : Setup) (rows : List (Value st.root)) → length (bytes_of st rows) % 8 ≡ 0

-- where the leaves give bytes, so are all of the batch
abbrev pub AllBytes : Type 0
AllBytes = (st : Setup) → GivesBytes st.custom → (rows : List (Value st.root)) → AllByRecursion (Bytewise st.root) rows → AreBytes (bytes_of st rows)
