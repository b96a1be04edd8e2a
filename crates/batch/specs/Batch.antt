-- A batch: the columns of a list of row values, as bytes.
use Rattle.std.specs.Prelude.{◌≡◌, ℕ, ◌+◌, ◌*◌, true, false, cond, List, [], ◌∷◌, ◌++◌, map, length, replicate, ◌==◌, nat_eq, slice_index}
use Rattle.std.proofs.Math.Option.{Option, none, some}
use Rattle.octets.specs.Numbers.{le, le_at, padded, pad, packed, numbers}
use Rattle.octets.specs.Lists.{part, joined, running, starts, is_some, or_else}
use Rattle.schema.specs.Tree.{Node, Fields, branch, leaf, ◌⊕◌}
use Rattle.schema.specs.declared.kind.Branch.{Branch}
use Rattle.schema.specs.declared.kind.Branch.TheVariants.{Struct as struct, List as list, Fixed as fixed}
use Rattle.tape.specs.View.{Elem}
use Rattle.leaf.specs.Meaning.{shown}
use Rattle.leaf.specs.declared.layout.Layout.{Layout}
use Rattle.leaf.specs.declared.layout.Layout.TheVariants.{None, Bit, Text, Eight}
use Rattle.batch.specs.declared.record.Buffer.{Buffer}
use Rattle.batch.specs.declared.record.NodeRecord.{NodeRecord}
use Rattle.batch.specs.Format.{Column, width, text_width}
use Rattle.batch.specs.Values.{Setup, Value, Item, meaning, taken}

-- how many values are null
abbrev pub nulls : {A : Type 0} → List (Option A) → ℕ
nulls [] = 0
nulls (none ∷ os) = 1 + nulls os
nulls (some x ∷ os) = nulls os

-- one bit for each slot, where any is null
abbrev pub validity : {A : Type 0} → List (Option A) → List ℕ
validity os = cond (nulls os == 0) [] (packed (map is_some os))

-- a column of values that may be null, with its other two buffers
abbrev pub column : {A : Type 0} → List (Option A) → (offsets bytes : List ℕ) → Column
column os offsets bytes = record { slots = length os; nulls = nulls os; validity = validity os; offsets = offsets; bytes = bytes }

-- how many items each has, a null none
abbrev pub sizes : {A : Type 0} → List (Option (List A)) → List ℕ
sizes os = map (λ o. length (or_else [] o)) os

-- the column of a branch: offsets for lists and maps, offsets and sizes for views, nothing but validity for structs and fixed-size lists
abbrev pub branch_column : {A : Type 0} → Branch → List (Option (List A)) → Column
branch_column struct os = column os [] []
branch_column (list false wide) os = column os (numbers (width wide) (running 0 (sizes os))) []
branch_column (list true wide) os = column os (numbers (width wide) (starts 0 (sizes os))) (numbers (width wide) (sizes os))
branch_column (fixed n) os = column os [] []
branch_column Branch.Map os = column os (numbers 4 (running 0 (sizes os))) []

-- the column of a leaf, by its layout; a null has a bit 0, no text, or eight zeros
abbrev pub leaf_column : Layout → (width : ℕ) → List (Option (List ℕ)) → Column
leaf_column None w os = record { slots = length os; nulls = length os; validity = []; offsets = []; bytes = [] }
leaf_column Bit w os = column os [] (packed (map (λ o. nat_eq (slice_index (or_else [] o) 0) 1) os))
leaf_column Text w os = column os (numbers w (running 0 (sizes os))) (joined (map (or_else []) os))
leaf_column Eight w os = column os [] (joined (map (or_else (replicate 8 0)) os))

module _ (st : Setup) where
  -- what a child has under a null row: what it makes of Null
  abbrev pub hidden : (c : Node) → Value c
  hidden (branch f b cs) = none
  hidden (leaf f k) = shown ((meaning st k).answer Elem.null)

  -- and each of the children
  abbrev pub hidden_item : (cs : Fields) → Item cs
  hidden_item Fields.none = tt
  hidden_item (c ⊕ cs) = (hidden c, hidden_item cs)

  abbrev mutual
    -- one column for each node, in the order of their numbers
    pub columns : (c : Node) → List (Value c) → List Column
    columns (branch f b cs) os = branch_column b os ∷ columns_in cs (joined (map (taken b (hidden_item cs)) os))
    columns (leaf f k) os = leaf_column (meaning st k).layout (text_width k) os ∷ []

    pub columns_in : (cs : Fields) → List (Item cs) → List Column
    columns_in Fields.none is = []
    columns_in (c ⊕ cs) is = columns c (map (λ i. i.0) is) ++ columns_in cs (map (λ i. i.1) is)

-- the bytes of a column's buffers
abbrev pub size_of : Column → ℕ
size_of c = padded (length c.validity) + padded (length c.offsets) + padded (length c.bytes)

-- the place and length of a buffer that lies at `top`
abbrev pub place_of : (top : ℕ) → List ℕ → List ℕ
place_of top [] = le 4 0 ++ le 4 0
place_of top (b ∷ bs) = le 4 top ++ le 4 (length (b ∷ bs))

-- the record of a column whose buffers lie at `top`: slots, nulls, then place and length of validity, offsets and data
abbrev pub record_of : (top : ℕ) → Column → List ℕ
record_of top c =
    le 4 c.slots ++ (le 4 c.nulls ++ (place_of top c.validity
    ++ (place_of (top + padded (length c.validity)) c.offsets
    ++ place_of (top + padded (length c.validity) + padded (length c.offsets)) c.bytes)))

-- the records of columns whose buffers follow one another from `top` on
abbrev pub records : (top : ℕ) → List Column → List ℕ
records top [] = []
records top (c ∷ cs) = record_of top c ++ records (top + size_of c) cs

-- each buffer is padded with zeros
abbrev pub buffers : List Column → List ℕ
buffers [] = []
buffers (c ∷ cs) = pad c.validity ++ (pad c.offsets ++ (pad c.bytes ++ buffers cs))

-- a record of 32 bytes for each column, and then the buffers
abbrev pub batch : List Column → List ℕ
batch cs = records (32 * length cs) cs ++ buffers cs

-- the bytes of row values
abbrev pub bytes_of : (st : Setup) → List (Value st.root) → List ℕ
bytes_of st rows = batch (columns st st.root rows)

-- the eight numbers of a node's record, by their places; past the end of the bytes there are zeros
abbrev pub word_in : (bytes : List ℕ) (node k : ℕ) → ℕ
word_in bytes n k = le_at 4 bytes (32 * n + 4 * k)

-- and by their names
abbrev pub record_in : (bytes : List ℕ) (node : ℕ) → NodeRecord
record_in bytes n =
    let word = word_in bytes n in
    record {
      slots = word 0;
      nulls = word 1;
      validity = record { place = word 2; size = word 3 };
      offsets = record { place = word 4; size = word 5 };
      values = record { place = word 6; size = word 7 };
    }

-- the bytes of a buffer of a batch
abbrev pub buffer_in : (bytes : List ℕ) → Buffer → List ℕ
buffer_in bytes b = part bytes b.place b.size

-- the column of a node, read from a batch
abbrev pub column_in : (bytes : List ℕ) (node : ℕ) → Column
column_in bytes n =
    let own = record_in bytes n in
    record {
      slots = own.slots;
      nulls = own.nulls;
      validity = buffer_in bytes own.validity;
      offsets = buffer_in bytes own.offsets;
      bytes = buffer_in bytes own.values;
    }

-- the bytes that a node's buffers take, by its record
abbrev pub took_in : (bytes : List ℕ) (node : ℕ) → ℕ
took_in bytes n =
    let own = record_in bytes n in
    padded own.validity.size + padded own.offsets.size + padded own.values.size

-- ours: an empty buffer has place 0
abbrev pub lying_at : (top size : ℕ) → ℕ
lying_at top size = cond (size == 0) 0 top

-- ours: a node's buffers lie end to end from `top` on
pub record InOrder (own : NodeRecord) (top : ℕ) : Type 0 where
  pub validity : own.validity.place ≡ lying_at top own.validity.size
  pub offsets : own.offsets.place ≡ lying_at (top + padded own.validity.size) own.offsets.size
  pub values : own.values.place ≡ lying_at (top + padded own.validity.size + padded own.offsets.size) own.values.size
