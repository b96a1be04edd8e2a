-- What the Apache Arrow Columnar Format says of an array's buffers: what they mean, and what must hold of them.
use Rattle.std.specs.Prelude.{◌≡◌, ℕ, ◌+◌, ◌-◌, ◌*◌, ◌/◌, ◌%◌, ◌^◌, ◌<◌, ◌≤◌, Bool, true, false, cond, List, [], ◌∷◌, map, length, replicate, ◌==◌}
use Rattle.std.proofs.Math.Option.{Option, none, some}
use Rattle.octets.specs.Lists.{part, sum, between}
use Rattle.octets.specs.Numbers.{padded, number_in, bitmap_bit}
use Rattle.schema.specs.Tree.{Node, Fields, branch, leaf, ◌⊕◌, field_of}
use Rattle.schema.specs.declared.kind.Branch.{Branch}
use Rattle.schema.specs.declared.kind.Branch.TheVariants.{Struct as struct, List as list, Fixed as fixed}
use Rattle.schema.specs.declared.kind.LeafKind.{LeafKind}
use Rattle.leaf.specs.declared.layout.Layout.{Layout}
use Rattle.leaf.specs.declared.layout.Layout.TheVariants.{None, Bit, Text, Eight}
use Rattle.batch.specs.Suited.{Lettered}
use Rattle.batch.specs.Values.{Setup, Value, Item, meaning, may_be_null}

-- the array of one node: how many slots, how many of them null, and the buffers; a list-view has its sizes as data
pub record Column : Type 0 where
  pub slots : ℕ
  pub nulls : ℕ
  pub validity : List ℕ
  pub offsets : List ℕ
  pub bytes : List ℕ

-- bit j % 8 of byte j / 8, the lowest bit first
abbrev pub is_set : List ℕ → ℕ → Bool
is_set bytes j = bitmap_bit bytes j == 1

-- a slot is valid if its bit is set, or if there are no bits
abbrev pub is_marked : List ℕ → ℕ → Bool
is_marked [] j = true
is_marked (b ∷ bs) j = is_set (b ∷ bs) j

-- the same of a column
abbrev pub is_valid : Column → ℕ → Bool
is_valid c j = is_marked c.validity j

-- offsets of 4 bytes, or of 8
abbrev pub width : (wide : Bool) → ℕ
width wide = cond wide 8 4

-- a text may have wide offsets, and a custom leaf has narrow ones
abbrev pub is_wide : LeafKind → Bool
is_wide (LeafKind.Text wide) = wide
is_wide LeafKind.Boolean = false
is_wide LeafKind.Null = false
is_wide LeafKind.Custom = false

-- how wide a text's offsets are
abbrev pub text_width : LeafKind → ℕ
text_width k = width (is_wide k)

-- offset j of a column
abbrev pub offset : (width : ℕ) → Column → ℕ → ℕ
offset w c j = number_in w c.offsets j

-- from one offset to the next
abbrev pub extent : (width : ℕ) → Column → ℕ → ℕ
extent w c j = offset w c (j + 1) - offset w c j

-- the slots that a slot has in each child: the first, and how many; a map is laid out as a list of keys and values
abbrev pub span : Branch → Column → ℕ → ℕ × ℕ
span struct c j = (j, 1)
span (list false wide) c j = (offset (width wide) c j, extent (width wide) c j)
span (list true wide) c j = (offset (width wide) c j, number_in (width wide) c.bytes j)
span (fixed n) c j = (n * j, n)
span Branch.Map c j = (offset 4 c j, extent 4 c j)

-- the value of a slot of a leaf
abbrev pub leaf_in : Layout → (width : ℕ) → Column → ℕ → Option (List ℕ)
leaf_in None w c j = none
leaf_in Bit w c j = cond (is_valid c j) (some (bitmap_bit c.bytes j ∷ [])) none
leaf_in Text w c j = cond (is_valid c j) (some (part c.bytes (offset w c j) (extent w c j))) none
leaf_in Eight w c j = cond (is_valid c j) (some (part c.bytes (8 * j) 8)) none

-- the value of a slot of any node, from the columns of all nodes by their numbers
module _ (st : Setup) (column : ℕ → Column) where
  abbrev mutual
    pub value_in : (c : Node) → ℕ → Value c
    value_in (branch f b cs) j =
        let at = span b (column f.number) j in
        cond (is_valid (column f.number) j) (some (map (item_in cs) (between at.0 at.1))) none
    value_in (leaf f k) j = leaf_in (meaning st k).layout (text_width k) (column f.number) j

    pub item_in : (cs : Fields) → ℕ → Item cs
    item_in Fields.none j = tt
    item_in (c ⊕ cs) j = (value_in c j, item_in cs j)

-- What must hold of the buffers. A law marked `ours` is stricter than the Format, which leaves the matter open.

-- ours: the bits of a last byte from bit n on are zero
abbrev pub Spare : List ℕ → (n : ℕ) → Type 0
Spare bytes n = (j : ℕ) → n ≤ j → j < 8 * length bytes → bitmap_bit bytes j ≡ 0

-- as many nulls as slots that are not valid; ours: a bit for each slot only if there are any
pub record Marked (c : Column) : Type 0 where
  pub counted : c.nulls ≡ sum (map (λ j. cond (is_valid c j) 0 1) (between 0 c.slots))
  pub bits : length c.validity ≡ cond (c.nulls == 0) 0 ((c.slots + 7) / 8)
  pub spare : Spare c.validity c.slots

-- an offset more than slots, all of them signed numbers that are not negative, from 0 to the end of what they cut, and none below the one before
pub record Cuts (width : ℕ) (c : Column) (end : ℕ) : Type 0 where
  pub size : length c.offsets ≡ width * (c.slots + 1)
  pub signed : (j : ℕ) → j ≤ c.slots → offset width c j < 2 ^ (8 * width - 1)
  pub first : offset width c 0 ≡ 0
  pub rising : (j : ℕ) → j < c.slots → offset width c j ≤ offset width c (j + 1)
  pub last : offset width c c.slots ≡ end
  -- ours: a null takes nothing
  pub empty : (j : ℕ) → j < c.slots → is_valid c j ≡ false → extent width c j ≡ 0

-- an offset and a size for each slot, signed numbers that are not negative, within the child
pub record Views (width : ℕ) (c : Column) (end : ℕ) : Type 0 where
  pub offsets : length c.offsets ≡ width * c.slots
  pub sizes : length c.bytes ≡ width * c.slots
  pub signed : (j : ℕ) → j < c.slots → (offset width c j < 2 ^ (8 * width - 1)) × (number_in width c.bytes j < 2 ^ (8 * width - 1))
  pub within : (j : ℕ) → j < c.slots → offset width c j + number_in width c.bytes j ≤ end
  -- ours: the views follow one another from 0 on, and a null takes nothing
  pub first : 0 < c.slots → offset width c 0 ≡ 0
  pub next : (j : ℕ) → j + 1 < c.slots → offset width c (j + 1) ≡ offset width c j + number_in width c.bytes j
  pub empty : (j : ℕ) → j < c.slots → is_valid c j ≡ false → number_in width c.bytes j ≡ 0

-- the entries of a map, a struct of a key and a value: it has no nulls and so no buffers, and no record on the page
abbrev pub entries_of : Column → Column
entries_of c = record { slots = offset 4 c c.slots; nulls = 0; validity = []; offsets = []; bytes = [] }

-- a branch whose children have n slots each
abbrev pub BranchLaid : Branch → Column → ℕ → Type 0
BranchLaid struct c n = (c.offsets ≡ []) × (c.bytes ≡ []) × (n ≡ c.slots)
BranchLaid (list false wide) c n = Cuts (width wide) c n × (c.bytes ≡ [])
BranchLaid (list true wide) c n = Views (width wide) c n
BranchLaid (fixed m) c n = (c.offsets ≡ []) × (c.bytes ≡ []) × (n ≡ m * c.slots)
BranchLaid Branch.Map c n = Cuts 4 c n × (c.bytes ≡ []) × Marked (entries_of c) × (n ≡ (entries_of c).slots)

-- ours: the bit or the eight bytes of a null are zero
abbrev pub LeafLaid : Layout → (width : ℕ) → Column → Type 0
LeafLaid None w c = (c.nulls ≡ c.slots) × (c.validity ≡ []) × (c.offsets ≡ []) × (c.bytes ≡ [])
LeafLaid Bit w c =
    Marked c × (c.offsets ≡ []) × (length c.bytes ≡ (c.slots + 7) / 8) × Spare c.bytes c.slots
    × ((j : ℕ) → j < c.slots → is_valid c j ≡ false → bitmap_bit c.bytes j ≡ 0)
LeafLaid Text w c = Marked c × Cuts w c (length c.bytes)
LeafLaid Eight w c =
    Marked c × (c.offsets ≡ []) × (length c.bytes ≡ 8 * c.slots)
    × ((j : ℕ) → j < c.slots → is_valid c j ≡ false → part c.bytes (8 * j) 8 ≡ replicate 8 0)

module _ (st : Setup) (column : ℕ → Column) where
  abbrev mutual
    pub Laid : Node → Type 0
    Laid (branch f b cs) = Marked (column f.number) × ((n : ℕ) × BranchLaid b (column f.number) n × LaidIn cs n)
    Laid (leaf f k) = LeafLaid (meaning st k).layout (text_width k) (column f.number)

    -- children that all have n slots
    pub LaidIn : Fields → ℕ → Type 0
    LaidIn Fields.none n = Unit {0}
    LaidIn (c ⊕ cs) n = ((column (field_of c).number).slots ≡ n) × Laid c × LaidIn cs n

-- a child that may not be null has no null where its parent has none: in each slot of a parent's row, these children are valid
module _ (st : Setup) (column : ℕ → Column) where
  abbrev pub FilledAt : Fields → ℕ → Type 0
  FilledAt Fields.none k = Unit {0}
  FilledAt (c ⊕ cs) k = (may_be_null st c ≡ false → is_valid (column (field_of c).number) k ≡ true) × FilledAt cs k

  abbrev mutual
    pub Filled : Node → Type 0
    Filled (branch f b cs) =
        let own = column f.number in
        ((j k : ℕ) → j < own.slots → is_valid own j ≡ true → (span b own j).0 ≤ k → k < (span b own j).0 + (span b own j).1 → FilledAt cs k) × FilledIn cs
    Filled (leaf f k) = Unit {0}

    pub FilledIn : Fields → Type 0
    FilledIn Fields.none = Unit {0}
    FilledIn (c ⊕ cs) = Filled c × FilledIn cs

-- the texts of a column are UTF-8
module _ (st : Setup) (column : ℕ → Column) where
  abbrev mutual
    pub Spelled : Node → Type 0
    Spelled (branch f b cs) = SpelledIn cs
    Spelled (leaf f k) = (j : ℕ) → j < (column f.number).slots → Lettered k (value_in st column (leaf f k) j)

    pub SpelledIn : Fields → Type 0
    SpelledIn Fields.none = Unit {0}
    SpelledIn (c ⊕ cs) = Spelled c × SpelledIn cs

-- a buffer begins at a multiple of 8, and (ours) zeros fill it up to the next
pub record Placed (bytes : List ℕ) (place size : ℕ) : Type 0 where
  pub aligned : place % 8 ≡ 0
  pub within : place + padded size ≤ length bytes
  pub filled : part bytes (place + size) (padded size - size) ≡ replicate (padded size - size) 0
