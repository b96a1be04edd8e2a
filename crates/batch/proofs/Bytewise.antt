-- Where the leaves of row values hold bytes, a batch is bytes.
use Rattle.std.proofs.Common.{ℕ, zero, suc, ◌+◌, ◌-◌, ◌*◌, ◌/◌, ◌^◌, ◌<◌, ◌≤◌, Bool, true, false, cond, eqb, List, [], ◌∷◌, ◌++◌, map, length, get_or, drop, replicate, pow-suc, arith, length-take, pow_mono}
use mathlib.Core.Option.{Option, none, some}
use Rattle.std.specs.List.{AllByRecursion}
use Rattle.std.proofs.ByRecursion.{All-append, All-map, All-weaker}
use Rattle.octets.specs.Lists.{part, joined, between, running, starts, is_some, or_else}
use Rattle.octets.specs.Numbers.{le, padded, pad, numbers, weighed, packed}
use Rattle.schema.specs.Tree.{Node, Fields, branch, leaf, ◌⊕◌}
use Rattle.schema.specs.declared.kind.Branch.{Branch}
use Rattle.schema.specs.declared.kind.Branch.TheVariants.{Struct as struct, List as list, Fixed as fixed}
use Rattle.tape.specs.View.{null}
use Rattle.leaf.specs.Bytes.{AreBytes, GivesBytes}
use Rattle.leaf.specs.declared.layout.Layout.{Layout}
use Rattle.leaf.specs.declared.layout.Layout.TheVariants.{None, Bit, Text, Eight}
use Rattle.leaf.proofs.Fitted.{piles_give_bytes}
use Rattle.batch.specs.Values.{Setup, Value, Item, meaning, taken}
use Rattle.batch.specs.Suited.{Present, Bytewise, BytewiseItem}
use Rattle.batch.specs.Format.{Column, width, text_width}
use Rattle.batch.specs.Batch.{nulls, sizes, column, branch_column, leaf_column, hidden, hidden_item, columns, columns_in, size_of, place_of, record_of, records, buffers}
use Rattle.batch.specs.Laws.{AllBytes}
use Rattle.batch.proofs.Sized.{shown_of, all_mapped}
use Rattle.batch.proofs.Back.{all_present}

abbrev Byte : ℕ → Type 0
Byte b = b < 256

-- lists end to end
both : (xs ys : List ℕ) → AreBytes xs → AreBytes ys → AreBytes (xs ++ ys)
both xs ys p q = All-append Byte xs ys p q

ends : (xss : List (List ℕ)) → AllByRecursion AreBytes xss → AreBytes (joined xss)
ends [] p = tt
ends (xs ∷ xss) p = both xs (joined xss) p.0 (ends xss p.1)

zeros : (n : ℕ) → AreBytes (replicate n 0)
zeros zero = tt
zeros (suc n) = (omega arith, zeros n)

-- numbers
le_bytes : (w n : ℕ) → AreBytes (le w n)
le_bytes zero n = tt
le_bytes (suc w) n = (omega arith, le_bytes w (n / 256))

numbers_bytes : (w : ℕ) (ns : List ℕ) → AreBytes (numbers w ns)
numbers_bytes w [] = tt
numbers_bytes w (n ∷ ns) = both (le w n) (numbers w ns) (le_bytes w n) (numbers_bytes w ns)

-- bits
bit_below : (b : Bool) → cond b 1 0 ≤ 1
bit_below true = omega arith
bit_below false = omega arith

weighed-below : (bs : List Bool) → weighed bs < 2 ^ length bs
weighed-below [] = omega arith
weighed-below (b ∷ bs) = rw (pow-suc 2 (length bs)) (omega (arith, weighed-below bs, bit_below b))

packed_bytes : (bs : List Bool) → AreBytes (packed bs)
packed_bytes bs = all_mapped Byte (λ k. weighed (part bs (8 * k) 8)) eighth (between 0 ((length bs + 7) / 8))
  where
    eighth : (k : ℕ) → weighed (part bs (8 * k) 8) < 256
    eighth k =
        let short : length (part bs (8 * k) 8) ≤ 8 = omega (arith, length-take 8 (drop (8 * k) bs)) in
        omega (arith, weighed-below (part bs (8 * k) 8), pow_mono short)

-- columns
record ByteColumn (c : Column) : Type 0 where
  validity : AreBytes c.validity
  offsets : AreBytes c.offsets
  bytes : AreBytes c.bytes

column_bytes : {A : Type 0} (os : List (Option A)) (offsets bytes : List ℕ) → AreBytes offsets → AreBytes bytes → ByteColumn (column os offsets bytes)
column_bytes os offsets bytes p q = record { validity = marks (eqb (nulls os) 0); offsets = p; bytes = q }
  where
    marks : (b : Bool) → AreBytes (cond b [] (packed (map is_some os)))
    marks true = tt
    marks false = packed_bytes (map is_some os)

branch_bytes : {A : Type 0} (b : Branch) (os : List (Option (List A))) → ByteColumn (branch_column b os)
branch_bytes struct os = column_bytes os [] [] tt tt
branch_bytes (list false w) os = column_bytes os _ [] (numbers_bytes (width w) (running 0 (sizes os))) tt
branch_bytes (list true w) os = column_bytes os _ _ (numbers_bytes (width w) (starts 0 (sizes os))) (numbers_bytes (width w) (sizes os))
branch_bytes (fixed n) os = column_bytes os [] [] tt tt
branch_bytes Branch.Map os = column_bytes os _ [] (numbers_bytes 4 (running 0 (sizes os))) tt

filled_bytes : (d : List ℕ) → AreBytes d → (os : List (Option (List ℕ))) → AllByRecursion (Present AreBytes) os → AreBytes (joined (map (or_else d) os))
filled_bytes d p [] h = tt
filled_bytes d p (none ∷ os) h = both d (joined (map (or_else d) os)) p (filled_bytes d p os h.1)
filled_bytes d p (some bs ∷ os) h = both bs (joined (map (or_else d) os)) h.0 (filled_bytes d p os h.1)

leaf_bytes : (l : Layout) (w : ℕ) (os : List (Option (List ℕ))) → AllByRecursion (Present AreBytes) os → ByteColumn (leaf_column l w os)
leaf_bytes None w os h = record { validity = tt; offsets = tt; bytes = tt }
leaf_bytes Bit w os h = column_bytes os [] _ tt (packed_bytes (map (λ o. eqb (get_or (or_else [] o) 0 0) 1) os))
leaf_bytes Text w os h = column_bytes os _ _ (numbers_bytes w (running 0 (sizes os))) (filled_bytes [] tt os h)
leaf_bytes Eight w os h = column_bytes os [] _ tt (filled_bytes (replicate 8 0) (zeros 8) os h)

module _ (st : Setup) (gives : GivesBytes st.custom) where
  hidden_bytes : (c : Node) → Bytewise c (hidden st c)
  hidden_bytes (branch f b cs) = tt
  hidden_bytes (leaf f k) = shown_of AreBytes ((meaning st k).answer null) (piles_give_bytes st.settings st.custom k gives null tt)

  hidden-item_bytes : (cs : Fields) → BytewiseItem cs (hidden_item st cs)
  hidden-item_bytes Fields.none = tt
  hidden-item_bytes (c ⊕ cs) = (hidden_bytes c, hidden-item_bytes cs)

  mutual
    columns_bytes : (c : Node) (os : List (Value c)) → AllByRecursion (Bytewise c) os → AllByRecursion ByteColumn (columns st c os)
    columns_bytes (branch f b cs) os h = (
      branch_bytes b os,
      items_bytes cs (joined (map (taken b (hidden_item st cs)) os))
          (all_present b (BytewiseItem cs) (hidden_item st cs) (hidden-item_bytes cs) os h),
    )
    columns_bytes (leaf f k) os h = (leaf_bytes (meaning st k).layout (text_width k) os h, tt)

    items_bytes : (cs : Fields) (is : List (Item cs)) → AllByRecursion (BytewiseItem cs) is → AllByRecursion ByteColumn (columns_in st cs is)
    items_bytes Fields.none is h = tt
    items_bytes (c ⊕ cs) is h =
        All-append ByteColumn (columns st c (map (λ i. i.0) is)) (columns_in st cs (map (λ i. i.1) is))
        (columns_bytes c (map (λ i. i.0) is) (All-map (Bytewise c) (λ i. i.0) is (All-weaker (BytewiseItem (c ⊕ cs)) (λ i. Bytewise c i.0) (λ i h. h.0) is h)))
        (items_bytes cs (map (λ i. i.1) is) (All-map (BytewiseItem cs) (λ i. i.1) is (All-weaker (BytewiseItem (c ⊕ cs)) (λ i. BytewiseItem cs i.1) (λ i h. h.1) is h)))

-- records and buffers
place_bytes : (top : ℕ) (bs : List ℕ) → AreBytes (place_of top bs)
place_bytes top [] = both (le 4 0) (le 4 0) (le_bytes 4 0) (le_bytes 4 0)
place_bytes top (b ∷ bs) = both (le 4 top) (le 4 (length (b ∷ bs))) (le_bytes 4 top) (le_bytes 4 (length (b ∷ bs)))

record_bytes : (top : ℕ) (c : Column) → AreBytes (record_of top c)
record_bytes top c =
    let v = place_of top c.validity in
    let o = place_of (top + padded (length c.validity)) c.offsets in
    let d = place_of (top + padded (length c.validity) + padded (length c.offsets)) c.bytes in
    both (le 4 c.slots) (le 4 c.nulls ++ (v ++ (o ++ d))) (le_bytes 4 c.slots)
    (both (le 4 c.nulls) (v ++ (o ++ d)) (le_bytes 4 c.nulls)
    (both v (o ++ d) (place_bytes top c.validity)
    (both o d (place_bytes (top + padded (length c.validity)) c.offsets) (place_bytes (top + padded (length c.validity) + padded (length c.offsets)) c.bytes))))

records_bytes : (top : ℕ) (cs : List Column) → AreBytes (records top cs)
records_bytes top [] = tt
records_bytes top (c ∷ cs) = both (record_of top c) (records (top + size_of c) cs) (record_bytes top c) (records_bytes (top + size_of c) cs)

pad_bytes : (bs : List ℕ) → AreBytes bs → AreBytes (pad bs)
pad_bytes bs h = both bs (replicate (padded (length bs) - length bs) 0) h (zeros (padded (length bs) - length bs))

buffers_bytes : (cs : List Column) → AllByRecursion ByteColumn cs → AreBytes (buffers cs)
buffers_bytes [] h = tt
buffers_bytes (c ∷ cs) h =
    both (pad c.validity) (pad c.offsets ++ (pad c.bytes ++ buffers cs)) (pad_bytes c.validity h.0.validity)
    (both (pad c.offsets) (pad c.bytes ++ buffers cs) (pad_bytes c.offsets h.0.offsets) (both (pad c.bytes) (buffers cs) (pad_bytes c.bytes h.0.bytes) (buffers_bytes cs h.1)))

pub all_bytes : AllBytes
all_bytes st gives rows h =
    let cs = columns st st.root rows in
    both (records (32 * length cs) cs) (buffers cs) (records_bytes (32 * length cs) cs) (buffers_bytes cs (columns_bytes st gives st.root rows h))
