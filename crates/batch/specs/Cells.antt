-- Cell, and how rows are read back through it.
use Rattle.std.specs.Prelude.{ℕ, ◌+◌, ◌-◌, ◌*◌, ◌^◌, min, true, false, cond, List, [], ◌∷◌, length, ◌==◌, nat_lt, slice_index_or}
use Rattle.std.proofs.Math.Option.{none, some}
use Rattle.octets.specs.Lists.{part, between}
use Rattle.octets.specs.Numbers.{bitmap_bit}
use Rattle.schema.specs.Tree.{nodes, Node, Fields, branch, leaf, ◌⊕◌}
use Rattle.schema.specs.declared.kind.Branch.{Branch}
use Rattle.schema.specs.declared.kind.Branch.TheVariants.{Struct as struct, List as list, Fixed as fixed}
use Rattle.leaf.specs.declared.layout.Layout.{Layout}
use Rattle.leaf.specs.declared.layout.Layout.TheVariants.{None, Bit, Text, Eight}
use Rattle.slip.specs.Slips.{refuse, not_there, Got, got, then, each}
use Rattle.batch.specs.Values.{Setup, Value, Item, meaning}
use Rattle.batch.specs.Format.{width, is_wide, Column, is_valid, offset, extent, span}
use Rattle.batch.specs.declared.cell.Content.{Content}
use Rattle.batch.specs.declared.cell.Shape.{Shape}
use Rattle.batch.specs.declared.cell.Shape.TheVariants.{Struct, List as ListOf, View, Fixed, Map, Leaf}
use Rattle.batch.specs.Batch.{record_in, column_in}

-- 0 null; 1 a bit; 2 bytes, by place and length; 3 children, by first slot and count; 4 fields, by slot
pub record Cell : Type 0 where
  pub kind : ℕ
  pub first : ℕ
  pub second : ℕ

-- a cell from its kind and two numbers
abbrev pub cell_of : ℕ → ℕ → ℕ → Cell
cell_of kind first second = record { kind = kind; first = first; second = second }

-- the three numbers of a cell
abbrev pub triple : Cell → ℕ × ℕ × ℕ
triple c = (c.kind, c.first, c.second)

-- what stands in a slot, by its kind and two numbers
abbrev pub numbers_of : Content → Cell
numbers_of Content.Null = cell_of 0 0 0
numbers_of (Content.Bit b) = cell_of 1 (cond b 1 0) 0
numbers_of (Content.Bytes place size) = cell_of 2 place size
numbers_of (Content.Items first count) = cell_of 3 first count
numbers_of (Content.Fields slot) = cell_of 4 slot 0

-- a cell that leads to children, by the first slot and their count
abbrev pub children : ℕ × ℕ → Cell
children at = cell_of 3 at.0 at.1

-- a place on the page; a sum that passes 64 bits stays at their greatest number
abbrev pub reach : ℕ → ℕ → ℕ
reach place more = min (place + more) (2 ^ 64 - 1)

-- bytes of the page, with place 0 for none
abbrev pub lying : (place size : ℕ) → Cell
lying place size = cond (size == 0) (cell_of 2 0 0) (cell_of 2 place size)

-- a leaf's values begin at `place` of the page
abbrev pub leaf_cell : Layout → (width place : ℕ) → Column → ℕ → Cell
leaf_cell None w place c slot = cell_of 0 0 0
leaf_cell Bit w place c slot = cell_of 1 (bitmap_bit c.bytes slot) 0
leaf_cell Text w place c slot = lying (reach place (offset w c slot)) (extent w c slot)
leaf_cell Eight w place c slot = lying (reach place (8 * slot)) 8

-- a slot that is not null, by the shape of its node
abbrev pub shape_cell : Shape → (place : ℕ) → Column → ℕ → Cell
shape_cell Struct place c slot = cell_of 4 slot 0
shape_cell (ListOf wide) place c slot = children (span (list false wide) c slot)
shape_cell (View wide) place c slot = children (span (list true wide) c slot)
shape_cell (Fixed n) place c slot = children (span (fixed n) c slot)
shape_cell Map place c slot = children (span Branch.Map c slot)
shape_cell (Leaf layout wide) place c slot = leaf_cell layout (width wide) place c slot

-- the cell of a node in a batch that begins at `base` of the page
abbrev pub cell_by : Shape → (base : ℕ) (bytes : List ℕ) (node slot : ℕ) → Cell
cell_by shape base bytes n slot =
    let c = column_in bytes n in
    cond (is_valid c slot) (shape_cell shape (reach base (record_in bytes n).values.place) c slot) (cell_of 0 0 0)

-- and nothing is there past the last slot
abbrev pub slot_cell : Shape → (base : ℕ) (bytes : List ℕ) (node slot : ℕ) → Got Cell
slot_cell shape base bytes n slot = cond (nat_lt slot (record_in bytes n).slots) (got (cell_by shape base bytes n slot)) (refuse not_there)

-- the shape of a branch
abbrev pub branch_shape : Branch → Shape
branch_shape struct = Struct
branch_shape (list false wide) = ListOf wide
branch_shape (list true wide) = View wide
branch_shape (fixed n) = Fixed n
branch_shape Branch.Map = Map

-- of any node: a leaf's shape goes by the layout of its pile
abbrev pub shape_of : Setup → Node → Shape
shape_of st (branch f b cs) = branch_shape b
shape_of st (leaf f k) = Leaf (meaning st k).layout (is_wide k)

-- the cell of a node of the schema
abbrev pub cell_in : Setup → (base : ℕ) (bytes : List ℕ) (node : ℕ) → Node → ℕ → Cell
cell_in st base bytes n c slot = cell_by (shape_of st c) base bytes n slot

-- of a whole batch, if there are such a node and slot
abbrev pub batch_cell : Setup → (base : ℕ) (bytes : List ℕ) (node slot : ℕ) → Got Cell
batch_cell st base bytes n slot =
    cond (nat_lt n (length (nodes st.root))) (slot_cell (shape_of st (slice_index_or (nodes st.root) n st.root)) base bytes n slot) (refuse not_there)

-- a row from the cells of a batch, and from the bytes of the page that they point to
module _ (ask : (node slot : ℕ) → Got Cell) (page : List ℕ) where
  abbrev mutual
    pub read : (c : Node) → ℕ → Got (Value c)
    read (branch f b cs) slot =
        then (ask f.number slot) (λ c.
        cond (c.kind == 0) (got none)
        (then (each (read_item cs) (cond (c.kind == 4) (c.first ∷ []) (between c.first c.second))) (λ is. got (some is))))
    read (leaf f k) slot =
        then (ask f.number slot) (λ c.
        cond (c.kind == 0) (got none)
        (got (some (cond (c.kind == 1) (c.first ∷ []) (part page c.first c.second)))))

    pub read_item : (cs : Fields) → ℕ → Got (Item cs)
    read_item Fields.none slot = got tt
    read_item (c ⊕ cs) slot = then (read c slot) (λ x. then (read_item cs slot) (λ is. got (x, is)))
