-- An opened schema.
use Rattle.std.specs.Prelude.{◌≡◌, ℕ, List, Ok, Err, Result}
use Rattle.slip.specs.declared.Fault.{Fault}
use Rattle.slip.specs.Slips.{slip, slip_of}
use Rattle.schema.specs.declared.Schema.{Schema}
use Rattle.schema.specs.Tree.{Node}
use Rattle.schema.specs.Layout.{record_count}
use Rattle.schema.specs.Held.{Held}
use Rattle.schema.specs.Opens.{Opens}

-- the bytes of s, and how many records they are
abbrev pub records_of : Schema → List ℕ
records_of s = s.records.bytes.now

abbrev pub names_of : Schema → List ℕ
names_of s = s.records.names.now

abbrev pub size_of : Schema → ℕ
size_of s = record_count (records_of s)

-- root is the tree of s
abbrev pub TreeOf : Schema → Node → Type 0
TreeOf s root = Opens (records_of s) (names_of s) root

-- the tree of node i of s is t
abbrev pub NodeOf : Schema → ℕ → Node → Type 0
NodeOf s i t = Held (records_of s) (names_of s) i t

-- the bytes of s hold a tree
abbrev pub Opened : Schema → Type 0
Opened s = (root : Node) × TreeOf s root

-- a schema of these bytes, or the refusal of bytes that hold no tree
abbrev pub Opening : List ℕ → List ℕ → Result Schema Fault → Type 0
Opening rs ns (Ok s) = Opened s × (records_of s ≡ rs) × (names_of s ≡ ns)
Opening rs ns (Err f) = (slip_of f ≡ slip 2 0 0) × ((root : Node) → Opens rs ns root → ⊥)
