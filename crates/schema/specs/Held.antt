-- When records hold a tree.
use Rattle.std.specs.Prelude.{◌≡◌, ℕ, ◌+◌, ◌<◌, ◌≤◌, Bool, true, false, cond, List, length, IsUtf8}
use Rattle.schema.specs.declared.kind.Kind.{Kind}
use Rattle.schema.specs.Tree.{LeafKind, text, boolean, custom, Branch, struct, list, fixed, a_branch, a_leaf, Node, branch, leaf, Fields, ◌⊕◌, field_of, children_of, many, nodes, Childed}
use Rattle.schema.specs.Layout.{the, record_count, letter_at, flag_at, wide_at, spare_at, end_at, start_at, size_at, name_at, count_at}

-- the letter of a node
abbrev pub letter_of : Node → ℕ
letter_of (branch f struct cs) = the "S"
letter_of (branch f (list false wide) cs) = the "L"
letter_of (branch f (list true wide) cs) = the "V"
letter_of (branch f (fixed n) cs) = the "F"
letter_of (branch f Branch.Map cs) = the "M"
letter_of (leaf f (text wide)) = the "T"
letter_of (leaf f boolean) = the "B"
letter_of (leaf f LeafKind.Null) = the "N"
letter_of (leaf f custom) = the "X"

-- whether its offsets have eight bytes, and not four: of a list, a list-view and text alone
abbrev pub wide_of : Node → Bool
wide_of (branch f struct cs) = false
wide_of (branch f (list view wide) cs) = wide
wide_of (branch f (fixed n) cs) = false
wide_of (branch f Branch.Map cs) = false
wide_of (leaf f (text wide)) = wide
wide_of (leaf f boolean) = false
wide_of (leaf f LeafKind.Null) = false
wide_of (leaf f custom) = false

-- a struct counts its fields, a fixed-size list its items in a row, and nothing else counts
abbrev pub count_of : Node → ℕ
count_of (branch f struct cs) = many cs
count_of (branch f (list view wide) cs) = 0
count_of (branch f (fixed n) cs) = n
count_of (branch f Branch.Map cs) = 0
count_of (leaf f k) = 0

-- how many children a node of this kind has, where its record counts n
abbrev pub many_for : Kind → ℕ → ℕ
many_for (a_branch struct) n = n
many_for (a_branch (list view wide)) n = 1
many_for (a_branch (fixed k)) n = 1
many_for (a_branch Branch.Map) n = 2
many_for (a_leaf k) n = 0

-- a struct has at most 64 fields, and a null leaf is nullable
abbrev pub Limited : Node → Type 0
Limited (branch f struct cs) = many cs ≤ 64
Limited (branch f (list view wide) cs) = Unit {0}
Limited (branch f (fixed n) cs) = Unit {0}
Limited (branch f Branch.Map cs) = Unit {0}
Limited (leaf f (text wide)) = Unit {0}
Limited (leaf f boolean) = Unit {0}
Limited (leaf f LeafKind.Null) = f.nullable ≡ true
Limited (leaf f custom) = Unit {0}

-- a flag as a byte
abbrev pub bit : Bool → ℕ
bit b = cond b 1 0

-- the name of record i lies in the names and is UTF-8
pub record Named (rs ns : List ℕ) (i : ℕ) : Type 0 where
  pub short : size_at rs i ≤ 255
  pub inside : start_at rs i + size_at rs i ≤ length ns
  pub utf8 : IsUtf8 (name_at rs ns i)

-- record i says what node t is
pub record Written (rs ns : List ℕ) (i : ℕ) (t : Node) : Type 0 where
  pub within : i < record_count rs
  pub number : (field_of t).number ≡ i
  pub letter : letter_at rs i ≡ letter_of t
  pub flag : flag_at rs i ≡ bit (field_of t).nullable
  pub wide : wide_at rs i ≡ bit (wide_of t)
  pub spare : spare_at rs i ≡ 0
  pub end : end_at rs i ≡ i + length (nodes t)
  pub named : Named rs ns i
  pub name : (field_of t).name ≡ name_at rs ns i
  pub count : count_at rs i ≡ count_of t

mutual
  -- the records from i on hold the tree t: its first record, and straight after it the trees of its children
  pub data Held (rs ns : List ℕ) : ℕ → Node → Type 0 where
    node : {i : ℕ} {t : Node} → Written rs ns i t → Childed t → Limited t → HeldIn rs ns (i + 1) (children_of t) → Held rs ns i t

  -- they hold trees, one after another
  pub data HeldIn (rs ns : List ℕ) : ℕ → Fields → Type 0 where
    nothing : {i : ℕ} → HeldIn rs ns i Fields.none
    more : {i : ℕ} {c : Node} {cs : Fields} → Held rs ns i c → HeldIn rs ns (i + length (nodes c)) cs → HeldIn rs ns i (c ⊕ cs)
