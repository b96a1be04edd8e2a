-- A schema as the tree that its records hold.
use Rattle.std.specs.Prelude.{◌≡◌, ℕ, suc, ◌+◌, max, Bool, List, [], ◌∷◌, ◌++◌, map as mapped, length, slice_index_or}
use Rattle.std.specs.List.{AllByRecursion}
use Rattle.octets.specs.Lists.{between}
use Rattle.schema.specs.declared.kind.Kind.{Kind}
pub use Rattle.schema.specs.declared.kind.Kind.TheVariants.{Branch as a_branch, Leaf as a_leaf}
pub use Rattle.schema.specs.declared.kind.Branch.{Branch}
pub use Rattle.schema.specs.declared.kind.Branch.TheVariants.{Struct as struct, List as list, Fixed as fixed}
pub use Rattle.schema.specs.declared.kind.LeafKind.{LeafKind}
pub use Rattle.schema.specs.declared.kind.LeafKind.TheVariants.{Text as text, Boolean as boolean, Custom as custom}

infixr 60 ◌⊕◌
-- what every node has
pub record Field : Type 0 where
  pub number : ℕ
  pub name : List ℕ
  pub nullable : Bool

mutual
  pub data Node : Type 0 where
    branch : Field → Branch → Fields → Node
    leaf : Field → LeafKind → Node

  pub data Fields : Type 0 where
    none : Fields
    ◌⊕◌ : Node → Fields → Fields

abbrev pub field_of : Node → Field
field_of (branch f b cs) = f
field_of (leaf f k) = f

-- what a node is
abbrev pub kind_of : Node → Kind
kind_of (branch f b cs) = a_branch b
kind_of (leaf f k) = a_leaf k

-- what stands right below a node
abbrev pub children_of : Node → Fields
children_of (branch f b cs) = cs
children_of (leaf f k) = Fields.none

-- how many fields, and their names
abbrev pub many : Fields → ℕ
many Fields.none = 0
many (c ⊕ cs) = suc (many cs)

abbrev pub names : Fields → List (List ℕ)
names Fields.none = []
names (c ⊕ cs) = (field_of c).name ∷ names cs

-- and the numbers of these fields
abbrev pub numbers : Fields → List ℕ
numbers Fields.none = []
numbers (c ⊕ cs) = (field_of c).number ∷ numbers cs

-- all nodes of a tree: each before those below it
abbrev mutual
  pub nodes : Node → List Node
  nodes (branch f b cs) = branch f b cs ∷ nodes_in cs
  nodes (leaf f k) = leaf f k ∷ []

  pub nodes_in : Fields → List Node
  nodes_in Fields.none = []
  nodes_in (c ⊕ cs) = nodes c ++ nodes_in cs

-- node i of a tree
abbrev pub node_at : Node → ℕ → Node
node_at root i = slice_index_or (nodes root) i root

-- how many levels stand one below another
abbrev mutual
  pub levels : Node → ℕ
  levels (branch f b cs) = 1 + levels_in cs
  levels (leaf f k) = 1

  pub levels_in : Fields → ℕ
  levels_in Fields.none = 0
  levels_in (c ⊕ cs) = max (levels c) (levels_in cs)

-- a list, a list-view and a fixed-size list have one child, and a map has a key and a value
abbrev pub Childed : Node → Type 0
Childed (branch f struct cs) = Unit {0}
Childed (branch f (list view wide) cs) = many cs ≡ 1
Childed (branch f (fixed n) cs) = many cs ≡ 1
Childed (branch f Branch.Map cs) = many cs ≡ 2
Childed (leaf f k) = Unit {0}

-- a schema's tree, with the nodes numbered from 0 in the order in which they stand
pub record WellFormed (root : Node) : Type 0 where
  pub childed : AllByRecursion Childed (nodes root)
  pub numbered : mapped (λ c. (field_of c).number) (nodes root) ≡ between 0 (length (nodes root))
