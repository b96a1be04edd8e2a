-- The way from the root of a schema to a node.
use Rattle.std.specs.Prelude.{ℕ, ◌+◌, Bool, true, false, cond, ◌&&◌, List, [], ◌++◌, length, codes, nat_le, nat_lt}
use Rattle.schema.specs.declared.kind.Kind.{Kind}
use Rattle.schema.specs.declared.kind.Kind.TheVariants.{Branch as a_branch, Leaf as a_leaf}
use Rattle.schema.specs.declared.kind.Branch.{Branch}
use Rattle.schema.specs.declared.kind.Branch.TheVariants.{Struct as struct, List as list, Fixed as fixed}
use Rattle.schema.specs.Tree.{Node, branch, leaf, Fields, ◌⊕◌, field_of, nodes}

-- whether a node of this kind is a struct
abbrev pub is_struct : Kind → Bool
is_struct (a_branch struct) = true
is_struct (a_branch (list view wide)) = false
is_struct (a_branch (fixed n)) = false
is_struct (a_branch Branch.Map) = false
is_struct (a_leaf k) = false

-- whether node n is t or stands below it
abbrev pub holds : ℕ → Node → Bool
holds n t = nat_le (field_of t).number n && nat_lt n ((field_of t).number + length (nodes t))

-- what is written for a step into a field of this name
abbrev pub prefix : List ℕ → List ℕ
prefix name = codes "whilst decoding field '" ++ (name ++ codes "': ")

-- and for a step from a parent to a child: nothing where the parent is no struct
abbrev pub step_into : (named : Bool) → Node → List ℕ
step_into named c = cond named (prefix (field_of c).name) []

abbrev mutual
  -- the steps down from a node to node n
  pub way_to : ℕ → Node → List ℕ
  way_to n (branch f b cs) = way_in n (is_struct (a_branch b)) cs
  way_to n (leaf f k) = []

  pub way_in : ℕ → (named : Bool) → Fields → List ℕ
  way_in n named Fields.none = []
  way_in n named (c ⊕ cs) = cond (holds n c) (step_into named c ++ way_to n c) (way_in n named cs)
