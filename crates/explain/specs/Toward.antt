-- What a step of the walk down a schema finds.
use Rattle.std.specs.Prelude.{◌≡◌, ℕ, ◌<◌, [], ◌++◌, Option, MatchOption}
use Rattle.schema.specs.declared.Schema.{Schema}
use Rattle.schema.specs.Opened.{NodeOf, size_of}
use Rattle.schema.specs.Tree.{Node, kind_of}
use Rattle.explain.specs.Way.{is_struct, step_into, way_to}

-- the way from node t down to node n goes over this child
pub record Step (s : Schema) (parent : ℕ) (t : Node) (n child : ℕ) : Type 0 where
  pub below : parent < child
  pub within : child < size_of s
  pub tree : Node
  pub held : NodeOf s child tree
  pub way : way_to n t ≡ step_into (is_struct (kind_of t)) tree ++ way_to n tree

-- it goes over a child, or is at its end
abbrev pub Toward : Schema → (parent : ℕ) → Node → (n : ℕ) → Option ℕ → Type 0
Toward s parent t n r = MatchOption r (way_to n t ≡ []) (Step s parent t n)
