-- What node a letter names.
use Rattle.std.proofs.Common.{◌≡◌, ℕ, Bool, ap, ◌∙◌}
use Rattle.schema.specs.Tree.{Field, Node, Fields, field_of, children_of}
use Rattle.schema.specs.Held.{letter_of, wide_of, count_of}
use Rattle.schema.specs.OneTree.{kind_for, kind_again, made_of, again}

-- the node that a letter, a wide flag and a count name
abbrev pub node_of : ℕ → Bool → ℕ → Field → Fields → Node
node_of l w n f cs = made_of (kind_for l w n) f cs

-- a node with a known letter
pub by_letter : (t : Node) (l : ℕ) → letter_of t ≡ l → t ≡ node_of l (wide_of t) (count_of t) (field_of t) (children_of t)
by_letter t l e = again t ∙ ap (λ k. made_of k (field_of t) (children_of t)) (kind_again t ∙ ap (λ x. kind_for x (wide_of t) (count_of t)) e)
