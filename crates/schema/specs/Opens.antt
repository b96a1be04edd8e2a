-- When two slices are a schema, and what holds of every schema.
use Rattle.std.specs.Prelude.{◌≡◌, ℕ, ◌%◌, ◌<◌, ◌≤◌, false, List, length}
use Rattle.schema.specs.Tree.{Node, field_of, nodes, node_at, levels, WellFormed}
use Rattle.schema.specs.Layout.{the, record_count}
use Rattle.schema.specs.Held.{letter_of, Held}

-- The records are 1 to 1,024, and hold the tree of root and nothing else. The root is a struct and not nullable, and the first of at most 16 levels.
pub record Opens (rs ns : List ℕ) (root : Node) : Type 0 where
  pub whole : length rs % 16 ≡ 0
  pub some : 0 < record_count rs
  pub few : record_count rs ≤ 1024
  pub held : Held rs ns 0 root
  pub all : length (nodes root) ≡ record_count rs
  pub struct : letter_of root ≡ the "S"
  pub present : (field_of root).nullable ≡ false
  pub shallow : levels root ≤ 16

-- two slices hold at most one tree
abbrev pub OneTree : List ℕ → List ℕ → Type 0
OneTree rs ns = (a b : Node) → Opens rs ns a → Opens rs ns b → a ≡ b

-- its nodes are numbered from 0 in the order in which they stand
abbrev pub AllFormed : List ℕ → List ℕ → Type 0
AllFormed rs ns = (root : Node) → Opens rs ns root → WellFormed root

-- and the tree of node i is held from record i on
abbrev pub AllHeld : List ℕ → List ℕ → Type 0
AllHeld rs ns = (root : Node) → Opens rs ns root → (i : ℕ) → i < record_count rs → Held rs ns i (node_at root i)
