-- What the parts of the check answer.
use Rattle.std.specs.Prelude.{◌≡◌, ℕ, ◌+◌, ◌%◌, ◌<◌, ◌≤◌, ◌==◌, true, false, List, length, Some, None, Option}
use Rattle.schema.specs.declared.kind.Kind.{Kind}
use Rattle.schema.specs.Tree.{LeafKind, text, boolean, custom, Branch, struct, list, fixed, a_branch, a_leaf, Node, nodes, levels}
use Rattle.schema.specs.Layout.{the, record_count, letter_at, flag_at, wide_at, spare_at, count_at}
use Rattle.schema.specs.Held.{many_for, Named, Held}

-- the answer is what P holds of, and there is none where P holds of nothing
abbrev pub Finds : {A : Type 0} → (A → Type 0) → Option A → Type 0
Finds P (Some k) = P k
Finds {A} P None = (k : A) → P k → ⊥

-- a letter l, a flag f, a wide flag w and a count n are those of a node of kind k
pub data Kinded (l f w n : ℕ) (k : Kind) : Type 0 where
  struct' : l ≡ the "S" → w ≡ 0 → n ≤ 64 → k ≡ a_branch struct → Kinded l f w n k
  fixed' : l ≡ the "F" → w ≡ 0 → k ≡ a_branch (fixed n) → Kinded l f w n k
  list' : l ≡ the "L" → w ≤ 1 → n ≡ 0 → k ≡ a_branch (list false (w == 1)) → Kinded l f w n k
  view' : l ≡ the "V" → w ≤ 1 → n ≡ 0 → k ≡ a_branch (list true (w == 1)) → Kinded l f w n k
  map' : l ≡ the "M" → w ≡ 0 → n ≡ 0 → k ≡ a_branch Branch.Map → Kinded l f w n k
  text' : l ≡ the "T" → w ≤ 1 → n ≡ 0 → k ≡ a_leaf (text (w == 1)) → Kinded l f w n k
  boolean' : l ≡ the "B" → w ≡ 0 → n ≡ 0 → k ≡ a_leaf boolean → Kinded l f w n k
  null' : l ≡ the "N" → f ≡ 1 → w ≡ 0 → n ≡ 0 → k ≡ a_leaf LeafKind.Null → Kinded l f w n k
  custom' : l ≡ the "X" → w ≡ 0 → n ≡ 0 → k ≡ a_leaf custom → Kinded l f w n k

-- record i is that of a node of kind k
abbrev pub KindAt : List ℕ → ℕ → Kind → Type 0
KindAt rs i k = Kinded (letter_at rs i) (flag_at rs i) (wide_at rs i) (count_at rs i) k

-- record i by itself is that of a node with k children
pub record Fit (rs ns : List ℕ) (i k : ℕ) : Type 0 where
  pub within : i < record_count rs
  pub flag : flag_at rs i ≤ 1
  pub spare : spare_at rs i ≡ 0
  pub named : Named rs ns i
  pub kind : Kind
  pub kinded : KindAt rs i kind
  pub children : k ≡ many_for kind (count_at rs i)

-- a tree of at most d levels is held from record i up to record q
pub record TreeTo (rs ns : List ℕ) (d i q : ℕ) : Type 0 where
  pub tree : Node
  pub held : Held rs ns i tree
  pub ends : q ≡ i + length (nodes tree)
  pub shallow : levels tree ≤ d

-- what can be said of a schema before its tree is followed
pub record Rooted (rs : List ℕ) : Type 0 where
  pub whole : length rs % 16 ≡ 0
  pub some : 0 < record_count rs
  pub few : record_count rs ≤ 1024
  pub struct : letter_at rs 0 ≡ the "S"
  pub present : flag_at rs 0 ≡ 0
