-- A work list that holds the positions of some children, child by child.
use Rattle.std.specs.Prelude.{◌≡◌, ℕ, ◌+◌, ◌*◌, ◌<◌, true, List, [], length, ◌≢◌, slice_index, slice_index_or}
use Rattle.tape.specs.View.{TapeView, is_position}

-- the position of child k in slot i, where each child has so many slots
abbrev pub cell : List ℕ → (stride k i : ℕ) → ℕ
cell work stride k i = slice_index work (k * stride + i)

-- items written from slot `at` on: the slots before it are as they were
pub record Filled (kids stride at : ℕ) (items : List (List ℕ)) (from to : List ℕ) : Type 0 where
  pub kept : (k i : ℕ) → k < kids → i < at → cell to stride k i ≡ cell from stride k i
  pub put : (k i : ℕ) → k < kids → i < length items → cell to stride k (at + i) ≡ slice_index (slice_index_or items i []) k

-- every item holds positions only
abbrev pub Positions : TapeView → List (List ℕ) → Type 0
Positions t items = (i k : ℕ) → is_position t (slice_index (slice_index_or items i []) k) ≡ true

-- xs written into every `step`th place from `place` on, and nothing else changed
pub record Spread (place step : ℕ) (xs from to : List ℕ) : Type 0 where
  pub put : (j : ℕ) → j < length xs → slice_index to (place + j * step) ≡ slice_index xs j
  pub kept : (q : ℕ) → ((j : ℕ) → j < length xs → q ≢ place + j * step) → slice_index to q ≡ slice_index from q
