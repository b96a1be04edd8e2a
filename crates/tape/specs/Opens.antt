-- When three byte lists are a tape.
use Rattle.std.specs.Prelude.{◌≡◌, ℕ, ◌+◌, ◌*◌, ◌%◌, ◌^◌, ◌<◌, ◌≤◌, List, length, IsUtf8, slice_index}
use Rattle.std.specs.Str.{IsCharBoundary}
use Rattle.tape.specs.Layout.{the, letter_at, number_at, offset_at, element_count, offset_count}
use Rattle.tape.specs.Grammar.{Values}
use Rattle.tape.specs.View.{TapeView}

-- bytes 1 to 3 of element p are zero
abbrev pub Bare : List ℕ → ℕ → Type 0
Bare es p = (slice_index es (8 * p + 1) ≡ 0) × (slice_index es (8 * p + 2) ≡ 0) × (slice_index es (8 * p + 3) ≡ 0)

-- the offsets never fall, and none passes the texts' end or splits a character
pub record Rise (ts os : List ℕ) : Type 0 where
  pub rising : (k : ℕ) → k + 1 < offset_count os → offset_at os k ≤ offset_at os (k + 1)
  pub uncut : (k : ℕ) → k < offset_count os → IsCharBoundary ts (offset_at os k)

-- the texts are UTF-8, and the offsets cut them well
pub record Texts (ts os : List ℕ) : Type 0 where
  pub utf8 : IsUtf8 ts
  pub rise : Rise ts os

-- the elements es, the texts ts and the offsets os are a tape
pub record Opens (es ts os : List ℕ) : Type 0 where
  pub few_elements : length es ≤ 8 * 2 ^ 24
  pub few_texts : length ts ≤ 2 ^ 24
  pub few_offsets : length os ≤ 4 * 2 ^ 24
  pub whole_elements : length es % 8 ≡ 0
  pub whole_offsets : length os % 4 ≡ 0
  pub bare : (p : ℕ) → p < element_count es → Bare es p
  -- element 0 is Null
  pub first : letter_at es 0 ≡ the "z"
  pub first_number : number_at es 0 ≡ 0
  -- values fill the rest, with at most 64 brackets open together
  pub values : Values es (offset_count os) 64 1 (element_count es)
  pub texts : Texts ts os

-- the bytes of t are a tape
abbrev pub Untorn : TapeView → Type 0
Untorn t = Opens t.elements t.texts t.offsets
