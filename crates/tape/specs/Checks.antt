-- The rules of a tape, in the order in which they are tested: those that need no look at the texts come first.
use Rattle.std.specs.Prelude.{◌≡◌, ℕ, ◌*◌, ◌^◌, ◌<◌, ◌≤◌, List, length}
use Rattle.tape.specs.Layout.{the, letter_at, number_at, element_count, offset_count}
use Rattle.tape.specs.Grammar.{Values}
use Rattle.tape.specs.Opens.{Bare, Rise}

-- elements and offsets of a tape whose texts have so many bytes: few of each, bare elements, and Null as element 0
pub record Framed (es : List ℕ) (texts : ℕ) (os : List ℕ) : Type 0 where
  pub few_elements : length es ≤ 8 * 2 ^ 24
  pub few_texts : texts ≤ 2 ^ 24
  pub few_offsets : length os ≤ 4 * 2 ^ 24
  pub bare : (p : ℕ) → p < element_count es → Bare es p
  pub first : letter_at es 0 ≡ the "z"
  pub first_number : number_at es 0 ≡ 0

-- the offsets cut the texts well, and values fill the elements
pub record Formed (es ts os : List ℕ) : Type 0 where
  pub values : Values es (offset_count os) 64 1 (element_count es)
  pub rise : Rise ts os
