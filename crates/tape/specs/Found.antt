-- What a search for the end of a value finds.
use Rattle.std.specs.Prelude.{◌≡◌, ℕ, ◌+◌, ◌<◌, List, Some, None, Option}
use Rattle.tape.specs.Layout.{the, letter_at, number_at, element_count}
use Rattle.tape.specs.Grammar.{Values, Pairs}

-- the answer is the one index that P holds of, and none where P holds of none
abbrev pub Finds : (ℕ → Type 0) → Option ℕ → Type 0
Finds P (Some q) = P q × ((k : ℕ) → P k → k ≡ q)
Finds P None = (k : ℕ) → P k → ⊥

-- values from p up to q, where ']' stands
pub record ListTo (es : List ℕ) (m d p q : ℕ) : Type 0 where
  pub values : Values es m d p q
  pub closes : letter_at es q ≡ the "]"
  pub within : q < element_count es

-- pairs from p up to q, where '}' stands
pub record ObjectTo (es : List ℕ) (m d p q : ℕ) : Type 0 where
  pub pairs : Pairs es m d p q
  pub closes : letter_at es q ≡ the "}"
  pub within : q < element_count es

-- brackets at p and q have each other's index, and k is the index after them
pub record Meets (es : List ℕ) (p q k : ℕ) : Type 0 where
  pub to : number_at es p ≡ q
  pub back : number_at es q ≡ p
  pub next : k ≡ q + 1
