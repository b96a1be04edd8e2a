-- What a name index answers.
use Rattle.std.specs.Prelude.{◌≡◌, ℕ, ◌+◌, ◌<◌, cond, List, [], ◌∷◌, length, Some, None, Option, ◌≢◌, slice_index_or}
use Rattle.octets.specs.Lists.{same}

-- one place further on
abbrev pub onward : Option ℕ → Option ℕ
onward None = None
onward (Some i) = Some (i + 1)

-- the lowest place of a name in a list of names
abbrev pub lowest : List (List ℕ) → List ℕ → Option ℕ
lowest [] s = None
lowest (n ∷ ns) s = cond (same n s) (Some 0) (onward (lowest ns s))

-- an answer names the lowest place at which exactly these bytes stand, or no place has them
abbrev pub Lowest : List (List ℕ) → List ℕ → Option ℕ → Type 0
Lowest ns s None = (j : ℕ) → j < length ns → slice_index_or ns j [] ≢ s
Lowest ns s (Some k) = (k < length ns) × (slice_index_or ns k [] ≡ s) × ((j : ℕ) → j < k → slice_index_or ns j [] ≢ s)

-- what `lowest` answers is just that
abbrev pub AlwaysLowest : Type 0
AlwaysLowest = (ns : List (List ℕ)) (s : List ℕ) → Lowest ns s (lowest ns s)
