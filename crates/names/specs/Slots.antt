-- The 128 slots of a table. A slot may hold the place of a name.
use Rattle.std.specs.Prelude.{◌≡◌, ℕ, ◌+◌, ◌%◌, ◌<◌, ◌≤◌, List, [], length, Some, None, Option, IfSome, is_some, count_by, ◌≢◌, slice_index_or}
use Rattle.names.specs.Hash.{hash_of}

-- what slot s has
abbrev pub slot_at : List (Option ℕ) → ℕ → Option ℕ
slot_at slots s = slice_index_or slots s None

-- slot s holds place p
abbrev pub Holds : List (Option ℕ) → ℕ → ℕ → Type 0
Holds slots s p = slot_at slots s ≡ Some p

-- how many slots hold a place
abbrev pub used : List (Option ℕ) → ℕ
used slots = count_by is_some slots

-- the name at a place
abbrev pub name_of : List (List ℕ) → ℕ → List ℕ
name_of all p = slice_index_or all p []

-- slot s holds a place whose name is another
pub record Other (all : List (List ℕ)) (slots : List (Option ℕ)) (n : List ℕ) (s : ℕ) : Type 0 where
  pub place : ℕ
  pub held : Holds slots s place
  pub apart : name_of all place ≢ n

-- going on from the name's own slot past slots with other names, r is the first that is empty or has the name
pub record Sought (all : List (List ℕ)) (slots : List (Option ℕ)) (n : List ℕ) (r : ℕ) : Type 0 where
  pub steps : ℕ
  pub place : r ≡ (hash_of n + steps) % 128
  pub passed : (j : ℕ) → j < steps → Other all slots n ((hash_of n + j) % 128)
  pub ends : IfSome (slot_at slots r) (λ p. name_of all p ≡ n)

-- a slot with the name n, where it is looked for
pub record Seated (all : List (List ℕ)) (slots : List (Option ℕ)) (n : List ℕ) : Type 0 where
  pub slot : ℕ
  pub place : ℕ
  pub sought : Sought all slots n slot
  pub held : Holds slots slot place

-- the first p names have slots, and each slot has the lowest place of its name
pub record Keyed (all : List (List ℕ)) (slots : List (Option ℕ)) (p : ℕ) : Type 0 where
  pub long : length slots ≡ 128
  pub known : (s q : ℕ) → Holds slots s q → q < p
  pub lowest : (s q : ℕ) → Holds slots s q → (j : ℕ) → j < q → name_of all j ≢ name_of all q
  pub seated : (q : ℕ) → q < p → Seated all slots (name_of all q)
  pub few : used slots ≤ p
