-- A number below 128 for a name.
use Rattle.std.specs.Prelude.{◌≡◌, ℕ, ◌*◌, ◌%◌, ◌^◌, List, bit_xor, fold}

-- one byte is mixed into a number
abbrev pub mix : ℕ → ℕ → ℕ
mix h b = bit_xor h b * 16777619 % 2 ^ 32

-- one byte after another; kept shut, so that no proof but that of the code looks inside
unfoldable pub hash_of : List ℕ → ℕ
hash_of bs = fold mix 2166136261 bs % 128

-- all that the table rests on: equal names have equal numbers
abbrev pub SameHash : Type 0
SameHash = (a b : List ℕ) → a ≡ b → hash_of a ≡ hash_of b
