-- The text of a decimal number, and the fraction that it stands for.
use Rattle.std.specs.Prelude.{◌≡◌, ℕ, ◌+◌, ◌*◌, ◌^◌, ◌≤◌, Bool, cond, List, [], ◌∷◌, ◌++◌, length, codes, slice_index_or}
use Rattle.std.specs.Str.Parse.{digits_value, AllDigits}

-- a point and the decimals behind it, or nothing
abbrev pub pointed : List ℕ → List ℕ
pointed [] = []
pointed (d ∷ ds) = codes "." ++ (d ∷ ds)

-- the text is a minus or none, the digits of the whole part, and perhaps a point and decimals
pub record Decimal (text : List ℕ) (minus : Bool) (whole decimals : List ℕ) : Type 0 where
  pub spelled : text ≡ cond minus (codes "-") [] ++ (whole ++ pointed decimals)
  pub whole_digits : AllDigits 10 whole
  pub some : 1 ≤ length whole
  pub few : length whole ≤ 12
  -- a 0 in front stands alone
  pub lead : slice_index_or whole 0 0 ≡ 48 → length whole ≡ 1
  pub decimal_digits : AllDigits 10 decimals
  pub places : length decimals ≤ 18

-- the text is none of a decimal number
abbrev pub Unread : List ℕ → Type 0
Unread text = (minus : Bool) (whole decimals : List ℕ) → Decimal text minus whole decimals → ⊥

-- its size is top / unit
abbrev pub unit : List ℕ → ℕ
unit decimals = 10 ^ length decimals

abbrev pub top : List ℕ → List ℕ → ℕ
top whole decimals = digits_value 10 whole * unit decimals + digits_value 10 decimals
