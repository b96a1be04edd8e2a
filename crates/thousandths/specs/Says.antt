-- What a text says, in thousandths.
use Rattle.std.specs.Prelude.{◌≡◌, ℕ, ◌*◌, Bool, true, false, List, ℤ, pos, neg_ℤ, Some, None, Option}
use Rattle.thousandths.specs.Decimal.{Decimal, Unread, top, unit}
use Rattle.thousandths.specs.Nearest.{Nearest}

-- a size with its sign
abbrev pub signed_by : Bool → ℕ → ℤ
signed_by false m = pos m
signed_by true m = neg_ℤ (pos m)

-- z is the whole number nearest to 1000 times what the text stands for
pub record Says (text : List ℕ) (z : ℤ) : Type 0 where
  pub minus : Bool
  pub whole : List ℕ
  pub decimals : List ℕ
  pub size : ℕ
  pub reads : Decimal text minus whole decimals
  pub near : Nearest (1000 * top whole decimals) (unit decimals) size
  pub signed : z ≡ signed_by minus size

-- an answer tells what the text says: this number and no other, or that it has no reading
abbrev pub Tells : List ℕ → Option ℤ → Type 0
Tells text (Some z) = Says text z × ((y : ℤ) → Says text y → y ≡ z)
Tells text None = Unread text
