-- A text taken apart, and its number of thousandths, in a form that computes. That it is the number which the text says is a law of the leaf.
use Rattle.std.specs.Prelude.{ℕ, ◌*◌, Bool, true, cond, not, ◌&&◌, ◌||◌, List, [], ◌∷◌, length, take, drop, ℤ, Some, None, Option, ◌==◌, nat_le, nat_lt, slice_index}
use Rattle.std.specs.Char.{is_ascii_digit}
use Rattle.std.specs.List.{prefix_len}
use Rattle.thousandths.specs.Decimal.{top, unit}
use Rattle.thousandths.specs.Nearest.{nearest_to}
use Rattle.thousandths.specs.Says.{signed_by}

-- whether a minus stands in front, and what is behind it
abbrev pub minus_of : List ℕ → Bool
minus_of text = slice_index text 0 == 45

abbrev pub unsigned : List ℕ → List ℕ
unsigned text = cond (minus_of text) (drop 1 text) text

-- the digits that a text begins with, and what is behind them
abbrev pub front : List ℕ → List ℕ
front size = take (prefix_len is_ascii_digit size) size

abbrev pub behind : List ℕ → List ℕ
behind size = drop (prefix_len is_ascii_digit size) size

-- whether digits are a whole part, and whether a text is nothing or a point and decimals
abbrev pub whole_fits : List ℕ → Bool
whole_fits whole = nat_lt 0 (length whole) && (nat_le (length whole) 12 && (length whole == 1 || not (slice_index whole 0 == 48)))

abbrev pub decimals_fit : List ℕ → Bool
decimals_fit [] = true
decimals_fit (point ∷ ds) = point == 46 && (prefix_len is_ascii_digit ds == length ds && (nat_lt 0 (length ds) && nat_le (length ds) 18))

-- whether a text is a decimal number
abbrev pub proper : List ℕ → Bool
proper text = whole_fits (front (unsigned text)) && decimals_fit (behind (unsigned text))

-- the size of a number, in thousandths, and the number itself
abbrev pub size_of : List ℕ → List ℕ → ℕ
size_of whole decimals = nearest_to (1000 * top whole decimals) (unit decimals)

abbrev pub thousandths_of : List ℕ → Option ℤ
thousandths_of text =
    cond (proper text) (Some (signed_by (minus_of text) (size_of (front (unsigned text)) (drop 1 (behind (unsigned text)))))) None
