-- How a tape lies in its bytes. Element i is the eight bytes from 8 * i: a letter, three zeros, and a number, least byte first.
-- Offset k is the four bytes from 4 * k, least byte first.
use Rattle.std.specs.Prelude.{ℕ, ◌+◌, ◌*◌, ◌/◌, cond, ◌||◌, List, length, codes, ◌==◌, slice_index}
use Prim.Native.String.{String}
use Rattle.octets.specs.Numbers.{le_at}

-- the code of a text's first character: the letter itself
abbrev pub the : String → ℕ
the t = slice_index (codes t) 0

-- the letter of element i
abbrev pub letter_at : List ℕ → ℕ → ℕ
letter_at es i = slice_index es (8 * i)

-- the number of element i
abbrev pub number_at : List ℕ → ℕ → ℕ
number_at es i = le_at 4 es (8 * i + 4)

-- offset k
abbrev pub offset_at : List ℕ → ℕ → ℕ
offset_at os k = le_at 4 os (4 * k)

-- how many elements there are
abbrev pub element_count : List ℕ → ℕ
element_count es = length es / 8

-- how many offsets there are
abbrev pub offset_count : List ℕ → ℕ
offset_count os = length os / 4

-- the index after the value at i: a bracket has the index of its partner, and a whole number of 64 bits takes two elements
abbrev pub next_at : List ℕ → ℕ → ℕ
next_at es i =
    cond (letter_at es i == (the "{") || letter_at es i == (the "[")) (number_at es i + 1)
    (cond (letter_at es i == (the "j")) (i + 2) (i + 1))
