-- How a schema lies in its bytes. Record i is the sixteen bytes from 16 * i on.
use Rattle.std.specs.Prelude.{ℕ, ◌+◌, ◌*◌, ◌/◌, List, length, codes, slice_index}
use Prim.Native.String.{String}
use Rattle.octets.specs.Lists.{part}
use Rattle.octets.specs.Numbers.{le_at}

-- the code of a text's first character: the letter itself
abbrev pub the : String → ℕ
the t = slice_index (codes t) 0

-- how many whole records there are
abbrev pub record_count : List ℕ → ℕ
record_count rs = length rs / 16

-- byte 0 is the letter, 1 the nullable flag, 2 the wide flag, 3 zero
abbrev pub letter_at : List ℕ → ℕ → ℕ
letter_at rs i = slice_index rs (16 * i)

abbrev pub flag_at : List ℕ → ℕ → ℕ
flag_at rs i = slice_index rs (16 * i + 1)

abbrev pub wide_at : List ℕ → ℕ → ℕ
wide_at rs i = slice_index rs (16 * i + 2)

abbrev pub spare_at : List ℕ → ℕ → ℕ
spare_at rs i = slice_index rs (16 * i + 3)

-- bytes 4 to 7 number the node after the last descendant
abbrev pub end_at : List ℕ → ℕ → ℕ
end_at rs i = le_at 4 rs (16 * i + 4)

-- 8 to 11 give the name's start among the names, 12 and 13 its length
abbrev pub start_at : List ℕ → ℕ → ℕ
start_at rs i = le_at 4 rs (16 * i + 8)

abbrev pub size_at : List ℕ → ℕ → ℕ
size_at rs i = le_at 2 rs (16 * i + 12)

abbrev pub name_at : List ℕ → List ℕ → ℕ → List ℕ
name_at rs ns i = part ns (start_at rs i) (size_at rs i)

-- 14 and 15 are a count
abbrev pub count_at : List ℕ → ℕ → ℕ
count_at rs i = le_at 2 rs (16 * i + 14)
