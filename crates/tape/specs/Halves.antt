-- Bytes that are a whole number of elements, or of offsets.
use Rattle.std.specs.Prelude.{◌≡◌, ℕ, ◌%◌, List, length, Some, None, Option}
use Rattle.tape.specs.declared.layout.Elements.{Elements}
use Rattle.tape.specs.declared.layout.Offsets.{Offsets}

-- the elements in these bytes, where they are a whole number
abbrev pub ElementsIn : List ℕ → Option Elements → Type 0
ElementsIn bs (Some e) = e.bytes.now ≡ bs
ElementsIn bs None = length bs % 8 ≡ 0 → ⊥

-- the same for offsets
abbrev pub OffsetsIn : List ℕ → Option Offsets → Type 0
OffsetsIn bs (Some o) = o.bytes.now ≡ bs
OffsetsIn bs None = length bs % 4 ≡ 0 → ⊥
