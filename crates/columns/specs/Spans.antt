-- The buffers of a branch's column while its rows are written, one after another.
use Rattle.std.specs.Prelude.{◌≡◌, ℕ, ◌+◌, ◌-◌, ◌*◌, ◌^◌, ◌≤◌, Bool, true, false, cond, not, List, [], ◌∷◌, ◌++◌, map, length, replicate, ◌==◌}
use Rattle.std.proofs.Math.Option.{Option}
use Rattle.octets.specs.Lists.{is_some, or_else, starts, sum}
use Rattle.octets.specs.Numbers.{packed, numbers}
use Rattle.schema.specs.declared.kind.Branch.{Branch}
use Rattle.schema.specs.declared.kind.Branch.TheVariants.{Struct as struct, List as list, Fixed as fixed}
use Rattle.batch.specs.Format.{Column, width}
use Rattle.batch.specs.Batch.{sizes, buffers}
use Rattle.columns.specs.Areas.{Plans}
use Rattle.columns.specs.declared.spans.Spans.{Spans}

-- a row of a branch: null, or its items
abbrev pub Row : Type 0
Row = Option (List (List ℕ))

-- a last offset says where the items of all rows end
abbrev pub is_ended : Branch → Bool
is_ended struct = false
is_ended (list view wide) = not view
is_ended (fixed count) = false
is_ended Branch.Map = true

-- each row has a size beside its offset
abbrev pub is_view : Branch → Bool
is_view struct = false
is_view (list view wide) = view
is_view (fixed count) = false
is_view Branch.Map = false

-- numbers, and zeros for those that are to come
abbrev pub firsts : (width many : ℕ) → List ℕ → List ℕ
firsts w n ns = numbers w ns ++ replicate (w * (n - length ns)) 0

-- the bits of some rows, and zeros for those that are to come, where any row is null
abbrev pub marks : {A : Type 0} → (slots nulls : ℕ) → List (Option A) → List ℕ
marks slots nulls os = cond (nulls == 0) [] (packed (map is_some os ++ replicate (slots - length os) false))

-- the column of a branch of which some first rows are written
abbrev pub begun : Branch → (slots nulls : ℕ) → List Row → Column
begun struct s n os = record { slots = s; nulls = n; validity = marks s n os; offsets = []; bytes = [] }
begun (list false wide) s n os = record { slots = s; nulls = n; validity = marks s n os; offsets = firsts (width wide) (s + 1) (starts 0 (sizes os)); bytes = [] }
begun (list true wide) s n os = record { slots = s; nulls = n; validity = marks s n os; offsets = firsts (width wide) s (starts 0 (sizes os)); bytes = firsts (width wide) s (sizes os) }
begun (fixed count) s n os = record { slots = s; nulls = n; validity = marks s n os; offsets = []; bytes = [] }
begun Branch.Map s n os = record { slots = s; nulls = n; validity = marks s n os; offsets = firsts 4 (s + 1) (starts 0 (sizes os)); bytes = [] }

-- spans were made for their branch
pub record Laid (s : Spans) : Type 0 where
  pub few : s.plan.slots ≤ 2 ^ 24
  pub plans : Plans s.plan (begun s.branch s.plan.slots s.plan.nulls [])

-- these first rows are written, and the rest is zero
abbrev pub Begun : Spans → (out : List ℕ) → List Row → Type 0
Begun s out os = out ≡ buffers (begun s.branch s.plan.slots s.plan.nulls os ∷ [])

-- offsets of this width serve the branch; a struct and a fixed-size list have none
abbrev pub Suits : (width : ℕ) → Branch → Type 0
Suits w struct = Unit {0}
Suits w (list view wide) = w ≡ width wide
Suits w (fixed count) = Unit {0}
Suits w Branch.Map = w ≡ 4

-- so many items are in the rows before, and so many in this one, where the branch says where items begin
abbrev pub Counted : Branch → List Row → Row → (start size : ℕ) → Type 0
Counted struct os o start size = Unit {0}
Counted (list view wide) os o start size = (sum (sizes os) ≡ start) × (length (or_else [] o) ≡ size)
Counted (fixed count) os o start size = Unit {0}
Counted Branch.Map os o start size = (sum (sizes os) ≡ start) × (length (or_else [] o) ≡ size)

-- so many items are in all rows, where the branch says where the last one ends
abbrev pub Closes : Branch → List Row → (items : ℕ) → Type 0
Closes struct os items = Unit {0}
Closes (list false wide) os items = sum (sizes os) ≡ items
Closes (list true wide) os items = Unit {0}
Closes (fixed count) os items = Unit {0}
Closes Branch.Map os items = sum (sizes os) ≡ items
