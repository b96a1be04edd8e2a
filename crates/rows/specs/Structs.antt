-- The rows of a struct.
use Rattle.std.specs.Prelude.{◌≡◌, ℕ, ◌+◌, ◌*◌, ◌≤◌, cond, List, map, length, replicate, Some, None, Option, slice_index, slice_set}
use Rattle.octets.specs.Lists.{between}
use Rattle.slip.specs.Slips.{Got}
use Rattle.tape.specs.Opened.{view_of}
use Rattle.tape.specs.View.{entries}
use Rattle.schema.specs.declared.kind.Branch.{Branch}
use Rattle.schema.specs.declared.kind.Branch.TheVariants.{Struct as struct}
use Rattle.batch.specs.Rows.{listed, placed}
use Rattle.rows.specs.declared.Reading.{Reading}
use Rattle.rows.specs.Kinds.{numbered}

-- the branch of a struct
abbrev pub fieldwise : Branch
fieldwise = struct

-- the values of a row by field, where the fields have these names
abbrev pub item_in : Reading → List (List ℕ) → ℕ → Got (List ℕ)
item_in r ns p =
    let es = entries (view_of r.rows.tape) p in
    cond r.settings.list_rows (listed (numbered r.node) (length ns) p es) (placed r.settings (view_of r.rows.tape) (numbered r.node) ns es (replicate (length ns) 0))

-- a work list with a value at a field's place, if there is such a field
abbrev pub with_value : List ℕ → (place step value : ℕ) → Option ℕ → List ℕ
with_value work place step value (Some k) = slice_set work (place + k * step) value
with_value work place step value None = work

-- what stands in every `step`th place from `place` on
abbrev pub column : List ℕ → (place step count : ℕ) → List ℕ
column work place step count = map (λ k. slice_index work (place + k * step)) (between 0 count)

-- so many fields are known by name
pub record Tied (names : List (List ℕ)) (fields : ℕ) : Type 0 where
  pub count : fields ≡ length names
  pub few : fields ≤ 64
