-- Columns written into the area of a batch.
use Rattle.std.specs.Prelude.{◌≡◌, ℕ, ◌+◌, ◌-◌, ◌*◌, ◌^◌, ◌≤◌, cond, ◌||◌, List, length, drop, replicate, nat_lt}
use Rattle.octets.specs.Lists.{splice}
use Rattle.slip.specs.Slips.{slip, Got, refuse, got}
use Rattle.batch.specs.Format.{Column}
use Rattle.batch.specs.Batch.{size_of, records, buffers}
use Rattle.columns.specs.declared.plan.Plan.{Plan}

-- an area with these columns written: their records from a node's on, and their buffers from `top` on
abbrev pub written : List ℕ → (node top : ℕ) → List Column → List ℕ
written area node top cs = splice (splice area (32 * node) (records top cs)) top (buffers cs)

-- the place behind a column's buffers, where the page has so many bytes free and the work list so many entries left
abbrev pub space : (free left node top : ℕ) → Column → (positions : ℕ) → Got ℕ
space free left node top c positions =
    cond (nat_lt free (top + size_of c) || nat_lt left positions) (refuse (slip 4 node 0)) (got (top + size_of c))

-- nothing is written from `top` on
abbrev pub Blank : List ℕ → (top : ℕ) → Type 0
Blank area top = drop top area ≡ replicate (length area - top) 0

-- where a node's column goes: its record below `top`, its buffers from there on
pub record Place (area : List ℕ) (node top : ℕ) : Type 0 where
  pub apart : 32 * node + 32 ≤ top
  pub within : top ≤ length area
  pub page : length area ≤ 2 ^ 24
  pub blank : Blank area top

-- a plan has the numbers of a column
pub record Plans (p : Plan) (c : Column) : Type 0 where
  pub slots : p.slots ≡ c.slots
  pub nulls : p.nulls ≡ c.nulls
  pub validity : p.validity ≡ length c.validity
  pub offsets : p.offsets ≡ length c.offsets
  pub data_size : p.data_size ≡ length c.bytes
