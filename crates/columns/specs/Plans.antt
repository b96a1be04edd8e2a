-- What a plan says of a column's sizes.
use Rattle.std.specs.Prelude.{◌≡◌, ℕ, ◌+◌, ◌^◌, ◌<◌, min, length}
use Rattle.octets.specs.Numbers.{padded}
use Rattle.batch.specs.Format.{Column}
use Rattle.columns.specs.declared.plan.Plan.{Plan}

-- a plan has the numbers of a column, the size of its values only up to the largest number
pub record Totals (p : Plan) (c : Column) : Type 0 where
  pub slots : p.slots ≡ c.slots
  pub nulls : p.nulls ≡ c.nulls
  pub validity : p.validity ≡ length c.validity
  pub offsets : p.offsets ≡ length c.offsets
  pub data_size : p.data_size ≡ min (length c.bytes) 18446744073709551615

-- the bytes of the three buffers
abbrev pub bytes_of : Plan → ℕ
bytes_of p = padded p.validity + padded p.offsets + padded p.data_size

-- the numbers of a plan fit a record of 32-bit numbers
pub record Recordable (p : Plan) (top : ℕ) : Type 0 where
  pub slots : p.slots < 2 ^ 32
  pub nulls : p.nulls < 2 ^ 32
  pub buffers : top + bytes_of p < 2 ^ 32
