-- Records whose names can be read.
use Rattle.std.specs.Prelude.{ℕ, ◌+◌, ◌<◌, ◌≤◌, List, length}
use Rattle.schema.specs.Layout.{record_count, start_at, size_at}

-- the name of record i can be read
pub record Readable (rs ns : List ℕ) (i : ℕ) : Type 0 where
  pub within : i < record_count rs
  pub inside : start_at rs i + size_at rs i ≤ length ns
