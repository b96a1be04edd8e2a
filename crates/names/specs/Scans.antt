-- The names that a scan tries.
use Rattle.std.specs.Prelude.{ℕ, List, map, take}
use Rattle.schema.specs.Layout.{name_at}
use Rattle.names.specs.declared.scan.Scan.{Scan}

-- the names of the records that a scan has in its heads
abbrev pub scan_names : Scan → List (List ℕ)
scan_names s = map (name_at s.records.bytes.now s.records.names.now) (take s.count s.heads)
