-- What an index holds.
use Rattle.std.specs.Prelude.{ℕ, ◌<◌, ◌≤◌, List, length}
use Rattle.names.specs.declared.index.Index.{Index}
use Rattle.names.specs.declared.index.Index.TheVariants.{Few, Many}
use Rattle.names.specs.Scans.{scan_names}

-- the names of either kind
abbrev pub index_names : Index → List (List ℕ)
index_names (Few s) = scan_names s
index_names (Many t) = scan_names t.scan

-- a scan serves fewer than 16 names, and a table 16 to 64
abbrev pub Chosen : Index → Type 0
Chosen (Few s) = length (scan_names s) < 16
Chosen (Many t) = 16 ≤ length (scan_names t.scan)
