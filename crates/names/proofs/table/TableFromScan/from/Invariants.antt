use Rattle.names.specs.Scans.{scan_names}
use Rattle.names.specs.Slots.{Keyed}
use Rattle.names.proofs.table.TableFromScan.from.Given as goal

abbrev pub invariant-loop-place : goal.invariant-loop-place
invariant-loop-place l = Keyed (scan_names l.scan) l.slots l.place
