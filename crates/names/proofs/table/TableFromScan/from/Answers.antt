use Rattle.names.specs.Scans.{scan_names}
use Rattle.names.proofs.Seats.{keyed_none, keyed_more}
use Rattle.names.proofs.table.TableFromScan.from.Goals as goal

pub loop-place-init : goal.loop-place-init
loop-place-init c = keyed_none (scan_names c.args.scan)

pub loop-place-preserved : goal.loop-place-preserved
loop-place-preserved c = rw c.or.ensures (keyed_more c.name.ensures c.loop-place.invariant c.seek-slot.ensures.sought c.seek-slot.ensures.below)
