use Rattle.std.proofs.Common.{◌≡◌, length, take}
use Rattle.octets.specs.Lists.{between}
use Rattle.names.proofs.scan.Scan.over.Given as goal

abbrev pub invariant-loop-place : goal.invariant-loop-place
invariant-loop-place l = (length l.heads ≡ 64) × (take l.place l.heads ≡ between 0 l.place)
