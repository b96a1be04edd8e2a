use Rattle.std.proofs.Common.{◌≡◌, map, length, take}
use Rattle.names.proofs.scan.Scan.of.Given as goal

abbrev pub invariant-loop-place : goal.invariant-loop-place
invariant-loop-place l =
    (goal.iterator-loop-place).can_next l.place-iterator × (goal.iterator-loop-place).is_finite l.place-iterator
    × (length l.heads ≡ 64) × (take (length l.yielded) l.heads ≡ map (λ p. p.1) l.yielded)
