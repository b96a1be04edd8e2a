use Rattle.std.proofs.Common.{◌≤◌, replicate}
use Rattle.rows.specs.Filling.{Spread}
use Rattle.rows.proofs.entries.put_zeros.Given as goal

abbrev pub invariant-loop-j : goal.invariant-loop-j
invariant-loop-j l = (l.j ≤ l.count) × Spread l.from l.step (replicate l.j 0) l.initial.work l.work
