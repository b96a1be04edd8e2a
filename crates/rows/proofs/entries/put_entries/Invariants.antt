use Rattle.std.proofs.Common.{◌≡◌, length}
use Rattle.rows.specs.Filling.{Spread}
use Rattle.rows.proofs.entries.put_entries.Given as goal

-- the entries so far are written
abbrev pub invariant-loop-at : goal.invariant-loop-at
invariant-loop-at l =
    (goal.iterator-loop-at).can_next l.at-iterator
    × (goal.iterator-loop-at).is_finite l.at-iterator
    × (l.n ≡ length l.yielded)
    × Spread l.from l.step l.yielded l.initial.work l.work
