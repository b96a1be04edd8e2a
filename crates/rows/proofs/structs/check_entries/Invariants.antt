use Rattle.std.proofs.Common.{◌≡◌, ◌≤◌, length}
use Rattle.rows.proofs.structs.check_entries.Given as goal

-- no more entries so far than fields
abbrev pub invariant-loop-entry : goal.invariant-loop-entry
invariant-loop-entry l =
    (goal.iterator-loop-entry).can_next l.entry-iterator
    × (goal.iterator-loop-entry).is_finite l.entry-iterator
    × (l.n ≡ length l.yielded)
    × (l.n ≤ l.fields)
