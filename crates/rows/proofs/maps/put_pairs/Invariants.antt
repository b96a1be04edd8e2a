use Rattle.std.proofs.Common.{◌≡◌, map, length}
use Rattle.rows.specs.Filling.{Filled}
use Rattle.rows.proofs.Cells.{both}
use Rattle.rows.proofs.maps.put_pairs.Given as goal

-- the pairs so far are written
abbrev pub invariant-loop-name : goal.invariant-loop-name
invariant-loop-name l =
    (goal.iterator-loop-name).can_next l.name-iterator
    × (goal.iterator-loop-name).is_finite l.name-iterator
    × (l.n ≡ length l.yielded)
    × Filled 2 l.stride l.at (map both l.yielded) l.initial.work l.work
