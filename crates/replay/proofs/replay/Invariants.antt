use Rattle.std.proofs.Common.{◌≡◌, length}
use Rattle.replay.proofs.Replays.{Sofar}
use Rattle.replay.proofs.replay.Given as goal

abbrev pub invariant-loop-i : goal.invariant-loop-i
invariant-loop-i g l =
    Sofar g.X.Leaf.meaning l.initial.shelf.settings l.custom l.records l.names (length l.initial.shelf.page.now) (length l.initial.work) l.shelf l.calls l.answers l.initial.answers l.i
    × (l.shelf.page.ghost_name ≡ l.initial.shelf.page.ghost_name)
