use Rattle.std.proofs.Common.{ℕ, ◌+◌, ◌-◌}
use Rattle.schema.proofs.Rows.{Row}
use Rattle.schema.proofs.records.Records.+tree.Given as goal

abbrev pub decreases-tree : goal.decreases-tree
decreases-tree l = l.depth

-- the children from the first on end where those that are left do
abbrev pub invariant-loop : goal.invariant-loop
invariant-loop l =
    ((e : ℕ) → Row l.self.bytes.now l.self.names.now (l.depth - 1) l.next (l.count - l.counter) e → Row l.self.bytes.now l.self.names.now (l.depth - 1) (l.at + 1) l.count e)
    × ((e : ℕ) → Row l.self.bytes.now l.self.names.now (l.depth - 1) (l.at + 1) l.count e → Row l.self.bytes.now l.self.names.now (l.depth - 1) l.next (l.count - l.counter) e)
