use Rattle.std.proofs.Common.{ℕ, ◌+◌, ◌-◌, ◌*◌, ◌/◌, ◌≤◌, length}
use Rattle.tape.specs.Grammar.{Values, Pairs}
use Rattle.tape.specs.Found.{ListTo, ObjectTo}
use Rattle.tape.proofs.check.Grammar.+list_object_value.Given as goal

-- the elements left, twice, so that a list may pass its first element on to value
abbrev pub decreases-list : goal.decreases-list
decreases-list l = 2 * (length l.self.elements.bytes.now / 8 - l.from) + 1

abbrev pub decreases-object : goal.decreases-object
decreases-object l = 2 * (length l.self.elements.bytes.now / 8 - l.from) + 1

abbrev pub decreases-value : goal.decreases-value
decreases-value l = 2 * (length l.self.elements.bytes.now / 8 - l.at)

abbrev pub invariant-list-loop-at : goal.invariant-list-loop-at
invariant-list-loop-at l =
    (l.from ≤ l.at)
    × ((k : ℕ) → Values l.self.elements.bytes.now l.self.offsets l.depth l.at k → Values l.self.elements.bytes.now l.self.offsets l.depth l.from k)
    × ((k : ℕ) → ListTo l.self.elements.bytes.now l.self.offsets l.depth l.from k → ListTo l.self.elements.bytes.now l.self.offsets l.depth l.at k)

abbrev pub decreases-list-loop-at : goal.decreases-list-loop-at
decreases-list-loop-at l = length l.self.elements.bytes.now / 8 - l.at

abbrev pub invariant-object-loop-at : goal.invariant-object-loop-at
invariant-object-loop-at l =
    (l.from ≤ l.at)
    × ((k : ℕ) → Pairs l.self.elements.bytes.now l.self.offsets l.depth l.at k → Pairs l.self.elements.bytes.now l.self.offsets l.depth l.from k)
    × ((k : ℕ) → ObjectTo l.self.elements.bytes.now l.self.offsets l.depth l.from k → ObjectTo l.self.elements.bytes.now l.self.offsets l.depth l.at k)

abbrev pub decreases-object-loop-at : goal.decreases-object-loop-at
decreases-object-loop-at l = length l.self.elements.bytes.now / 8 - l.at
