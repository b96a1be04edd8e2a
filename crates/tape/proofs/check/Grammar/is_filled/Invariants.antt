use Rattle.std.proofs.Common.{ℕ, ◌-◌, ◌/◌, length}
use Rattle.tape.specs.Grammar.{Values}
use Rattle.tape.proofs.check.Grammar.is_filled.Given as goal

abbrev pub invariant-loop-at : goal.invariant-loop-at
invariant-loop-at l =
    ((k : ℕ) → Values l.self.elements.bytes.now l.self.offsets 64 l.at k → Values l.self.elements.bytes.now l.self.offsets 64 1 k)
    × (Values l.self.elements.bytes.now l.self.offsets 64 1 (length l.self.elements.bytes.now / 8) → Values l.self.elements.bytes.now l.self.offsets 64 l.at (length l.self.elements.bytes.now / 8))

abbrev pub decreases-loop-at : goal.decreases-loop-at
decreases-loop-at l = length l.self.elements.bytes.now / 8 - l.at
