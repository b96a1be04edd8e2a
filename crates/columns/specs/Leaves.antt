-- The rows of a leaf, as its column is written.
use Rattle.std.specs.Prelude.{◌≡◌, ℕ, ◌≤◌, min, Bool, true, false, List, [], map, length, replicate, Result, MatchResult, ◌==◌, slice_index}
use Rattle.std.proofs.Math.Option.{Option}
use Rattle.std.specs.List.{AllByRecursion}
use Rattle.slip.specs.declared.Fault.{Fault}
use Rattle.slip.specs.Slips.{refuse, got, slip_of}
use Rattle.octets.specs.Lists.{is_some, or_else, sum}
use Rattle.tape.specs.View.{TapeView, element_at}
use Rattle.leaf.specs.Meaning.{Meaning, shown}
use Rattle.leaf.specs.declared.layout.Layout.{Layout}
use Rattle.leaf.specs.declared.layout.Layout.TheVariants.{None, Bit, Text, Eight}
use Rattle.batch.specs.Batch.{nulls, sizes, leaf_column}
use Rattle.columns.specs.Entering.{answers}
use Rattle.columns.specs.Plans.{Totals}
use Rattle.columns.specs.declared.plan.Plan.{Plan}
use Rattle.columns.specs.declared.scan.Seen.{Seen}

-- null or the bytes of the value at a position
abbrev pub cell_at : Meaning → TapeView → ℕ → Option (List ℕ)
cell_at m t p = shown (m.answer (element_at t p))

abbrev pub cells : Meaning → TapeView → List ℕ → List (Option (List ℕ))
cells m t ps = map (cell_at m t) ps

-- the bit of a cell: whether there is a value, or whether its byte is 1
abbrev pub bit_of : (valid : Bool) → Option (List ℕ) → Bool
bit_of true o = is_some o
bit_of false o = slice_index (or_else [] o) 0 == 1

-- no row is refused, and so many are null and have so many bytes, up to the largest number; or the first refusal
abbrev pub Scanned : Meaning → TapeView → (node : ℕ) → List ℕ → Result Seen Fault → Type 0
Scanned m t node ps r =
    let os = cells m t ps in
    MatchResult r
    (λ s. (answers m t node ps ≡ got os) × (s.nulls ≡ nulls os) × (s.bytes ≡ min (sum (sizes os)) 18446744073709551615))
    (λ f. answers m t node ps ≡ refuse (slip_of f))

-- where values have eight bytes, each has
abbrev pub Whole : Layout → List (Option (List ℕ)) → Type 0
Whole None os = Unit {0}
Whole Bit os = Unit {0}
Whole Text os = Unit {0}
Whole Eight os = AllByRecursion (λ o. length (or_else (replicate 8 0) o) ≡ 8) os

-- no row is refused, and the plan has the totals of the column; or the first refusal
abbrev pub PlannedLeaf : Meaning → (width : ℕ) → TapeView → (node : ℕ) → List ℕ → Result Plan Fault → Type 0
PlannedLeaf m w t node ps r =
    let os = cells m t ps in
    MatchResult r
    (λ p. (answers m t node ps ≡ got os) × Totals p (leaf_column m.layout w os) × (p.slots ≡ length ps) × (p.nulls ≤ length ps))
    (λ f. answers m t node ps ≡ refuse (slip_of f))
