-- The slots of children: which are hidden, and which are null.
use Rattle.std.specs.Prelude.{ℕ, ◌+◌, ◌*◌, ◌/◌, ◌<◌, Bool, true, false, cond, not, ◌&&◌, ◌||◌, List, [], ◌∷◌, slice_index}
use Rattle.std.proofs.Math.Option.{Option, none, some}
use Rattle.tape.specs.Layout.{the}
use Rattle.tape.specs.View.{TapeView, is_at}
use Rattle.schema.specs.Tree.{Node, branch, leaf}
use Rattle.schema.specs.declared.kind.Branch.{Branch}
use Rattle.schema.specs.declared.kind.Branch.TheVariants.{Struct as struct, List as list, Fixed as fixed}
use Rattle.schema.specs.declared.settings.Settings.{Settings}
use Rattle.leaf.specs.Meaning.{Answer, nothing, conflict, misfit}
use Rattle.batch.specs.Rows.{letter}

abbrev pub is_nothing : Answer → Bool
is_nothing nothing = true
is_nothing conflict = false
is_nothing misfit = false
is_nothing (Answer.value bs) = false

-- a branch's row is null: it does not begin with the wanted bracket, and this is allowed
abbrev pub null_row : Settings → TapeView → Branch → (inForce : Bool) → ℕ → Bool
null_row s t b inForce p = not (is_at t (letter s b) p) && (inForce && (is_at t (the "z") p || s.lenient))

-- a slot of the children lies under a null row
abbrev pub hidden_at : Settings → TapeView → Node → (rows : List ℕ) → (slot : ℕ) → Bool
hidden_at s t (branch f struct cs) rows slot = not (is_at t (letter s struct) (slice_index rows slot))
hidden_at s t (branch f (list view wide) cs) rows slot = false
hidden_at s t (branch f (fixed n) cs) rows slot = not (is_at t (letter s (fixed n)) (slice_index rows (slot / n)))
hidden_at s t (branch f Branch.Map cs) rows slot = false
hidden_at s t (leaf f k) rows slot = false

-- the children of a struct have a slot for each row, and those of a fixed-size list as many as it counts
abbrev pub has_slot : Node → (rows slot : ℕ) → Type 0
has_slot (branch f struct cs) rows slot = slot < rows
has_slot (branch f (list view wide) cs) rows slot = Unit {0}
has_slot (branch f (fixed n) cs) rows slot = slot < n * rows
has_slot (branch f Branch.Map cs) rows slot = Unit {0}
has_slot (leaf f k) rows slot = Unit {0}

-- of the slots from i on, those that are not hidden
abbrev pub veiled : {A : Type 0} → (ℕ → Bool) → ℕ → List A → List (Option A)
veiled hides i [] = []
veiled hides i (x ∷ xs) = cond (hides i) none (some x) ∷ veiled hides (i + 1) xs
