-- What entering a branch answers, and what it leaves in the area and in the work list.
use Rattle.std.specs.Prelude.{◌≡◌, ℕ, ◌+◌, ◌*◌, ◌<◌, ◌≤◌, Bool, true, List, [], ◌∷◌, map, length, IfOk, IfErr, Ok, Err, Result, slice_index}
use Rattle.std.proofs.Math.Option.{Option}
use Rattle.slip.specs.declared.Fault.{Fault}
use Rattle.slip.specs.Slips.{Got, got, then, each, answer_of}
use Rattle.octets.specs.Lists.{part, joined}
use Rattle.tape.specs.View.{TapeView, is_position}
use Rattle.schema.specs.Tree.{Field, Fields, many, names}
use Rattle.schema.specs.declared.kind.Branch.{Branch}
use Rattle.schema.specs.declared.kind.Branch.TheVariants.{Struct as struct, List as list, Fixed as fixed}
use Rattle.schema.specs.declared.settings.Settings.{Settings}
use Rattle.batch.specs.Rows.{row_at}
use Rattle.batch.specs.Values.{taken, zeros}
use Rattle.batch.specs.Batch.{branch_column, size_of}
use Rattle.columns.specs.Areas.{written, space}
use Rattle.rows.specs.declared.Entered.{Entered}

-- the rows of a branch at some positions, or the first refusal
abbrev pub rows_at : Settings → TapeView → Field → Branch → Fields → (inForce : Bool) → List ℕ → Got (List (Option (List (List ℕ))))
rows_at s t f b cs inForce ps = each (row_at s t f b cs inForce) ps

-- the items that the rows give to the children, those hidden under a null row too
abbrev pub items_of : Branch → Fields → List (Option (List (List ℕ))) → List (List ℕ)
items_of b cs rows = joined (map (taken b (zeros cs)) rows)

-- the positions of child k
abbrev pub child_at : ℕ → List (List ℕ) → List ℕ
child_at k items = map (λ i. slice_index i k) items

-- what an entered branch tells of its children, and leaves in the area and in the work list
pub record Given (t : TapeView) (f : Field) (b : Branch) (cs : Fields) (rows : List (Option (List (List ℕ)))) (top : ℕ) (from to lent : List ℕ) (e : Entered) : Type 0 where
  pub kids : e.kids ≡ many cs
  pub stride : e.stride ≡ length (items_of b cs rows)
  pub next : e.next ≡ top + size_of (branch_column b rows)
  pub fits : e.kids * e.stride ≤ length lent
  pub parts : (k : ℕ) → k < many cs → part lent (k * e.stride) e.stride ≡ child_at k (items_of b cs rows)
  pub positions : (i : ℕ) → i < e.kids * e.stride → is_position t (slice_index lent i) ≡ true
  pub page : to ≡ written from f.number top (branch_column b rows ∷ [])

-- children of which a branch makes the same: of a struct's the names count, and else how many there are
abbrev pub Like : Branch → Fields → Fields → Type 0
Like struct cs ds = names cs ≡ names ds
Like (list view wide) cs ds = many cs ≡ many ds
Like (fixed count) cs ds = many cs ≡ many ds
Like Branch.Map cs ds = many cs ≡ many ds

abbrev pub next_of : Result Entered Fault → Result ℕ Fault
next_of (Ok e) = Ok e.next
next_of (Err y) = Err y

-- the first refusal of a row, or no space, or the place behind the column, which is then written; a refusal writes nothing
pub record BranchEntered (s : Settings) (t : TapeView) (f : Field) (b : Branch) (cs : Fields) (inForce : Bool) (ps : List ℕ) (top : ℕ) (from to work lent : List ℕ) (r : Result Entered Fault) : Type 0 where
  pub outcome : answer_of (next_of r) ≡ then (rows_at s t f b cs inForce ps) (λ rows. space (length from) (length work) f.number top (branch_column b rows) (many cs * length (items_of b cs rows)))
  pub content : IfOk r (λ e. (rows : List (Option (List (List ℕ)))) → rows_at s t f b cs inForce ps ≡ got rows → Given t f b cs rows top from to lent e)
  pub unwritten : IfErr r (λ _. to ≡ from)
