-- A row as it is read: what it is, and what the children get of it.
use Rattle.std.specs.Prelude.{◌≡◌, ℕ, Bool, true, false, cond, not, ◌&&◌, ◌||◌, List, [], ◌∷◌, length, replicate}
use Rattle.std.proofs.Math.Option.{Option}
use Rattle.octets.specs.Lists.{is_some}
use Rattle.slip.specs.Slips.{slip, Got, refuse, got, accepted}
use Rattle.tape.specs.Layout.{the}
use Rattle.tape.specs.Opened.{view_of}
use Rattle.tape.specs.View.{is_at}
use Rattle.schema.specs.Tree.{Field, Fields, leaf, ◌⊕◌}
use Rattle.schema.specs.declared.kind.Branch.{Branch}
use Rattle.schema.specs.declared.kind.LeafKind.{LeafKind}
use Rattle.batch.specs.Rows.{row_at}
use Rattle.batch.specs.Values.{taken, zeros}
use Rattle.batch.specs.Batch.{nulls as nulls_of}
use Rattle.columns.specs.Plans.{bytes_of}
use Rattle.columns.specs.Spans.{Suits, Laid}
use Rattle.columns.specs.declared.spans.Spans.{Spans}
use Rattle.rows.specs.declared.Reading.{Reading}
use Rattle.rows.specs.declared.kind.Row.{Row}
use Rattle.rows.specs.declared.passes.Counted.{Counted}
use Rattle.rows.specs.Entering.{items_of}

-- a field of which only the number is known
abbrev pub numbered : ℕ → Field
numbered n = record { number = n; name = []; nullable = false }

-- fields of which only the names are known
abbrev pub named : List (List ℕ) → Fields
named [] = Fields.none
named (n ∷ ns) = leaf (record { number = 0; name = n; nullable = false }) LeafKind.Null ⊕ named ns

-- whether a row begins as it should, or is null, or is refused
abbrev pub begins_at : Reading → (bracket : ℕ) → ℕ → Got Bool
begins_at r bracket p =
    let t = view_of r.rows.tape in
    cond (is_at t bracket p) (got true)
    (cond (r.in_force && (is_at t (the "z") p || r.settings.lenient)) (got false) (refuse (slip 5 r.node p)))

-- the row at a position
unfoldable pub row_in : Reading → Branch → Fields → ℕ → Got (Option (List (List ℕ)))
row_in r b cs p = row_at r.settings (view_of r.rows.tape) (numbered r.node) b cs r.in_force p

-- the row at a position where it is not refused, and the items that it has in the children
abbrev pub row_there : Reading → Branch → Fields → ℕ → Option (List (List ℕ))
row_there r b cs p = accepted (row_in r b cs p)

abbrev pub items_in : Reading → Branch → Fields → ℕ → List (List ℕ)
items_in r b cs p = taken b (zeros cs) (row_there r b cs p)

-- whether a row is null, and how many items it has in the children
abbrev pub row_size : Branch → Fields → Option (List (List ℕ)) → Row
row_size b cs o = record { null = not (is_some o); items = length (taken b (zeros cs) o) }

-- how many items some rows have in each child, and how many rows are null
abbrev pub counts_of : Branch → Fields → List (Option (List (List ℕ))) → Counted
counts_of b cs os = record { items = length (items_of b cs os); nulls = nulls_of os }

-- spans that were made for these rows of a branch, and nothing of them is written yet
pub record Suited (width : ℕ) (b : Branch) (s : Spans) (out : List ℕ) (os : List (Option (List (List ℕ)))) : Type 0 where
  pub branch : s.branch ≡ b
  pub suits : Suits width b
  pub laid : Laid s
  pub slots : length os ≡ s.plan.slots
  pub nulls : nulls_of os ≡ s.plan.nulls
  pub blank : out ≡ replicate (bytes_of s.plan) 0
