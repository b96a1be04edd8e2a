-- One row of a branch: the items that it gives to the children, one position for each child.
use Rattle.std.specs.Prelude.{ℕ, Bool, cond, ◌&&◌, ◌||◌, List, [], ◌∷◌, map, length, replicate, Some, None, ◌==◌, nat_lt, slice_index, slice_set}
use Rattle.std.proofs.Math.Option.{Option, none, some}
use Rattle.schema.specs.Tree.{Field, Fields, many, names}
use Rattle.schema.specs.declared.kind.Branch.{Branch}
use Rattle.schema.specs.declared.kind.Branch.TheVariants.{Struct as struct, List as list, Fixed as fixed}
use Rattle.schema.specs.declared.settings.Settings.{Settings}
use Rattle.tape.specs.Layout.{the}
use Rattle.tape.specs.View.{TapeView, is_at, entries, words_at}
use Rattle.names.specs.Lowest.{lowest}
use Rattle.slip.specs.Slips.{slip, Got, refuse, got, then}

-- each entry is an item for one child
abbrev pub singles : List ℕ → List (List ℕ)
singles es = map (λ e. e ∷ []) es

-- each name and its value are an item for two children
abbrev pub pairs : List ℕ → List (List ℕ)
pairs [] = []
pairs (k ∷ []) = []
pairs (k ∷ (v ∷ rest)) = (k ∷ (v ∷ [])) ∷ pairs rest

-- what a branch wants to begin with
abbrev pub letter : Settings → Branch → ℕ
letter s struct = cond s.list_rows (the "[") (the "{")
letter s (list view wide) = the "["
letter s (fixed n) = the "["
letter s Branch.Map = the "{"

-- the values of a list by field, of which there are n; one too many is an extra column (7), and too few are few columns (8)
abbrev pub listed : Field → (n position : ℕ) → List ℕ → Got (List ℕ)
listed f n p es =
    cond (nat_lt n (length es)) (refuse (slip 7 f.number (slice_index es n)))
    (cond (nat_lt (length es) n) (refuse (slip 8 f.number p)) (got es))

module _ (s : Settings) (t : TapeView) (f : Field) where
  -- the values of an object by field: position 0 for a field that is not named, and else that of the last pair with its name;
  -- a name that no field has is skipped, or under strict is an unknown column (6)
  abbrev pub placed : List (List ℕ) → List ℕ → List ℕ → Got (List ℕ)
  placed ns [] at = got at
  placed ns (k ∷ []) at = got at
  placed ns (k ∷ (v ∷ rest)) at =
      elim (lowest ns (words_at t k)) [
        | Some i ↦ placed ns rest (slice_set at i v)
        | None ↦ cond s.strict (refuse (slip 6 f.number k)) (placed ns rest at)
      ]

  -- the items of a row that begins as it should; a fixed-size list with another number of entries is a wrong count (9)
  abbrev pub items_at : Branch → Fields → ℕ → Got (List (List ℕ))
  items_at struct cs p =
      then (cond s.list_rows (listed f (many cs) p (entries t p)) (placed (names cs) (entries t p) (replicate (many cs) 0))) (λ item. got (item ∷ []))
  items_at (list view wide) cs p = got (singles (entries t p))
  items_at (fixed n) cs p = cond (length (entries t p) == n) (got (singles (entries t p))) (refuse (slip 9 f.number p))
  items_at Branch.Map cs p = got (pairs (entries t p))

  -- none is a null row: Null, and under lenient anything else that is wrong, where the node is nullable in force; else the kind is wrong (5)
  abbrev pub row_at : Branch → Fields → (inForce : Bool) → ℕ → Got (Option (List (List ℕ)))
  row_at b cs inForce p =
      cond (is_at t (letter s b) p) (then (items_at b cs p) (λ is. got (some is)))
      (cond (inForce && (is_at t (the "z") p || s.lenient)) (got none) (refuse (slip 5 f.number p)))
