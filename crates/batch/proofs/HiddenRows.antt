-- At position 0, where a tape has Null, a node has the value that is hidden under a null row.
use Rattle.std.proofs.Common.{◌≡◌, ℕ, Bool, true, false, cond, ◌&&◌, ◌||◌, eqb, List, ◌∷◌, ◌++◌, map, sym, refl, ap, ◌∙◌, ap₂}
use mathlib.Core.List.{map-map}
use mathlib.Core.Option.{none, some}
use Rattle.octets.specs.Lists.{joined, via, first, rest}
use Rattle.schema.specs.Tree.{Node, Fields, Field, branch, leaf, ◌⊕◌, field_of}
use Rattle.schema.specs.declared.kind.Branch.{Branch}
use Rattle.schema.specs.declared.kind.Branch.TheVariants.{Struct as struct, List as list, Fixed as fixed}
use Rattle.tape.specs.Layout.{the}
use Rattle.tape.specs.View.{TapeView, Elem, is_at, element_at}
use Rattle.batch.specs.Values.{taken, NullFirst, Setup, meaning, zeros, below}
use Rattle.leaf.specs.Meaning.{shown}
use Rattle.slip.specs.Slips.{refuse, got, slip, then, accepted}
use Rattle.batch.specs.Rows.{row_at, letter, items_at}
use Rattle.batch.specs.Format.{Column}
use Rattle.batch.proofs.Columns.{branch_column-via, taken-via}
use Rattle.batch.proofs.Worth.{worth, worth_item}
use Rattle.batch.specs.Batch.{branch_column, columns, columns_in, hidden, hidden_item}
use Rattle.batch.proofs.Sized.{leaf_value}

module _ (st : Setup) (t : TapeView) (null : NullFirst t) where
  -- at position 0 there is what is hidden
  letter-apart : (b : Branch) → eqb (the "z") (letter st.settings b) ≡ false
  letter-apart struct = go st.settings.list_rows
    where
      go : (b : Bool) → eqb (the "z") (cond b (the "[") (the "{")) ≡ false
      go true = refl
      go false = refl
  letter-apart (list v w) = refl
  letter-apart (fixed n) = refl
  letter-apart Branch.Map = refl

  pub row_zero : (f : Field) (b : Branch) (cs : Fields) (force : Bool) → accepted (row_at st.settings t f b cs force 0) ≡ none
  row_zero f b cs force = go (is_at t (letter st.settings b) 0) (force && (is_at t (the "z") 0 || st.settings.lenient)) (rw null (letter-apart b))
    where
      go : (a c : Bool) → a ≡ false → accepted (cond a (then (items_at st.settings t f b cs 0) (λ is. got (some is))) (cond c (got none) (refuse (slip 5 f.number 0)))) ≡ none
      go a true e = rw e
      go a false e = rw e

  pub value_zero : (c : Node) (force : Bool) → worth st t c force 0 ≡ hidden st c
  value_zero (branch f b cs) force = ap (via (map (worth_item st t cs (below b force)))) (row_zero f b cs force)
  value_zero (leaf f k) force =
      let e : element_at t 0 ≡ Elem.null = rw null in
      leaf_value st t f k 0 ∙ ap (λ e. shown ((meaning st k).answer e)) e

  pub item_zero : (cs : Fields) (force : Bool) → worth_item st t cs force (zeros cs) ≡ hidden_item st cs
  item_zero Fields.none force = refl
  item_zero (c ⊕ cs) force = λ i. (value_zero c (force || (field_of c).nullable) i, item_zero cs force i)

  -- the columns of rows are the branch's own and those of the rows' items, hidden ones read at position 0
  pub branch_columns : (f : Field) (b : Branch) (cs : Fields) (force : Bool) (ps : List ℕ) →
      let rows = map (λ p. accepted (row_at st.settings t f b cs force p)) ps in
      columns st (branch f b cs) (map (worth st t (branch f b cs) force) ps)
      ≡ branch_column b rows ∷ columns_in st cs (map (worth_item st t cs (below b force)) (joined (map (taken b (zeros cs)) rows)))
  branch_columns f b cs force ps =
      let row = row_at st.settings t f b cs force in
      let rows = map (λ p. accepted (row p)) ps in
      let G = worth_item st t cs (below b force) in
      let rows_are : map (worth st t (branch f b cs) force) ps ≡ map (via (map G)) rows = sym (map-map (via (map G)) (λ p. accepted (row p)) ps) in
      ap (columns st (branch f b cs)) rows_are
      ∙ ap₂ {C = List Column} (λ x y. x ∷ columns_in st cs y) (branch_column-via G b rows) (taken-via G b (zeros cs) (hidden_item st cs) (item_zero cs (below b force)) rows)

  -- those of items are the first child's at the first positions, and those of the others
  pub item-columns : (c : Node) (cs : Fields) (force : Bool) (items : List (List ℕ))
      → columns_in st (c ⊕ cs) (map (worth_item st t (c ⊕ cs) force) items)
      ≡ columns st c (map (worth st t c (force || (field_of c).nullable)) (map first items)) ++ columns_in st cs (map (worth_item st t cs force) (map rest items))
  item-columns c cs force items =
      let V = worth st t c (force || (field_of c).nullable) in
      let W = worth_item st t cs force in
      let G = worth_item st t (c ⊕ cs) force in
      let heads : map (λ i. i.0) (map G items) ≡ map V (map first items) = map-map (λ i. i.0) G items ∙ sym (map-map V first items) in
      let tails : map (λ i. i.1) (map G items) ≡ map W (map rest items) = map-map (λ i. i.1) G items ∙ sym (map-map W rest items) in
      ap₂ (λ xs ys. columns st c xs ++ columns_in st cs ys) heads tails
