-- The value of a row, and which positions a node takes.
use Rattle.std.specs.Prelude.{◌≡◌, ℕ, Bool, true, false, not, ◌&&◌, ◌||◌, List, [], replicate}
use Rattle.std.proofs.Math.Option.{Option, none, some}
use Rattle.octets.specs.Lists.{is_some, or_else, all, rest, first}
use Rattle.schema.specs.Tree.{Node, Fields, Field, branch, leaf, ◌⊕◌, field_of, many}
use Rattle.schema.specs.declared.kind.Branch.{Branch}
use Rattle.schema.specs.declared.kind.Branch.TheVariants.{Struct as struct, List as list, Fixed as fixed}
use Rattle.schema.specs.declared.kind.LeafKind.{LeafKind}
use Rattle.schema.specs.declared.settings.Settings.{Settings}
use Rattle.tape.specs.Layout.{the, letter_at}
use Rattle.tape.specs.View.{TapeView, element_at}
use Rattle.leaf.specs.Meaning as Leaf
use Rattle.leaf.specs.Meaning.{Answer, Meaning}
use Rattle.leaf.specs.declared.layout.Layout.{Layout}
use Rattle.leaf.specs.declared.layout.Layout.TheVariants.{None, Bit, Text, Eight}
use Rattle.slip.specs.Slips.{slip, Got, refuse, got, then, each, is_got, accepted}
use Rattle.batch.specs.Rows.{row_at}

-- what a shelf was opened with: the settings, the meaning of a custom leaf, the schema's tree and the bytes of the page
pub record Setup : Type 0 where
  pub settings : Settings
  pub custom : Meaning
  pub root : Node
  pub size : ℕ

-- null, or the items of a branch (a struct has one), or the bytes of a leaf; an item is a value for each child
abbrev mutual
  pub Value : Node → Type 0
  Value (branch f b cs) = Option (List (Item cs))
  Value (leaf f k) = Option (List ℕ)

  pub Item : Fields → Type 0
  Item Fields.none = Unit {0}
  Item (c ⊕ cs) = Value c × Item cs

-- there is a value, and it is null
abbrev pub is_null : (c : Node) → Got (Value c) → Bool
is_null c (refuse r) = false
is_null (branch f b cs) (got o) = not (is_some o)
is_null (leaf f k) (got o) = not (is_some o)

-- a null row takes no items, but a struct's takes one and a fixed-size list's takes all, which are hidden under it
abbrev pub hides : Branch → ℕ
hides struct = 1
hides (list view wide) = 0
hides (fixed n) = n
hides Branch.Map = 0

-- the items that have slots in the children
abbrev pub taken : {A : Type 0} → Branch → A → Option (List A) → List A
taken b hidden o = or_else (replicate (hides b) hidden) o

-- an item of which nothing is there
abbrev pub zeros : Fields → List ℕ
zeros cs = replicate (many cs) 0

-- a struct that is nullable in force makes its fields so
abbrev pub below : Branch → Bool → Bool
below struct inForce = inForce
below (list view wide) inForce = false
below (fixed n) inForce = false
below Branch.Map inForce = false

-- null stays null, and a row has the value of each item
abbrev pub inside : {A B : Type 0} → (A → Got B) → Option (List A) → Got (Option (List B))
inside f none = got none
inside f (some is) = then (each f is) (λ xs. got (some xs))

-- a layout without values
abbrev pub keeps_none : Layout → Bool
keeps_none None = true
keeps_none Bit = false
keeps_none Text = false
keeps_none Eight = false

-- null or bytes are kept of an answer; a conflict that is left on top of a pile is a wrong kind (5), and a misfit is refused as such (11)
abbrev pub kept : (node position : ℕ) → Answer → Got (Option (List ℕ))
kept node p Answer.nothing = got none
kept node p Answer.conflict = refuse (slip 5 node p)
kept node p Answer.misfit = refuse (slip 11 node p)
kept node p (Answer.value bs) = got (some bs)

-- what is not there is read at position 0, where every tape has Null
abbrev pub NullFirst : TapeView → Type 0
NullFirst t = letter_at t.elements 0 ≡ the "z"

module _ (st : Setup) where
  -- what a kind of leaf means on this shelf
  abbrev pub meaning : LeafKind → Meaning
  meaning k = Leaf.pile st.settings st.custom k

  -- flag 0 forbids nulls, but not to a leaf that has no values
  abbrev pub may_be_null : Node → Bool
  may_be_null (branch f b cs) = f.nullable
  may_be_null (leaf f k) = f.nullable || keeps_none (meaning k).layout

  module _ (t : TapeView) where
    -- a leaf's value at a position is what is kept of its pile's answer there
    abbrev pub leaf_at : Field → LeafKind → ℕ → Got (Option (List ℕ))
    leaf_at f k p = kept f.number p ((meaning k).answer (element_at t p))

    abbrev mutual
      -- the value of a node at a position, or why there is none
      pub value : (c : Node) → (inForce : Bool) → ℕ → Got (Value c)
      value (branch f b cs) inForce p = then (row_at st.settings t f b cs inForce p) (inside (item cs (below b inForce)))
      value (leaf f k) inForce p = leaf_at f k p

      pub item : (cs : Fields) → Bool → List ℕ → Got (Item cs)
      item Fields.none inForce ps = got tt
      item (c ⊕ cs) inForce ps = then (value c (inForce || (field_of c).nullable) (first ps)) (λ x. then (item cs inForce (rest ps)) (λ is. got (x, is)))

    -- no child is null that may not be
    abbrev pub filled : Fields → Bool → List ℕ → Bool
    filled Fields.none inForce ps = true
    filled (c ⊕ cs) inForce ps =
        (may_be_null c || not (is_null c (value c (inForce || (field_of c).nullable) (first ps)))) && filled cs inForce (rest ps)

    abbrev mutual
      -- a node takes a position: its row is right, so are the children's at the row's items, hidden ones too, and the row's items are filled
      pub fits : Node → (inForce : Bool) → ℕ → Bool
      fits (branch f b cs) inForce p =
          let row = row_at st.settings t f b cs inForce p in
          is_got row
          && (all (fit_item cs (below b inForce)) (taken b (zeros cs) (accepted row))
          && all (filled cs (below b inForce)) (or_else [] (accepted row)))
      fits (leaf f k) inForce p = is_got (leaf_at f k p)

      pub fit_item : Fields → Bool → List ℕ → Bool
      fit_item Fields.none inForce ps = true
      fit_item (c ⊕ cs) inForce ps = fits c (inForce || (field_of c).nullable) (first ps) && fit_item cs inForce (rest ps)
