-- What a row is, by how it begins.
use Rattle.std.proofs.Common.{◌≡◌, ℕ, Bool, true, false, cond, ◌&&◌, ◌||◌, List, refl, ap, ◌∙◌, arith}
use mathlib.Core.Option.{Option, none, some}
use Rattle.slip.specs.Slips.{Slip, slip, Got, refuse, got, then, is_got}
use Rattle.tape.specs.Layout.{the}
use Rattle.tape.specs.Opened.{view_of}
use Rattle.tape.specs.View.{TapeView, is_at}
use Rattle.schema.specs.Tree.{Fields}
use Rattle.schema.specs.declared.kind.Branch.{Branch}
use Rattle.schema.specs.declared.kind.Branch.TheVariants.{Struct as struct, List as list, Fixed as fixed}
use Rattle.batch.specs.Rows.{letter, items_at}
use Rattle.rows.specs.declared.Reading.{Reading}
use Rattle.rows.specs.Kinds.{numbered, begins_at, row_in}

-- what is done with a row that begins as it should, and with a null one
begun : {A : Type 0} (x y : Bool) (s : Slip) (k l : Got A) → cond x k (cond y l (refuse s)) ≡ then (cond x (got true) (cond y (got false) (refuse s))) (λ b. cond b k l)
begun true y s k l = refl
begun false true s k l = refl
begun false false s k l = refl

abbrev Row : Type 0
Row = Option (List (List ℕ))

module _ (r : Reading) (cs : Fields) (p : ℕ) where
  abbrev t : TapeView
  t = view_of r.rows.tape

  abbrev null : Bool
  null = r.in_force && (is_at t (the "z") p || r.settings.lenient)

  abbrev pub items_here : Branch → Got Row
  items_here b = then (items_at r.settings (view_of r.rows.tape) (numbered r.node) b cs p) (λ is. got (some is))

  pub row-begun : (b : Branch) → row_in r b cs p ≡ then (begins_at r (letter r.settings b) p) (λ y. cond y (items_here b) (got none))
  unfolding row_in
  row-begun struct = begun (is_at t (letter r.settings struct) p) null (slip 5 r.node p) (items_here struct) (got none)
  row-begun (list view wide) = begun (is_at t (the "[") p) null (slip 5 r.node p) (items_here (list view wide)) (got none)
  row-begun (fixed n) = begun (is_at t (the "[") p) null (slip 5 r.node p) (items_here (fixed n)) (got none)
  row-begun Branch.Map = begun (is_at t (the "{") p) null (slip 5 r.node p) (items_here Branch.Map) (got none)

  module _ (b : Branch) where
    pub row-there : begins_at r (letter r.settings b) p ≡ got true → row_in r b cs p ≡ items_here b
    row-there e = row-begun b ∙ ap (λ x. then x (λ y. cond y (items_here b) (got none))) e

    pub row-null : begins_at r (letter r.settings b) p ≡ got false → row_in r b cs p ≡ got none
    row-null e = row-begun b ∙ ap (λ x. then x (λ y. cond y (items_here b) (got none))) e

    pub row_refused : (s : Slip) → begins_at r (letter r.settings b) p ≡ refuse s → row_in r b cs p ≡ refuse s
    row_refused s e = row-begun b ∙ ap (λ x. then x (λ y. cond y (items_here b) (got none))) e

    -- by its bracket alone, where it is not refused
    pub bracket-there : is_at (view_of r.rows.tape) (letter r.settings b) p ≡ true → row_in r b cs p ≡ items_here b
    bracket-there e = row-there (rw e refl)

    pub bracket-null : is_at (view_of r.rows.tape) (letter r.settings b) p ≡ false → is_got (row_in r b cs p) ≡ true → row_in r b cs p ≡ got none
    bracket-null e g =
        let begins : begins_at r (letter r.settings b) p ≡ cond null (got false) (refuse (slip 5 r.node p)) = rw e refl in
        pick null (row-begun b ∙ ap (λ x. then x (λ y. cond y (items_here b) (got none))) begins) g
      where
        pick : (y : Bool) → row_in r b cs p ≡ then (cond y (got false) (refuse (slip 5 r.node p))) (λ z. cond z (items_here b) (got none)) → is_got (row_in r b cs p) ≡ true → row_in r b cs p ≡ got none
        pick true e g = e
        pick false e g = absurd (let f = ap is_got e in let z : ◌≡◌ {A = ℕ} 0 1 = cc in omega arith)
