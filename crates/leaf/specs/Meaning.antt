-- What a leaf means: a function from an element's value to an answer. Layers over a leaf, and the piles that a shelf uses.
use Rattle.std.specs.Prelude.{ℕ, Bool, true, false, cond, List, [], ◌∷◌, length, codes, ◌==◌, nat_lt}
use Rattle.std.proofs.Math.Option.{Option, some}
use Rattle.std.specs.Fmt.{signed_decimal}
use Rattle.schema.specs.declared.kind.LeafKind.{LeafKind}
use Rattle.schema.specs.declared.settings.Settings.{Settings}
use Rattle.tape.specs.View.{Elem, object, list, string, number, i64, i32, bool, null}
use Rattle.leaf.specs.declared.layout.Layout.{Layout}
use Rattle.leaf.specs.declared.layout.Layout.TheVariants.{None, Bit, Text, Eight}

-- null, two ways to refuse, or bytes
pub data Answer : Type 0 where
  nothing : Answer
  conflict : Answer
  misfit : Answer
  value : List ℕ → Answer

-- a leaf: its one layout, and its answer to each element
pub record Meaning : Type 0 where
  pub layout : Layout
  pub answer : Elem → Answer

-- null, or the bytes of a value
abbrev pub shown : Answer → Option (List ℕ)
shown nothing = Option.none
shown conflict = Option.none
shown misfit = Option.none
shown (value bs) = some bs

-- Text takes strings
abbrev pub of_text : Elem → Answer
of_text object = conflict
of_text list = conflict
of_text (string bs) = value bs
of_text (number bs) = conflict
of_text (i64 z) = conflict
of_text (i32 z) = conflict
of_text (bool b) = conflict
of_text null = nothing

-- Boolean takes true and false, as a byte of 1 or 0
abbrev pub of_boolean : Elem → Answer
of_boolean object = conflict
of_boolean list = conflict
of_boolean (string bs) = conflict
of_boolean (number bs) = conflict
of_boolean (i64 z) = conflict
of_boolean (i32 z) = conflict
of_boolean (bool b) = value (cond b 1 0 ∷ [])
of_boolean null = nothing

-- Null takes null alone
abbrev pub of_null : Elem → Answer
of_null object = conflict
of_null list = conflict
of_null (string bs) = conflict
of_null (number bs) = conflict
of_null (i64 z) = conflict
of_null (i32 z) = conflict
of_null (bool b) = conflict
of_null null = nothing

-- the three leaves with their layouts
abbrev pub text_leaf : Meaning
text_leaf = record { layout = Text; answer = of_text }

abbrev pub boolean_leaf : Meaning
boolean_leaf = record { layout = Bit; answer = of_boolean }

abbrev pub null_leaf : Meaning
null_leaf = record { layout = None; answer = of_null }

-- Lenient turns a conflict to null
abbrev pub forgiven : Answer → Answer
forgiven nothing = nothing
forgiven conflict = nothing
forgiven misfit = misfit
forgiven (value bs) = value bs

-- the same, as a layer over a leaf
abbrev pub lenient : Meaning → Meaning
lenient m = record { layout = m.layout; answer = λ e. forgiven (m.answer e) }

-- truth values and numbers as text, and for all else the answer below
abbrev pub written : Elem → Answer → Answer
written object a = a
written list a = a
written (string bs) a = a
written (number bs) a = value bs
written (i64 z) a = value (signed_decimal z)
written (i32 z) a = value (signed_decimal z)
written (bool b) a = value (cond b (codes "true") (codes "false"))
written null a = a

-- whether a layout is that of text
abbrev pub keeps_text : Layout → Bool
keeps_text None = false
keeps_text Bit = false
keeps_text Text = true
keeps_text Eight = false

-- Coerce writes truth values and numbers as text, where the leaf below keeps text
abbrev pub coerced : Layout → Elem → Answer → Answer
coerced l e a = cond (keeps_text l) (written e a) a

-- the same, as a layer over a leaf
abbrev pub coerce : Meaning → Meaning
coerce m = record { layout = m.layout; answer = λ e. coerced m.layout e (m.answer e) }

-- one byte of 0 or 1
abbrev pub is_bit : List ℕ → Bool
is_bit [] = false
is_bit (b ∷ []) = nat_lt b 2
is_bit (b ∷ (c ∷ bs)) = false

-- whether a value fits a layout
abbrev pub fitting : Layout → List ℕ → Bool
fitting None bs = false
fitting Bit bs = is_bit bs
fitting Text bs = true
fitting Eight bs = length bs == 8

-- Checked turns a value that does not fit the layout into a misfit
abbrev pub tested : Layout → Answer → Answer
tested l nothing = nothing
tested l conflict = conflict
tested l misfit = misfit
tested l (value bs) = cond (fitting l bs) (value bs) misfit

-- the same, as a layer over a leaf
abbrev pub checked : Meaning → Meaning
checked m = record { layout = m.layout; answer = λ e. tested m.layout (m.answer e) }

-- a layer that a setting puts on
abbrev pub when : Bool → (Meaning → Meaning) → Meaning → Meaning
when on layer m = cond on (layer m) m

-- Text has Lenient over Coerce, Boolean and Null have Lenient, and a custom leaf has Lenient over Checked
abbrev pub pile : Settings → Meaning → LeafKind → Meaning
pile s own (LeafKind.Text wide) = when s.lenient lenient (when s.coerce coerce text_leaf)
pile s own LeafKind.Boolean = when s.lenient lenient boolean_leaf
pile s own LeafKind.Null = when s.lenient lenient null_leaf
pile s own LeafKind.Custom = when s.lenient lenient (checked own)
