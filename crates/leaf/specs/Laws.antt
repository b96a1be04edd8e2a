-- What the layers do to a leaf, whatever it means, and what the piles promise.
use Rattle.std.specs.Prelude.{◌≡◌, ℕ, ◌-◌, ◌^◌, Bool, true, false, cond, List, ℤ, pos, negsuc, codes, ◌≢◌}
use Rattle.std.specs.Fmt.{signed_decimal}
use Rattle.schema.specs.declared.kind.LeafKind.{LeafKind}
use Rattle.schema.specs.declared.settings.Settings.{Settings}
use Rattle.tape.specs.View.{Elem, object, list, string, number, i64, i32, bool, null}
use Rattle.leaf.specs.Bytes.{GivesBytes}
use Rattle.leaf.specs.Meaning.{nothing, conflict, misfit, value, Meaning, lenient, coerce, checked, fitting, pile}
use Rattle.leaf.specs.declared.layout.Layout.TheVariants.{Text}

-- Lenient turns a conflict to null, and nothing else
pub record LenientActs (m : Meaning) : Type 0 where
  pub layout : (lenient m).layout ≡ m.layout
  pub forgives : (e : Elem) → m.answer e ≡ conflict → (lenient m).answer e ≡ nothing
  pub keeps : (e : Elem) → (m.answer e ≢ conflict) → (lenient m).answer e ≡ m.answer e

-- Coerce acts only over a layout of text, and there only on truth values and numbers
pub record CoerceActs (m : Meaning) : Type 0 where
  pub layout : (coerce m).layout ≡ m.layout
  pub elsewhere : (m.layout ≢ Text) → (e : Elem) → (coerce m).answer e ≡ m.answer e
  pub truths : m.layout ≡ Text → (b : Bool) → (coerce m).answer (bool b) ≡ value (cond b (codes "true") (codes "false"))
  pub numbers : m.layout ≡ Text → (bs : List ℕ) → (coerce m).answer (number bs) ≡ value bs
  pub longs : m.layout ≡ Text → (z : ℤ) → (coerce m).answer (i64 z) ≡ value (signed_decimal z)
  pub ints : m.layout ≡ Text → (z : ℤ) → (coerce m).answer (i32 z) ≡ value (signed_decimal z)
  pub strings : (bs : List ℕ) → (coerce m).answer (string bs) ≡ m.answer (string bs)
  pub nulls : (coerce m).answer null ≡ m.answer null
  pub lists : (coerce m).answer list ≡ m.answer list
  pub objects : (coerce m).answer object ≡ m.answer object

-- Checked turns a value that does not fit the layout into a misfit, and nothing else
pub record CheckedActs (m : Meaning) : Type 0 where
  pub layout : (checked m).layout ≡ m.layout
  pub fit : (e : Elem) (bs : List ℕ) → m.answer e ≡ value bs → fitting m.layout bs ≡ true → (checked m).answer e ≡ value bs
  pub unfit : (e : Elem) (bs : List ℕ) → m.answer e ≡ value bs → fitting m.layout bs ≡ false → (checked m).answer e ≡ misfit
  pub keeps : (e : Elem) → ((bs : List ℕ) → m.answer e ≢ value bs) → (checked m).answer e ≡ m.answer e

-- each layer, over any leaf
pub record LayersAct : Type 0 where
  pub lenients : (m : Meaning) → LenientActs m
  pub coerces : (m : Meaning) → CoerceActs m
  pub checks : (m : Meaning) → CheckedActs m

-- every value of a leaf fits its layout
abbrev pub Fits : Meaning → Type 0
Fits m = (e : Elem) (bs : List ℕ) → m.answer e ≡ value bs → fitting m.layout bs ≡ true

-- whatever the custom leaf means, the values of every pile fit their layout
abbrev pub PilesFit : Type 0
PilesFit = (s : Settings) (own : Meaning) (k : LeafKind) → Fits (pile s own k)

-- and if the custom leaf gives bytes, so does every pile
abbrev pub PilesGiveBytes : Type 0
PilesGiveBytes = (s : Settings) (own : Meaning) (k : LeafKind) → GivesBytes own → GivesBytes (pile s own k)

-- whole numbers as text: the ends of 64 bits, a number whose lower half is zero, and none
pub record Decimals : Type 0 where
  pub least : signed_decimal (negsuc (2 ^ 63 - 1)) ≡ codes "-9223372036854775808"
  pub most : signed_decimal (pos (2 ^ 63 - 1)) ≡ codes "9223372036854775807"
  pub halves : signed_decimal (negsuc (2 ^ 32 - 1)) ≡ codes "-4294967296"
  pub none : signed_decimal (pos 0) ≡ codes "0"
