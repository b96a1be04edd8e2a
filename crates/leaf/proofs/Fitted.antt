-- The values of a pile fit its layout, and are bytes.
use Rattle.std.proofs.Common.{◌≡◌, ℕ, zero, suc, ◌/◌, ◌%◌, ◌<◌, true, false, List, [], ◌∷◌, ℤ, pos, negsuc, decimal, arith}
use Rattle.std.specs.Fmt.{signed_decimal, digits_onto, digit_glyph, digits}
use Rattle.schema.specs.declared.kind.LeafKind.{LeafKind}
use Rattle.schema.specs.declared.settings.Settings.{Settings}
use Rattle.tape.specs.View.{Elem}
use Rattle.leaf.specs.Bytes.{AreBytes, Valued}
use Rattle.leaf.specs.Laws.{PilesFit, PilesGiveBytes}
use Rattle.leaf.specs.Meaning.{Meaning, fitting, pile}

-- the value of a leaf at an element fits the leaf's layout
abbrev pub Fitting : Meaning → Elem → Type 0
Fitting m e = Valued (λ bs. fitting m.layout bs ≡ true) (m.answer e)

pub pile-fits : (s : Settings) (own : Meaning) (k : LeafKind) (e : Elem) → Fitting (pile s own k) e
pile-fits s own k e = grind arith

pub piles_fit_lem : PilesFit
piles_fit_lem s own k e bs is = grind arith

-- decimals are bytes
digit_below : (n : ℕ) → digit_glyph false (n % 10) < 256
digit_below n = grind arith

spelled_bytes : (k n : ℕ) (acc : List ℕ) → AreBytes acc → AreBytes (digits_onto k 10 false n acc)
spelled_bytes zero n acc p = p
spelled_bytes (suc k) n acc p = grind (arith, digit_below n, spelled_bytes k (n / 10) (digit_glyph false (n % 10) ∷ acc))

decimal_bytes : (n : ℕ) → AreBytes (decimal n)
unfolding digits
decimal_bytes n = spelled_bytes 64 n [] tt

signed_bytes : (z : ℤ) → AreBytes (signed_decimal z)
signed_bytes (pos n) = decimal_bytes n
signed_bytes (negsuc n) = (omega arith, decimal_bytes (suc n))

pub piles_give_bytes : PilesGiveBytes
piles_give_bytes s own k g e h = grind (arith, signed_bytes)
