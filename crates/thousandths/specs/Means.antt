-- What the leaf makes of an element.
use Rattle.std.specs.Prelude.{◌≡◌, ℕ, ◌^◌, ◌<◌, cond, List, ℤ, pos, ◌*ℤ◌, Some, None, Option, nat_lt, unsigned_abs}
use Rattle.std.specs.Int.{w64}
use Rattle.std.proofs.Common.{of_z}
use Rattle.octets.specs.Numbers.{le, number as number_of}
use Rattle.tape.specs.View.{Elem, object, list, string, number, i64, i32, bool, null, twos}
use Rattle.leaf.specs.Bytes.{GivesBytes}
use Rattle.leaf.specs.Laws.{Fits}
use Rattle.leaf.specs.Meaning.{Answer, nothing, conflict, misfit, value, Meaning}
use Rattle.leaf.specs.declared.layout.Layout.TheVariants.{Eight}
use Rattle.thousandths.specs.Says.{Tells}
use Rattle.thousandths.specs.Split.{thousandths_of}

-- eight bytes, two's complement, least byte first
abbrev pub eight : ℤ → List ℕ
eight z = le 8 (of_z w64 z)

-- a number's bytes, or a conflict where there is none
abbrev pub answer_of : Option ℤ → Answer
answer_of (Some z) = value (eight z)
answer_of None = conflict

-- a whole number below 10^12 in size, times 1000
abbrev pub whole_of : ℤ → Option ℤ
whole_of z = cond (nat_lt (unsigned_abs z) (10 ^ 12)) (Some (z *ℤ pos 1000)) None

-- the number of thousandths that an element holds
abbrev pub found_in : Elem → Option ℤ
found_in object = None
found_in list = None
found_in (string bs) = None
found_in (number bs) = thousandths_of bs
found_in (i64 z) = whole_of z
found_in (i32 z) = whole_of z
found_in (bool b) = None
found_in null = None

-- null for null, and else the number that the element holds
abbrev pub of_thousandths : Elem → Answer
of_thousandths object = conflict
of_thousandths list = conflict
of_thousandths (string bs) = conflict
of_thousandths (number bs) = answer_of (thousandths_of bs)
of_thousandths (i64 z) = answer_of (whole_of z)
of_thousandths (i32 z) = answer_of (whole_of z)
of_thousandths (bool b) = conflict
of_thousandths null = nothing

-- the leaf, by its meaning
abbrev pub thousandths_leaf : Meaning
thousandths_leaf = record { layout = Eight; answer = of_thousandths }

-- an answer to a text is right: the eight bytes of the one number that it says, or a conflict where it has no reading
abbrev pub Right : List ℕ → Answer → Type 0
Right text nothing = ⊥
Right text conflict = Tells text None
Right text misfit = ⊥
Right text (value bs) = (z : ℤ) × Tells text (Some z) × (bs ≡ eight z)

-- every answer to the text of a number is right
abbrev pub RightAnswers : Type 0
RightAnswers = (text : List ℕ) → Right text (of_thousandths (number text))

-- every value fits the layout, and is bytes, from which the number is read again
pub record WellLaid : Type 0 where
  pub fits : Fits thousandths_leaf
  pub bytes : GivesBytes thousandths_leaf
  pub reads : (z : ℤ) → unsigned_abs z < 2 ^ 63 → twos (2 ^ 63) (number_of (eight z)) ≡ z
