-- Where the texts of a tape are bytes, so are the values that a leaf makes of them.
use Rattle.std.specs.Prelude.{ℕ, ◌<◌, List}
use Rattle.std.specs.List.{AllByRecursion}
use Rattle.tape.specs.View.{Elem, object, list, string, number, i64, i32, bool, null}
use Rattle.leaf.specs.Meaning.{Answer, nothing, conflict, misfit, value, Meaning}

-- numbers that a byte can hold
abbrev pub AreBytes : List ℕ → Type 0
AreBytes bs = AllByRecursion (λ b. b < 256) bs

-- the text of an element, if it has one, is bytes
abbrev pub HoldsBytes : Elem → Type 0
HoldsBytes object = Unit {0}
HoldsBytes list = Unit {0}
HoldsBytes (string bs) = AreBytes bs
HoldsBytes (number bs) = AreBytes bs
HoldsBytes (i64 z) = Unit {0}
HoldsBytes (i32 z) = Unit {0}
HoldsBytes (bool b) = Unit {0}
HoldsBytes null = Unit {0}

-- what holds of the value of an answer, if it has one
abbrev pub Valued : (List ℕ → Type 0) → Answer → Type 0
Valued P nothing = Unit {0}
Valued P conflict = Unit {0}
Valued P misfit = Unit {0}
Valued P (value bs) = P bs

-- a leaf whose values are bytes wherever the texts of elements are
abbrev pub GivesBytes : Meaning → Type 0
GivesBytes m = (e : Elem) → HoldsBytes e → Valued AreBytes (m.answer e)
