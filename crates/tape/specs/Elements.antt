-- What an element of the code says, by its letter and its number.
use Rattle.std.specs.Prelude.{◌≡◌, ℕ, ◌^◌, ◌<◌, cond, ◌==◌}
use Rattle.tape.specs.declared.element.TapeElement.{TapeElement}
use Rattle.tape.specs.declared.element.TapeElement.TheVariants.{StartObject, EndObject, StartList, EndList, String, Number, I64, I32, True, False, Null}
use Rattle.tape.specs.Layout.{the, letter_at, number_at, element_count}
use Rattle.tape.specs.Opens.{Untorn}
use Rattle.tape.specs.View.{TapeView, twos}

-- the element with this letter and number
abbrev pub tape_element : ℕ → ℕ → TapeElement
tape_element l n =
    cond (l == (the "{")) (StartObject n)
    (cond (l == (the "}")) (EndObject n)
    (cond (l == (the "[")) (StartList n)
    (cond (l == (the "]")) (EndList n)
    (cond (l == (the "s")) (String n)
    (cond (l == (the "n")) (Number n)
    (cond (l == (the "j")) (I64 (twos (2 ^ 31) n))
    (cond (l == (the "i")) (I32 (twos (2 ^ 31) n))
    (cond (l == (the "t")) True
    (cond (l == (the "f")) False Null)))))))))

-- element p as it lies on the tape
abbrev pub tape_element_at : TapeView → ℕ → TapeElement
tape_element_at t p = tape_element (letter_at t.elements p) (number_at t.elements p)

-- the letter of an element
abbrev pub letter_of : TapeElement → ℕ
letter_of (StartObject n) = the "{"
letter_of (EndObject n) = the "}"
letter_of (StartList n) = the "["
letter_of (EndList n) = the "]"
letter_of (String n) = the "s"
letter_of (Number n) = the "n"
letter_of (I64 n) = the "j"
letter_of (I32 n) = the "i"
letter_of True = the "t"
letter_of False = the "f"
letter_of Null = the "z"

-- in an opened tape an element has the letter that lies there
abbrev pub LetterLaw : Type 0
LetterLaw = (t : TapeView) → Untorn t → (p : ℕ) → p < element_count t.elements → letter_of (tape_element_at t p) ≡ letter_at t.elements p
