-- What a refusal is called, and how it is printed.
use Rattle.std.specs.Prelude.{List, ℕ, ◌++◌, codes}
use Rattle.std.specs.Fmt.{decimal}
use Rattle.slip.specs.declared.Fault.{Fault}
use Rattle.slip.specs.declared.Fault.TheVariants.{TornTape, BadSchema, BadPosition, Full, WrongKind, UnknownColumn, ExtraColumn, FewColumns, WrongCount, BareNull, Misfit, NotThere}
use Rattle.slip.specs.Slips.{slip_of}

-- the word of each fault
abbrev pub word_of : Fault → List ℕ
word_of TornTape = codes "torn tape"
word_of BadSchema = codes "bad schema"
word_of (BadPosition index) = codes "bad position"
word_of (Full node) = codes "full"
word_of (WrongKind node position) = codes "wrong kind"
word_of (UnknownColumn node name) = codes "unknown column"
word_of (ExtraColumn node entry) = codes "extra column"
word_of (FewColumns node row) = codes "few columns"
word_of (WrongCount node row) = codes "wrong count"
word_of (BareNull child slot) = codes "bare null"
word_of (Misfit node position) = codes "misfit"
word_of NotThere = codes "not there"

-- the text of a fault, on one line
abbrev pub text_of : Fault → List ℕ
text_of f =
    decimal (slip_of f).number ++ codes " " ++ word_of f ++ codes ": node " ++ decimal (slip_of f).node ++ codes ", place " ++ decimal (slip_of f).place
