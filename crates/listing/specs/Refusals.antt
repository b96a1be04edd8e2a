-- How a refusal is printed.
use Rattle.std.specs.Prelude.{ℕ, List, [], ◌∷◌, codes}
use Rattle.std.specs.Fmt.{decimal}
use Rattle.std.specs.List.{concat}
use Rattle.slip.specs.declared.Fault.{Fault}
use Rattle.slip.specs.declared.Fault.TheVariants.{TornTape, BadSchema, BadPosition, Full, WrongKind, UnknownColumn, ExtraColumn, FewColumns, WrongCount, BareNull, Misfit, NotThere}
use Rattle.slip.specs.Slips.{slip_of}
use Rattle.slip.specs.Words.{word_of}

-- what it means
abbrev pub meaning_of : Fault → List ℕ
meaning_of TornTape = codes "these bytes break a rule of tapes; nothing was read from them"
meaning_of BadSchema = codes "these records hold no tree of columns, or break a limit"
meaning_of (BadPosition index) = codes "an entry of the list is no position of this tape"
meaning_of (Full node) = codes "too little space; nothing is wrong with the frame"
meaning_of (WrongKind node position) = codes "the node wants another kind of element"
meaning_of (UnknownColumn node name) = codes "no field of the struct has this name"
meaning_of (ExtraColumn node entry) = codes "more entries than the struct has fields"
meaning_of (FewColumns node row) = codes "fewer entries than the struct has fields"
meaning_of (WrongCount node row) = codes "not as many entries as the fixed-size list wants"
meaning_of (BareNull child slot) = codes "null in a row that is there, where null may not be"
meaning_of (Misfit node position) = codes "the custom leaf gave a value that its column cannot hold"
meaning_of NotThere = codes "no such batch, node, slot or fault"

-- what its place counts, as it stands behind the place
abbrev pub counted_by : Fault → List ℕ
counted_by TornTape = codes ""
counted_by BadSchema = codes ""
counted_by (BadPosition index) = codes "  (entry of the list of positions)"
counted_by (Full node) = codes ""
counted_by (WrongKind node position) = codes "  (element of the tape)"
counted_by (UnknownColumn node name) = codes "  (element of the tape: the name)"
counted_by (ExtraColumn node entry) = codes "  (element of the tape: the first entry too many)"
counted_by (FewColumns node row) = codes "  (element of the tape: the row)"
counted_by (WrongCount node row) = codes "  (element of the tape: the row)"
counted_by (BareNull child slot) = codes "  (slot of the node)"
counted_by (Misfit node position) = codes "  (element of the tape)"
counted_by NotThere = codes ""

-- the lines of its slip
abbrev pub slip_text : Fault → List ℕ
slip_text f =
    concat (codes "  REFUSED\n    number   " ∷ decimal (slip_of f).number
    ∷ codes "\n    word     " ∷ word_of f
    ∷ codes "\n    node     " ∷ decimal (slip_of f).node
    ∷ codes "\n    place    " ∷ decimal (slip_of f).place ∷ counted_by f
    ∷ codes "\n    meaning  " ∷ meaning_of f ∷ codes "\n" ∷ [])
