-- What opening a tape answers.
use Rattle.std.specs.Prelude.{◌≡◌, Ok, Err, Result}
use Rattle.slip.specs.declared.Fault.{Fault}
use Rattle.slip.specs.Slips.{Slip, slip, slip_of}
use Rattle.tape.specs.declared.Tape.{Tape}
use Rattle.tape.specs.Opens.{Untorn}
use Rattle.tape.specs.Opened.{Opened, view_of}
use Rattle.tape.specs.View.{TapeView}

-- the refusal of bytes that are no tape
abbrev pub torn : Slip
torn = slip 1 0 0

-- Opening answers the tape with exactly these bytes where they are a tape, and the torn-tape refusal where they are none.
abbrev pub OpensTo : TapeView → Result Tape Fault → Type 0
OpensTo v (Ok t) = Opened t × (view_of t ≡ v)
OpensTo v (Err f) = (Untorn v → ⊥) × (slip_of f ≡ torn)
