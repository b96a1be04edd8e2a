-- What lies in a tape of the code.
use Rattle.tape.specs.declared.Tape.{Tape}
use Rattle.tape.specs.Opens.{Untorn}
use Rattle.tape.specs.View.{TapeView}

-- its three byte lists
abbrev pub view_of : Tape → TapeView
view_of t = record { elements = t.elements.bytes.now; texts = t.texts.now; offsets = t.offsets.bytes.now }

-- they are a tape
abbrev pub Opened : Tape → Type 0
Opened t = Untorn (view_of t)
