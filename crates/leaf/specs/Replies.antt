-- What the code's reply says of an answer: which one it is, and a value's size.
use Rattle.std.specs.Prelude.{length}
use Rattle.leaf.specs.Meaning.{Answer, nothing, conflict, misfit, value}
use Rattle.leaf.specs.declared.layout.Reply.{Reply}
use Rattle.leaf.specs.declared.layout.Reply.TheVariants.{Null, Conflict, Misfit, Value}

abbrev pub reply_of : Answer → Reply
reply_of nothing = Null
reply_of conflict = Conflict
reply_of misfit = Misfit
reply_of (value bs) = Value (length bs)
