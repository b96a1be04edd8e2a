use Rattle.std.proofs.Common.{inl, arith}
use Rattle.tape.specs.Opened.{view_of}
use Rattle.tape.proofs.Walks.{position_below, text_law}
use Rattle.tape.proofs.Tape.words.Goals as goal

pub get_string-requires : goal.get_string-requires
get_string-requires c =
    let t = view_of c.args.self in
    record { within = omega (arith, c.number.ensures, (text_law t c.args.self.opened c.args.p (position_below t c.args.p c.requires.position) (inl c.requires.string)).number) }
