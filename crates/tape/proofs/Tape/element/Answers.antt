use Rattle.std.proofs.Common.{inl, inr, arith}
use Rattle.tape.specs.Layout.{letter_at, number_at}
use Rattle.tape.proofs.Elements.{string_says, number-says, i64_says}
use Rattle.tape.proofs.Cover.{text_within, low_within}
use Rattle.tape.proofs.Tape.element.Goals as goal

pub get_string-requires : goal.get_string-requires
get_string-requires c =
    let es = c.args.self.elements.bytes.now in
    let s = string_says (letter_at es c.args.p) (number_at es c.args.p) c.in-String.k c.in-String.ensures in
    record { within = omega (arith, s.1, text_within c.args.self.opened c.args.p c.requires.within (inl s.0)) }

pub get_string-requires-in-Number : goal.get_string-requires-in-Number
get_string-requires-in-Number c =
    let es = c.args.self.elements.bytes.now in
    let s = number-says (letter_at es c.args.p) (number_at es c.args.p) c.in-Number.k c.in-Number.ensures in
    record { within = omega (arith, s.1, text_within c.args.self.opened c.args.p c.requires.within (inr s.0)) }

pub whole-requires : goal.whole-requires
whole-requires c =
    let es = c.args.self.elements.bytes.now in
    low_within c.args.self.opened c.args.p c.requires.within (i64_says (letter_at es c.args.p) (number_at es c.args.p) c.in-I64.field-0 c.in-I64.ensures)
