use Rattle.std.proofs.Common.{◌≡◌, ℕ, ◌⊎◌, inl, inr, sym, ◌∙◌, arith}
use Rattle.tape.specs.declared.element.TapeElement.{TapeElement}
use Rattle.tape.specs.declared.element.TapeElement.TheVariants.{String, Number}
use Rattle.tape.specs.Elements.{tape_element}
use Rattle.tape.specs.Layout.{the, letter_at, number_at}
use Rattle.tape.proofs.Elements.{string_says, number-says}
use Rattle.tape.proofs.Cover.{text_within}
use Rattle.listing.proofs.tapes.Line.text.Goals as goal

text-says : (l n k : ℕ) (e : TapeElement) → e ≡ tape_element l n → (e ≡ String k) ⊎ (e ≡ Number k) → ((l ≡ the "s") ⊎ (l ≡ the "n")) × (n ≡ k)
text-says l n k e s (inl i) = let f = string_says l n k (sym i ∙ s) in (inl f.0, f.1)
text-says l n k e s (inr i) = let f = number-says l n k (sym i ∙ s) in (inr f.0, f.1)

pub get_string-text-requires : goal.get_string-text-requires
get_string-text-requires c =
    let line = c.args.self in
    let es = line.tape.elements.bytes.now in
    let s = text-says (letter_at es line.at) (number_at es line.at) c.in-String.k c.get.result c.get.ensures c.in-String.is in
    record { within = omega (arith, s.1, text_within line.tape.opened line.at line.within s.0) }
