use Rattle.std.proofs.Common.{◌≡◌, [], length, sym, ap, ◌∙◌, arith}
use mathlib.Core.Option.{none}
use Rattle.octets.specs.Lists.{splice, or_else}
use Rattle.octets.proofs.Splices.{splice_nil, splice-part}
use Rattle.tape.specs.Values.{elem_of}
use Rattle.leaf.specs.Meaning.{shown}
use Rattle.columns.proofs.Scanning.{value-from}
use Rattle.columns.proofs.Filling.{no_value}
use Rattle.columns.proofs.cells.put_value.Goals as goal

pub returns-in-Value : goal.returns-in-Value
returns-in-Value g c =
    let a = (g.L.Leaf.meaning c.args.leaf.now).answer (elem_of c.args.e) in
    let cell : or_else [] (shown a) ≡ c.write.new.out = ap (λ x. or_else [] (shown x)) c.write.ensures in
    let v = value-from a c.in-Value.n c.in-Value.ensures in
    let n : c.in-Value.n ≡ length (or_else [] (shown a)) = v.2 ∙ sym (ap (λ x. length (or_else [] (shown x))) v.1) in
    record { size = n; after = splice-part c.args.at _ c.args.out.now _ (or_else [] (shown a)) (sym cell) (omega (arith, n)) }

pub returns-in_default : goal.returns-in_default
returns-in_default g c =
    let a = (g.L.Leaf.meaning c.args.leaf.now).answer (elem_of c.args.e) in
    let e : shown a ≡ none = no_value a (λ n h. c.in_default.not-Value n (c.answer.ensures ∙ h)) in
    record { size = sym (ap (λ o. length (or_else [] o)) e); after = sym (ap (λ o. splice c.args.out.now c.args.at (or_else [] o)) e ∙ splice_nil c.args.out.now c.args.at) }
