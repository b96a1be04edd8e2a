use Rattle.std.proofs.Common.{◌≡◌, sym, ap, ◌∙◌, rules, tests}
use Rattle.std.specs.List.{position_from}
use Rattle.std.proofs.lemmas.Iterator.{YieldsList-from_slice}
use Rattle.std.proofs.lemmas.Iterator.Adapters.{position_from-zero}
use Rattle.std.proofs.lemmas.Iterator.Search.{position_from_yields_List}
use Rattle.tape.specs.Opened.{view_of}
use Rattle.shelf.proofs.Positions.{is_bad, told, found}
use Rattle.shelf.proofs.check_positions.Goals as goal

pub returns-in-Some : goal.returns-in-Some
returns-in-Some c =
    let bad = is_bad (view_of c.args.tape) in
    let e : c.position.result ≡ position_from bad 0 c.args.positions.now =
    position_from_yields_List bad _ _ c.position.result c.position.ensures.ran (YieldsList-from_slice _ c.iter.ensures.rest) (λ x b q k. search (rules, tests)) ∙ position_from-zero bad c.args.positions.now in
    ap (told (view_of c.args.tape)) (sym c.in-Some.is ∙ e) ∙ found (view_of c.args.tape) 0 c.args.positions.now

pub returns-in-None : goal.returns-in-None
returns-in-None c =
    let bad = is_bad (view_of c.args.tape) in
    let e : c.position.result ≡ position_from bad 0 c.args.positions.now =
    position_from_yields_List bad _ _ c.position.result c.position.ensures.ran (YieldsList-from_slice _ c.iter.ensures.rest) (λ x b q k. search (rules, tests)) ∙ position_from-zero bad c.args.positions.now in
    ap (told (view_of c.args.tape)) (sym c.in-None.is ∙ e) ∙ found (view_of c.args.tape) 0 c.args.positions.now
