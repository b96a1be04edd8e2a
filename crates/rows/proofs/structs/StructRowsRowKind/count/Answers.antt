use Rattle.std.proofs.Common.{[], ◌∷◌, arith}
use mathlib.Core.Option.{some}
use Rattle.std.proofs.lemmas.Result.{err_from_is_err_and}
use Rattle.slip.specs.Slips.{slip_of}
use Rattle.rows.specs.Kinds.{named}
use Rattle.rows.specs.Structs.{fieldwise, item_in}
use Rattle.rows.proofs.Placing.{row-item, row_unfit}
use Rattle.rows.proofs.Sizes.{count_got, count_refused}
use Rattle.rows.proofs.Tallies.{got_then, refused_then}
use Rattle.rows.proofs.structs.StructRowsRowKind.count.Goals as goal

pub check_item-requires : goal.check_item-requires
check_item-requires g c = record { tied = c.requires.ready; position = c.requires.position; begun = c.requires.begun }

pub returns-in_err-check_item : goal.returns-in_err-check_item
returns-in_err-check_item g c =
    let r = c.args.reading in
    let ns = g.N.NameIndex.names c.args.self.now.index.now in
    let s = slip_of c.in_err-check_item.field-0.0 in
    let unfit = refused_then (item_in r ns c.args.p) (λ _. tt) s c.in_err-check_item.ensures in
    let p = err_from_is_err_and c.from_residual.result c.from_residual.ensures.1 in
    rw (p.1, p.2) (record { said = count_refused r fieldwise (named ns) c.args.p s (row_unfit r ns c.args.p c.requires.begun s unfit); few = tt })

pub returns : goal.returns
returns g c =
    let r = c.args.reading in
    let ns = g.N.NameIndex.names c.args.self.now.index.now in
    let f = got_then (item_in r ns c.args.p) (λ _. tt) tt c.in_ok-check_item.ensures in
    record { said = count_got r fieldwise (named ns) c.args.p (some (f.0 ∷ [])) (row-item r ns c.args.p c.requires.begun f.0 f.1); few = (omega arith, λ z. omega arith) }
