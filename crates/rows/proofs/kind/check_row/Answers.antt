use Rattle.std.proofs.Common.{◌≡◌, ℕ, Bool, true, false, length, sym, ap, ◌∙◌, ap₂}
use mathlib.Core.Option.{none}
use lib.ListN.{length-replicate}
use Rattle.std.proofs.lemmas.Result.{err_from_is_err_and}
use Rattle.slip.specs.Slips.{Got, got, slip_of}
use Rattle.tape.specs.Opened.{view_of}
use Rattle.tape.specs.View.{is_at}
use Rattle.batch.specs.Rows.{letter}
use Rattle.batch.specs.Values.{hides, taken, zeros}
use Rattle.rows.specs.Kinds.{row_in, begins_at}
use Rattle.rows.specs.declared.kind.Row.{Row}
use Rattle.rows.proofs.Starts.{bracket-there, row-null, row_refused}
use Rattle.rows.proofs.Sizes.{said_got, said_refused, begins_bracket, some_got}
use Rattle.rows.proofs.Tallies.{got_then, refused_then}
use Rattle.rows.proofs.kind.check_row.Goals as goal

pub returns-in_err-begins : goal.returns-in_err-begins
returns-in_err-begins g c =
    let r = c.args.reading in
    let b = g.K.RowKind.branch c.args.kind.now in
    let cs = g.K.RowKind.children c.args.kind.now in
    let p = err_from_is_err_and c.from_residual.result c.from_residual.ensures.1 in
    let e = ap (λ x. begins_at r x c.args.p) (sym c.bracket.ensures) ∙ sym c.in_err-begins.ensures in
    rw (p.1, p.2) (record { said = said_refused r b cs c.args.p _ (row_refused r cs c.args.p b _ e); few = tt })

pub count-requires : goal.count-requires
count-requires g c =
    let r = c.args.reading in
    let e = begins_bracket r c.bracket.result c.args.p (sym c.in_ok-begins.ensures ∙ ap got c.if-branch.true) in
    record { ready = c.requires.ready; few = c.requires.few; position = c.requires.position; begun = ap (λ x. is_at (view_of r.rows.tape) x c.args.p) (sym c.bracket.ensures) ∙ e }

pub returns-in_err-items : goal.returns-in_err-items
returns-in_err-items g c =
    let r = c.args.reading in
    let b = g.K.RowKind.branch c.args.kind.now in
    let cs = g.K.RowKind.children c.args.kind.now in
    let s = slip_of c.in_err-items.field-0.0 in
    let p = err_from_is_err_and c.from_residual-in_err-items.result c.from_residual-in_err-items.ensures.1 in
    rw (p.1, p.2) (record { said = said_refused r b cs c.args.p s (refused_then (row_in r b cs c.args.p) (λ o. length (taken b (zeros cs) o)) s c.in_err-items.ensures.said); few = tt })

pub returns-then-branch : goal.returns-then-branch
returns-then-branch g c =
    let r = c.args.reading in
    let b = g.K.RowKind.branch c.args.kind.now in
    let cs = g.K.RowKind.children c.args.kind.now in
    let begun = begins_bracket r c.bracket.result c.args.p (sym c.in_ok-begins.ensures ∙ ap got c.if-branch.true) in
    let t = view_of r.rows.tape in
    let o = got_then (row_in r b cs c.args.p) (λ o. length (taken b (zeros cs) o)) c.in_ok-items.items c.in_ok-items.ensures.said in
    let there = bracket-there r cs c.args.p b (ap (λ x. is_at t x c.args.p) (sym c.bracket.ensures) ∙ begun) in
    let row : Bool → ℕ → Got Row = λ n m. got (record { null = n; items = m }) in
    record { said = ap₂ row (sym (some_got _ o.0 (sym there ∙ o.1))) o.2 ∙ said_got r b cs c.args.p o.0 o.1; few = c.in_ok-items.ensures.few }

pub returns : goal.returns
returns g c =
    let r = c.args.reading in
    let b = g.K.RowKind.branch c.args.kind.now in
    let cs = g.K.RowKind.children c.args.kind.now in
    let e : begins_at r (letter r.settings b) c.args.p ≡ got false = ap (λ x. begins_at r x c.args.p) (sym c.bracket.ensures) ∙ sym c.in_ok-begins.ensures ∙ ap got c.if-branch.false in
    let sized : ℕ → Got Row = λ m. got (record { null = true; items = m }) in
    record { said = ap sized (c.hides-items.ensures.said ∙ sym (length-replicate (hides b) (zeros cs))) ∙ said_got r b cs c.args.p none (row-null r cs c.args.p b e); few = c.hides-items.ensures.few }
