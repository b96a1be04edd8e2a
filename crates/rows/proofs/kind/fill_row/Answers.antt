use Rattle.std.proofs.Common.{◌≡◌, ℕ, Bool, true, length, sym, ap, ◌∙◌, ap₂, arith}
use mathlib.Core.Option.{none}
use lib.ListN.{length-replicate}
use Rattle.slip.specs.Slips.{accepted}
use Rattle.tape.specs.Opened.{view_of}
use Rattle.tape.specs.View.{is_at}
use Rattle.schema.specs.Tree.{many}
use Rattle.batch.specs.Values.{hides, zeros}
use Rattle.rows.specs.Kinds.{row_in, row_there}
use Rattle.rows.specs.declared.kind.Row.{Row}
use Rattle.rows.proofs.Starts.{bracket-there, bracket-null}
use Rattle.rows.proofs.Sizes.{items_there, size_there, filled-there, positions_there, zeros_positions, some_there}
use Rattle.rows.proofs.kind.fill_row.Goals as goal

pub put-items-requires : goal.put-items-requires
put-items-requires g c =
    record {
      ready = c.requires.ready;
      few = c.requires.few;
      position = c.requires.position;
      begun = ap (λ x. is_at (view_of c.args.reading.rows.tape) x c.args.p) (sym c.bracket-bracket.ensures) ∙ sym c.is_at.ensures ∙ c.if-is_at.true;
      accepted = c.requires.accepted;
      room = c.requires.room;
      lent = c.requires.lent;
    }

pub returns-then-is_at : goal.returns-then-is_at
returns-then-is_at g c =
    let r = c.args.reading in
    let b = g.K.RowKind.branch c.args.kind.now in
    let cs = g.K.RowKind.children c.args.kind.now in
    let begun = ap (λ x. is_at (view_of r.rows.tape) x c.args.p) (sym c.bracket-bracket.ensures) ∙ sym c.is_at.ensures ∙ c.if-is_at.true in
    let row : Bool → ℕ → Row = λ n m. record { null = n; items = m } in
    record {
      said = ap₂ row (sym (some_there _ (row_in r b cs c.args.p) (bracket-there r cs c.args.p b begun) c.requires.accepted)) c.put-items.ensures.count;
      filled = c.put-items.ensures.filled;
      positions = c.put-items.ensures.positions;
    }

pub put_null-requires : goal.put_null-requires
put_null-requires g c =
    let r = c.args.reading in
    let b = g.K.RowKind.branch c.args.kind.now in
    let cs = g.K.RowKind.children c.args.kind.now in
    let begun = ap (λ x. is_at (view_of r.rows.tape) x c.args.p) (sym c.bracket-bracket.ensures) ∙ sym c.is_at.ensures ∙ c.if-is_at.false in
    let e : row_there r b cs c.args.p ≡ none = ap accepted (bracket-null r cs c.args.p b begun c.requires.accepted) in
    record {
      ready = c.requires.ready;
      room = omega (arith, c.requires.room, ap length (items_there r b cs c.args.p none e), length-replicate (hides b) (zeros cs));
      lent = c.requires.lent;
    }

pub returns : goal.returns
returns g c =
    let r = c.args.reading in
    let b = g.K.RowKind.branch c.args.kind.now in
    let cs = g.K.RowKind.children c.args.kind.now in
    let begun = ap (λ x. is_at (view_of r.rows.tape) x c.args.p) (sym c.bracket-bracket.ensures) ∙ sym c.is_at.ensures ∙ c.if-is_at.false in
    let e : row_there r b cs c.args.p ≡ none = ap accepted (bracket-null r cs c.args.p b begun c.requires.accepted) in
    let sized : ℕ → Row = λ m. record { null = true; items = m } in
    record {
      said = ap sized (c.hides-items.ensures.said ∙ sym (length-replicate (hides b) (zeros cs))) ∙ size_there r b cs c.args.p none e;
      filled = filled-there r b cs c.args.p none e c.put_null.ensures;
      positions = positions_there r b cs c.args.p none e (view_of r.rows.tape) (zeros_positions (view_of r.rows.tape) r.rows.tape.opened (hides b) (many cs));
    }
