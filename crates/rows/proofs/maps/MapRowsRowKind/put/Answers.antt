use Rattle.std.proofs.Common.{◌≡◌, [], ◌∷◌, length, sym, ap, ◌∙◌, arith}
use mathlib.Core.Option.{some}
use Rattle.slip.specs.Slips.{accepted}
use Rattle.tape.specs.Opened.{view_of}
use Rattle.tape.specs.View.{entries}
use Rattle.tape.proofs.Walks.{object_law}
use Rattle.schema.specs.declared.kind.Branch.{Branch}
use Rattle.batch.specs.Rows.{pairs}
use Rattle.rows.specs.Kinds.{named, row_there}
use Rattle.rows.proofs.Starts.{bracket-there}
use Rattle.rows.proofs.Sizes.{items_there, filled-there, positions_there, pairs_positions}
use Rattle.rows.proofs.maps.MapRowsRowKind.put.Goals as goal

pub put_pairs-requires : goal.put_pairs-requires
put_pairs-requires c =
    let r = c.args.reading in
    let p = c.args.p in
    let es = entries (view_of r.rows.tape) p in
    let b = Branch.Map in
    let cs = named ([] ∷ ([] ∷ [])) in
    let there : row_there r b cs p ≡ some (pairs es) = ap accepted (bracket-there r cs p b c.requires.begun) in
    record {
      position = c.requires.position;
      object = c.requires.begun;
      room = omega (arith, c.requires.room, ap length (items_there r b cs p (some (pairs es)) there));
      lent = c.requires.lent;
    }

pub returns : goal.returns
returns c =
    let r = c.args.reading in
    let p = c.args.p in
    let t = view_of r.rows.tape in
    let es = entries t p in
    let b = Branch.Map in
    let cs = named ([] ∷ ([] ∷ [])) in
    let there : row_there r b cs p ≡ some (pairs es) = ap accepted (bracket-there r cs p b c.requires.begun) in
    record {
      count = c.put_pairs.ensures.count ∙ ap length (sym (items_there r b cs p (some (pairs es)) there));
      filled = filled-there r b cs p (some (pairs es)) there c.put_pairs.ensures.filled;
      positions = positions_there r b cs p (some (pairs es)) there t (pairs_positions t r.rows.tape.opened es (object_law t r.rows.tape.opened p c.requires.position c.requires.begun).bracketed.positions);
    }
