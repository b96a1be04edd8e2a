use Rattle.std.proofs.Common.{◌≡◌, ◌+◌, ◌≤◌, [], ◌∷◌, length, sym, ap, ◌∙◌, arith}
use mathlib.Core.Option.{some}
use Rattle.slip.specs.Slips.{accepted}
use Rattle.tape.specs.Opened.{view_of}
use Rattle.schema.specs.Tree.{many}
use Rattle.rows.specs.Kinds.{named, row_there}
use Rattle.rows.specs.Structs.{fieldwise, item_in}
use Rattle.rows.proofs.Alike.{many-named}
use Rattle.rows.proofs.Cells.{spread_item}
use Rattle.rows.proofs.Placing.{got_of, accepted-item, row-item, row_room, item_positions, item-length}
use Rattle.rows.proofs.Sizes.{items_there, filled-there, positions_there, one_position, entries_positions}
use Rattle.rows.proofs.structs.StructRowsRowKind.put.Goals as goal

pub put_item-requires : goal.put_item-requires
put_item-requires g c =
    let r = c.args.reading in
    let p = c.args.p in
    let ns = g.N.NameIndex.names c.args.self.now.index.now in
    let cs = named ns in
    let g-item = accepted-item r ns p c.requires.begun c.requires.accepted in
    let item = got_of (item_in r ns p) g-item in
    let there : row_there r fieldwise cs p ≡ some (item.0 ∷ []) = ap accepted (row-item r ns p c.requires.begun item.0 item.1) in
    let room : c.args.at + 1 ≤ c.args.stride = omega (arith, c.requires.room, ap length (items_there r fieldwise cs p (some (item.0 ∷ [])) there)) in
    record {
      tied = c.requires.ready;
      position = c.requires.position;
      begun = c.requires.begun;
      accepted = g-item;
      room = row_room ns c.args.self.now.fields c.args.stride c.args.at (length c.args.work.now) c.requires.ready.count room c.requires.lent;
      apart = omega arith;
    }

pub returns : goal.returns
returns g c =
    let r = c.args.reading in
    let p = c.args.p in
    let t = view_of r.rows.tape in
    let o = r.rows.tape.opened in
    let ns = g.N.NameIndex.names c.args.self.now.index.now in
    let cs = named ns in
    let item = got_of (item_in r ns p) (accepted-item r ns p c.requires.begun c.requires.accepted) in
    let there : row_there r fieldwise cs p ≡ some (item.0 ∷ []) = ap accepted (row-item r ns p c.requires.begun item.0 item.1) in
    let one = items_there r fieldwise cs p (some (item.0 ∷ [])) there in
    let room : c.args.at + 1 ≤ c.args.stride = omega (arith, c.requires.room, ap length one) in
    let es = entries_positions t o p c.requires.position r.settings.list_rows c.requires.begun in
    record {
      count = sym (ap length one);
      filled = filled-there r fieldwise cs p (some (item.0 ∷ [])) there
          (spread_item (many cs) c.args.stride c.args.at item.0 c.args.work.now c.put_item.new.work (c.put_item.ensures item.0 item.1) (omega arith) (item-length r ns p o es item.0 item.1 ∙ sym (many-named ns)));
      positions = positions_there r fieldwise cs p (some (item.0 ∷ [])) there t (one_position t o item.0 (item_positions r ns p o es item.0 item.1));
    }
