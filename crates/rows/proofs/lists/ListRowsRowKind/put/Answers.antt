use Rattle.std.proofs.Common.{◌≡◌, [], ◌∷◌, length, sym, ap, ◌∙◌, arith}
use mathlib.Core.Option.{some}
use Rattle.std.proofs.lemmas.List.{length-map}
use Rattle.slip.specs.Slips.{accepted}
use Rattle.tape.specs.Opened.{view_of}
use Rattle.tape.specs.View.{entries}
use Rattle.tape.proofs.Walks.{list_law}
use Rattle.schema.specs.declared.kind.Branch.TheVariants.{List as list}
use Rattle.batch.specs.Rows.{singles}
use Rattle.rows.specs.Kinds.{named, row_there}
use Rattle.rows.proofs.Cells.{spread_singles}
use Rattle.rows.proofs.Starts.{bracket-there}
use Rattle.rows.proofs.Sizes.{items_there, filled-there, positions_there, singles_positions}
use Rattle.rows.proofs.lists.ListRowsRowKind.put.Goals as goal

pub put_entries-requires : goal.put_entries-requires
put_entries-requires c =
    let r = c.args.reading in
    let p = c.args.p in
    let es = entries (view_of r.rows.tape) p in
    let b = list c.args.self.now.view c.args.self.now.wide in
    let cs = named ([] ∷ []) in
    let there : row_there r b cs p ≡ some (singles es) = ap accepted (bracket-there r cs p b c.requires.begun) in
    record {
      position = c.requires.position;
      list = c.requires.begun;
      room = λ j h. omega (arith, c.requires.room, c.requires.lent, ap length (items_there r b cs p (some (singles es)) there), length-map es (λ e. e ∷ []));
      apart = omega arith;
    }

pub returns : goal.returns
returns c =
    let r = c.args.reading in
    let p = c.args.p in
    let t = view_of r.rows.tape in
    let es = entries t p in
    let b = list c.args.self.now.view c.args.self.now.wide in
    let cs = named ([] ∷ []) in
    let there : row_there r b cs p ≡ some (singles es) = ap accepted (bracket-there r cs p b c.requires.begun) in
    record {
      count = c.put_entries.ensures.count ∙ sym (length-map es (λ e. e ∷ [])) ∙ ap length (sym (items_there r b cs p (some (singles es)) there));
      filled = filled-there r b cs p (some (singles es)) there (spread_singles c.args._stride c.args.at es c.args.work.now c.put_entries.new.work c.put_entries.ensures.spread);
      positions = positions_there r b cs p (some (singles es)) there t (singles_positions t r.rows.tape.opened es (list_law t r.rows.tape.opened p c.requires.position c.requires.begun).positions);
    }
