use Rattle.std.proofs.Common.{sym, ◌∙◌, arith}
use Rattle.tape.specs.Opened.{view_of}
use Rattle.tape.proofs.Walks.{next_law}
use Rattle.listing.proofs.tapes.RowsDisplay.fmt.Goals as goal

pub overflow_sub-elements : goal.overflow_sub-elements
overflow_sub-elements g c =
    let tape = c.args.self.now.tape in
    let ahead = next_law (view_of tape) tape.opened _ (sym c.is_position.ensures ∙ c.if-is_position.true) in
    omega (arith, ahead.0, c.next.ensures)
