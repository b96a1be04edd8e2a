use Rattle.std.proofs.Common.{ℕ, length, replicate, sym, ap, ◌∙◌}
use Rattle.tape.specs.Opened.{view_of}
use Rattle.tape.specs.View.{entries}
use Rattle.rows.specs.Kinds.{numbered}
use Rattle.rows.proofs.Placing.{accepts, placed_lax, item-placed}
use Rattle.rows.proofs.structs.check_item.Goals as goal

pub returns-then-reading-2 : goal.returns-then-reading-2
returns-then-reading-2 g c =
    let ns = g.N.NameIndex.names c.args.index.now in
    c.check_names.ensures (replicate {A = ℕ} (length ns) 0) ∙ ap accepts (sym (item-placed c.args.reading ns c.args.p c.if-reading.false))

pub returns : goal.returns
returns g c =
    let r = c.args.reading in
    let t = view_of r.rows.tape in
    let ns = g.N.NameIndex.names c.args.index.now in
    placed_lax r.settings t (numbered r.node) ns c.if-reading-2.false (entries t c.args.p) (replicate {A = ℕ} (length ns) 0)
    ∙ ap accepts (sym (item-placed r ns c.args.p c.if-reading.false))
