use Rattle.std.proofs.Common.{ℕ, replicate, sym, ◌∙◌, subst, arith}
use lib.ListN.{length-replicate}
use Rattle.schema.specs.Tree.{many}
use Rattle.rows.specs.Filling.{Spread}
use Rattle.rows.specs.Kinds.{named}
use Rattle.rows.proofs.Alike.{many-named}
use Rattle.rows.proofs.Cells.{spread_item}
use Rattle.rows.proofs.Placing.{row_room}
use Rattle.rows.proofs.structs.StructRowsRowKind.put_null.Goals as goal

pub put_zeros-requires : goal.put_zeros-requires
put_zeros-requires g c =
    let ns = g.N.NameIndex.names c.args.self.now.index.now in
    record { room = row_room ns c.args.self.now.fields c.args.stride c.args.at _ c.requires.ready.count c.requires.room c.requires.lent; apart = omega (arith, c.requires.room) }

pub returns : goal.returns
returns g c =
    let ns = g.N.NameIndex.names c.args.self.now.index.now in
    let n = many (named ns) in
    let spread = subst (λ m. Spread c.args.at c.args.stride (replicate {A = ℕ} m 0) c.args.work.now c.put_zeros.new.work) (c.requires.ready.count ∙ sym (many-named ns)) c.put_zeros.ensures in
    spread_item n c.args.stride c.args.at (replicate {A = ℕ} n 0) c.args.work.now c.put_zeros.new.work spread (omega (arith, c.requires.room)) (length-replicate {A = ℕ} n 0)
