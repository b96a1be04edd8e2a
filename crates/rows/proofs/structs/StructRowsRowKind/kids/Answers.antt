use Rattle.std.proofs.Common.{sym, ◌∙◌}
use Rattle.rows.proofs.Alike.{many-named}
use Rattle.rows.proofs.structs.StructRowsRowKind.kids.Goals as goal

pub returns : goal.returns
returns g c = record { many = c.requires.count ∙ sym (many-named (g.N.NameIndex.names c.args.self.now.index.now)); few = c.requires.few }
