use Rattle.std.proofs.Common.{sym, ◌∙◌}
use Rattle.schema.proofs.Nodes.{held_written, held_at}
use Rattle.schema.proofs.Schema.name.Goals as goal

pub name-requires : goal.name-requires
name-requires c = record { within = c.requires; inside = (held_written (held_at c.args.self.opened.1 c.args.i c.requires)).named.inside }

pub returns : goal.returns
returns c = record {
  said = c.name.ensures;
  node = λ t h. c.name.ensures ∙ sym (held_written h).name;
  utf8 = rw c.name.ensures (held_written (held_at c.args.self.opened.1 c.args.i c.requires)).named.utf8;
}
