use Rattle.std.proofs.Common.{sym, ap, ◌∙◌, length}
use Rattle.schema.specs.declared.kind.Kind.TheVariants.{Branch as a_branch}
use Rattle.bare.proofs.Signs.{fixed_slot}
use Rattle.bare.proofs.hidden.Goals as goal

pub bounds-positions-slot-in-Branch-Fixed : goal.bounds-positions-slot-in-Branch-Fixed
bounds-positions-slot-in-Branch-Fixed g c =
    let f = c.requires.slot in
    let a = c.in-Branch-Fixed in
    (fixed_slot f.0 a.count (length c.args.visit.rows.positions.now) c.args.slot (sym (a.is ∙ ap a_branch a.field-0-is) ∙ c.kind.ensures f.0 f.1) f.2).1
