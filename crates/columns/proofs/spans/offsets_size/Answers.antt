use Rattle.std.proofs.Common.{ℕ, ◌+◌, ◌*◌, sym, ap, ◌∙◌}
use Rattle.batch.specs.Format.{width}
use Rattle.columns.proofs.Begins.{offsets_of_list, offsets_of_view, offsets_of_map}
use Rattle.columns.proofs.spans.offsets_size.Goals as goal

pub returns-in-List-false-default : goal.returns-in-List-false-default
returns-in-List-false-default c = ap (λ (w : ℕ). w * (c.args.slots + 1)) (c.offset_size-in-List-false-default.ensures ∙ ap width c.in-List-false-default.wide-is) ∙ offsets_of_list _ _ _ c.args.slots c.in-List-false-default.is (sym c.in-List-false-default.view-is ∙ c.in-List-false-default.view-test)

pub returns-in-List-true-default : goal.returns-in-List-true-default
returns-in-List-true-default c = ap (λ (w : ℕ). w * c.args.slots) (c.offset_size.ensures ∙ ap width c.in-List-true-default.wide-is) ∙ offsets_of_view _ _ _ c.args.slots c.in-List-true-default.is (sym c.in-List-true-default.view-is ∙ c.in-List-true-default.view-test)

pub returns-in-Map : goal.returns-in-Map
returns-in-Map c = offsets_of_map _ c.args.slots c.in-Map.is
