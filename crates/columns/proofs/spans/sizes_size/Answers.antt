use Rattle.std.proofs.Common.{ℕ, ◌*◌, sym, ap, ◌∙◌}
use Rattle.batch.specs.Format.{width}
use Rattle.columns.proofs.Begins.{sizes_of_view}
use Rattle.columns.proofs.spans.sizes_size.Goals as goal

pub returns-in-List-true-default : goal.returns-in-List-true-default
returns-in-List-true-default c = ap (λ (w : ℕ). w * c.args.slots) (c.offset_size.ensures ∙ ap width c.in-List-true-default.wide-is) ∙ sizes_of_view _ _ _ c.args.slots c.in-List-true-default.is (sym c.in-List-true-default.view-is ∙ c.in-List-true-default.view-test)
