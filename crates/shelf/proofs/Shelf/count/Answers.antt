use Rattle.std.proofs.Common.{◌∙◌, ap₂}
use Rattle.shelf.proofs.Shelf.count.Goals as goal

pub returns-clause-held : goal.returns-clause-held
returns-clause-held g c = λ root size held h. ap₂ (λ a b. (a, b)) (c.len.ensures.value ∙ h.many) (c.free.ensures.held root size held h)
