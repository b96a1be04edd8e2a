use Rattle.std.proofs.Common.{◌-◌, length, ap, ◌∙◌}
use Rattle.shelf.proofs.Holding.{free_is}
use Rattle.shelf.proofs.Shelf.free.Goals as goal

pub returns-clause-held : goal.returns-clause-held
returns-clause-held g c = λ root size held h. ap (λ n. length c.args.self.now.page.now - n) c.end.ensures.value ∙ free_is h
