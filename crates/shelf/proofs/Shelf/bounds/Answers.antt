use Rattle.std.proofs.Common.{arith, rules}
use Rattle.shelf.proofs.Shelf.bounds.Goals as goal

pub overflow_add-batch : goal.overflow_add-batch
overflow_add-batch g c = let few = c.args.self.now.few in search rules

pub returns-clause-rises : goal.returns-clause-rises
returns-clause-rises g c = omega (arith, c.start.ensures.value, c.start-2.ensures.value, c.args.self.now.rising c.args.batch c.requires)
