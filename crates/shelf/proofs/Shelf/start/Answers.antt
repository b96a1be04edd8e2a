use Rattle.std.proofs.Common.{◌≡◌, ◌-◌, slice_index_or, arith, rules}
use Rattle.shelf.specs.Standing.{start_in}
use Rattle.shelf.proofs.Shelf.start.Goals as goal

pub returns-else-i-eq0-clause-within : goal.returns-else-i-eq0-clause-within
returns-else-i-eq0-clause-within g c =
    let e : slice_index_or c.deref.result.now (c.args.i - 1) 0 ≡ start_in c.args.self.now.ends.items c.args.i = search rules in
    omega (arith, e, c.args.self.now.inside c.args.i c.requires)
