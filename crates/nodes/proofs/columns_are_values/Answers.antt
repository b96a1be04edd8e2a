use Rattle.std.proofs.Common.{map, sym}
use Rattle.batch.specs.Values.{fits, value}
use Rattle.batch.proofs.Worth.{worth, worth_is, each_got}
use Rattle.nodes.proofs.Worths.{cols_are}
use Rattle.nodes.proofs.columns_are_values.Goals as goal

pub returns : goal.returns
returns c = λ st t null free lent n inForce ps top work end e fit. (
  map (worth st t n inForce) ps,
  each_got (value st t n inForce) (worth st t n inForce) (fits st t n inForce) (worth_is st t n inForce) ps fit,
  cols_are st t null free lent n inForce ps top work end (sym e),
)
