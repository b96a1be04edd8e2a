use Rattle.batch.proofs.Cuts.{cut_is}
use Rattle.batch.proofs.record.cut.Goals as goal

pub returns : goal.returns
returns c = cut_is c.args.bytes.now c.args.place c.args.size c.min-from.result c.min-to.result c.min-from.ensures c.min-to.ensures
