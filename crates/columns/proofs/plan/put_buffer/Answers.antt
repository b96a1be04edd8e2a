use Rattle.std.proofs.Common.{◌≡◌, arith}
use Rattle.std.proofs.lemmas.Bool.Decides.{nat_tests}
use Rattle.batch.specs.Batch.{lying_at}
use Rattle.columns.proofs.Records.{two_words}
use Rattle.columns.proofs.plan.put_buffer.Goals as goal

pub returns : goal.returns
returns c =
    let lies : c.if-size-eq0.lies ≡ lying_at c.args.place c.args.size = grind (arith, nat_tests) in
    two_words c.args.area.now _ _ c.args.at _ _ c.args.size c.requires.room lies c.write_at.ensures c.write_at-2.ensures
