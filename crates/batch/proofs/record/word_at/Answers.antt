use Rattle.std.proofs.Common.{◌∙◌}
use Rattle.batch.proofs.Words.{read_copy}
use Rattle.batch.proofs.record.word_at.Goals as goal

pub returns : goal.returns
returns g c = c.read_at.ensures ∙ read_copy g.W.Word.WIDTH c.WIDTH.result c.args.bytes.now c.args.at c.cut.result.now c.copy_at.new.bytes c.copy_at.ensures c.cut.ensures c.WIDTH.ensures
