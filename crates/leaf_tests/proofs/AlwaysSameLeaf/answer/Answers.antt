use Rattle.std.proofs.Common.{sym, ap}
use Rattle.std.proofs.lemmas.List.{length-replicate}
use Rattle.leaf.specs.declared.layout.Reply.TheVariants.{Value}
use Rattle.leaf_tests.proofs.AlwaysSameLeaf.answer.Goals as goal

pub returns : goal.returns
returns c = ap Value (sym (length-replicate c.args.self.now.size c.args.self.now.byte))
