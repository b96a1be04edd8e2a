use Rattle.tape.specs.Opened.{view_of}
use Rattle.explain.specs.Explanation.{is_fixed}
use Rattle.explain.proofs.Texts.{kind_there}
use Rattle.explain.proofs.fault.Scene.has_fixed.Goals as goal

pub returns-then-has : goal.returns-then-has
returns-then-has c root r = kind_there (view_of c.args.self.tape) r c.args.node c.args.p is_fixed (c.if-has.ensures root r) c.kind.ensures c.is_fixed.ensures
