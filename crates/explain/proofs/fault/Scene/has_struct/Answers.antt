use Rattle.tape.specs.Opened.{view_of}
use Rattle.explain.specs.Way.{is_struct}
use Rattle.explain.proofs.Texts.{kind_there}
use Rattle.explain.proofs.fault.Scene.has_struct.Goals as goal

pub returns-then-has : goal.returns-then-has
returns-then-has c root r = kind_there (view_of c.args.self.tape) r c.args.node c.args.p is_struct (c.if-has.ensures root r) c.kind.ensures c.is_struct.ensures
