use Rattle.std.proofs.Common.{◌≡◌, ◌∙◌}
use Rattle.schema.specs.Tree.{Node, children_of, numbers}
use Rattle.schema.specs.Opened.{NodeOf}
use Rattle.schema.specs.Children.{rest}
use Rattle.schema.proofs.Nodes.{held_at}
use Rattle.schema.proofs.Siblings.{under, numbers_under, few_under, within_under}
use Rattle.schema.proofs.Schema.children.Goals as goal

pub over-requires : goal.over-requires
over-requires c =
    let h = held_at c.args.self.opened.1 c.args.i c.requires in
    under h (c.kind.ensures _ h) (c.count.ensures.node _ h) c.children.ensures

pub returns : goal.returns
returns c =
    let h = held_at c.args.self.opened.1 c.args.i c.requires in
    let given : (t : Node) → NodeOf c.args.self c.args.i t → rest c.over.result ≡ numbers (children_of t) = λ t h. c.over.ensures ∙ numbers_under h (c.kind.ensures t h) (c.count.ensures.node t h) c.children.ensures in
    record { node = given; within = rw (given _ h) (within_under h); few = rw (given _ h) (few_under h) }
