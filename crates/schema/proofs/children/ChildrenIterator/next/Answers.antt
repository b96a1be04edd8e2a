use Rattle.std.proofs.Common.{arith}
use Rattle.schema.proofs.Nodes.{held_written}
use Rattle.schema.proofs.Siblings.{siblings_front}
use Rattle.schema.proofs.children.ChildrenIterator.next.Goals as goal

pub end-self-requires : goal.end-self-requires
end-self-requires c = (held_written (siblings_front c.args.self.now.held (omega arith)).held).within

pub invariant_of-self : goal.invariant_of-self
invariant_of-self c = record { held = rw c.end-self.ensures.said (siblings_front c.args.self.now.held (omega arith)).others }
