use Rattle.std.proofs.Common.{sym}
use Rattle.entry.proofs.enter_list.Goals as goal

pub returns-then-kind : goal.returns-then-kind
returns-then-kind c = λ f cs n m. c.enter.ensures f cs n (sym m)

pub returns-else-kind : goal.returns-else-kind
returns-else-kind c = λ f cs n m. c.enter-else-kind.ensures f cs n (sym m)
