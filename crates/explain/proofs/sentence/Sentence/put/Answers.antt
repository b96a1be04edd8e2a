use Rattle.explain.proofs.Joins.{puts_join}
use Rattle.explain.proofs.sentence.Sentence.put.Goals as goal

pub returns-in-WrongKind : goal.returns-in-WrongKind
returns-in-WrongKind c =
    rw c.in-WrongKind.is
    (puts_join (puts_join c.put.ensures (puts_join (rw c.as_bytes.ensures.value at c.put-in-WrongKind.ensures) c.put-in-WrongKind-2.ensures)) c.put-in-WrongKind-3.ensures)

pub returns-in-UnknownColumn : goal.returns-in-UnknownColumn
returns-in-UnknownColumn c =
    rw c.in-UnknownColumn.is
    (puts_join c.put-in-UnknownColumn.ensures (puts_join (rw c.as_bytes-in-UnknownColumn.ensures.value at c.put-in-UnknownColumn-2.ensures) c.put-in-UnknownColumn-3.ensures))

pub returns-in-ExtraColumn : goal.returns-in-ExtraColumn
returns-in-ExtraColumn c = rw c.in-ExtraColumn.is (puts_join c.put-in-ExtraColumn.ensures (puts_join c.number.ensures c.put-in-ExtraColumn-2.ensures))

pub returns-in-FewColumns : goal.returns-in-FewColumns
returns-in-FewColumns c =
    rw c.in-FewColumns.is
    (puts_join c.put-in-FewColumns.ensures
    (puts_join c.number-in-FewColumns.ensures (puts_join c.put-in-FewColumns-2.ensures (puts_join c.number-in-FewColumns-2.ensures c.put-in-FewColumns-3.ensures))))

pub returns-in-WrongCount : goal.returns-in-WrongCount
returns-in-WrongCount c =
    rw c.in-WrongCount.is
    (puts_join c.put-in-WrongCount.ensures (puts_join c.number-in-WrongCount.ensures (puts_join c.put-in-WrongCount-2.ensures c.number-in-WrongCount-2.ensures)))
