use Rattle.std.proofs.Common.{◌≡◌, ℕ, List}
use Rattle.slip.specs.Slips.{Got}
use Rattle.tape.specs.Ahead.{pairs_rest}
use Rattle.tape.specs.Opened.{view_of}
use Rattle.batch.specs.Rows.{placed}
use Rattle.rows.specs.Kinds.{numbered}
use Rattle.rows.specs.Structs.{column}
use Rattle.rows.proofs.Placing.{Off, elements_of}
use Rattle.rows.proofs.structs.put_values.Given as goal

-- what is ahead, placed over what is written, gives the whole
abbrev pub invariant-loop-name : goal.invariant-loop-name
invariant-loop-name g l =
    let over : List (ℕ × ℕ) → List ℕ → Got (List ℕ) = λ ps work. placed l.reading.settings (view_of l.reading.rows.tape) (numbered l.reading.node) (g.N.NameIndex.names l.index) (elements_of ps) (column work l.place l.step l.fields) in
    (goal.iterator-loop-name g).can_next l.name-iterator
    × (goal.iterator-loop-name g).is_finite l.name-iterator
    × (over (pairs_rest l.name-iterator) l.work ≡ over (pairs_rest l.initial.name-iterator) l.initial.work)
    × Off l.place l.step l.fields l.initial.work l.work
