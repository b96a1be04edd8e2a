use Rattle.std.proofs.Common.{◌≡◌, ℕ, List, []}
use Rattle.slip.specs.Slips.{Got}
use Rattle.tape.specs.Ahead.{pairs_rest}
use Rattle.tape.specs.Opened.{view_of}
use Rattle.batch.specs.Rows.{placed}
use Rattle.rows.specs.Kinds.{numbered}
use Rattle.rows.proofs.Placing.{accepts, elements_of}
use Rattle.rows.proofs.structs.check_names.Given as goal

-- what is ahead is taken where all is
abbrev pub invariant-loop-name : goal.invariant-loop-name
invariant-loop-name g l =
    let known : List (ℕ × ℕ) → Got (Unit {0}) = λ ps. accepts (placed l.reading.settings (view_of l.reading.rows.tape) (numbered l.reading.node) (g.N.NameIndex.names l.index) (elements_of ps) []) in
    (goal.iterator-loop-name g).can_next l.name-iterator
    × (goal.iterator-loop-name g).is_finite l.name-iterator
    × (known (pairs_rest l.name-iterator) ≡ known (pairs_rest l.initial.name-iterator))
