-- What entering a leaf answers, and what it leaves in the area.
use Rattle.std.specs.Prelude.{◌≡◌, ℕ, true, List, [], ◌∷◌, length, IfOk, IfErr, Result}
use Rattle.std.proofs.Math.Option.{Option}
use Rattle.slip.specs.declared.Fault.{Fault}
use Rattle.slip.specs.Slips.{Got, got, then, each, answer_of}
use Rattle.tape.specs.View.{TapeView, Elem, element_at}
use Rattle.leaf.specs.Meaning.{Meaning, value, fitting}
use Rattle.batch.specs.Values.{kept}
use Rattle.batch.specs.Batch.{leaf_column}
use Rattle.columns.specs.Areas.{written, space}

-- what is kept of a leaf's answers at some positions, or the first refusal
abbrev pub answers : Meaning → TapeView → (node : ℕ) → List ℕ → Got (List (Option (List ℕ)))
answers m t node ps = each (λ p. kept node p (m.answer (element_at t p))) ps

-- every value fits the layout
abbrev pub AllFit : Meaning → Type 0
AllFit m = (e : Elem) (bs : List ℕ) → m.answer e ≡ value bs → fitting m.layout bs ≡ true

-- the first refusal of a row, or no space, or the place behind the column, which is then written; a refusal writes nothing
pub record LeafEntered (m : Meaning) (width : ℕ) (t : TapeView) (node top : ℕ) (ps from to : List ℕ) (r : Result ℕ Fault) : Type 0 where
  pub outcome : answer_of r ≡ then (answers m t node ps) (λ os. space (length from) 0 node top (leaf_column m.layout width os) 0)
  pub content : IfOk r (λ _. (os : List (Option (List ℕ))) → answers m t node ps ≡ got os → to ≡ written from node top (leaf_column m.layout width os ∷ []))
  pub unwritten : IfErr r (λ _. to ≡ from)
