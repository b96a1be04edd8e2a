-- The first entry that is no position.
use Rattle.std.proofs.Common.{◌≡◌, ℕ, zero, suc, ◌+◌, Bool, true, false, not, cond, List, [], ◌∷◌, Option, Some, None, refl, le_of_suc-le-suc, arith}
use Rattle.std.specs.List.{position_from}
use Rattle.slip.specs.Slips.{Got, refuse, got, slip}
use Rattle.tape.specs.View.{TapeView, is_position}
use Rattle.laws.specs.Shelf.{bad_position}
use Rattle.nodes.specs.Contract.{Positions}

module _ (t : TapeView) where
  -- whether an entry is no position
  abbrev pub is_bad : ℕ → Bool
  is_bad p = not (is_position t p)

  -- the refusal of the entry that was found
  abbrev pub told : Option ℕ → Got (Unit {0})
  told None = got tt
  told (Some i) = refuse (slip 3 0 i)

  pub found : (i : ℕ) (ps : List ℕ) → told (position_from is_bad i ps) ≡ bad_position t i ps
  found i [] = refl
  found i (p ∷ ps) = go (is_position t p) (found (i + 1) ps)
    where
      go : (b : Bool) → told (position_from is_bad (i + 1) ps) ≡ bad_position t (i + 1) ps → told (cond (not b) (Some i) (position_from is_bad (i + 1) ps)) ≡ cond b (bad_position t (i + 1) ps) (refuse (slip 3 0 i))
      go true h = h
      go false h = refl

  -- where none is bad, all are positions
  pub none_bad : (i : ℕ) (ps : List ℕ) → bad_position t i ps ≡ got tt → Positions t ps
  none_bad i [] e = λ k h. absurd (omega arith)
  none_bad i (p ∷ ps) e = go (is_position t p) refl e (none_bad (i + 1) ps)
    where
      go : (b : Bool) → is_position t p ≡ b → cond b (bad_position t (i + 1) ps) (refuse (slip 3 0 i)) ≡ got tt → (bad_position t (i + 1) ps ≡ got tt → Positions t ps) → Positions t (p ∷ ps)
      go true q h under zero l = q
      go true q h under (suc k) l = under h k (le_of_suc-le-suc l)
      go false q h under k l = absurd (let z : ◌≡◌ {A = ℕ} 0 1 = cc in omega arith)
