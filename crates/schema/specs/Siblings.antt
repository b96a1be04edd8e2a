-- Trees that stand one after another.
use Rattle.std.specs.Prelude.{◌≡◌, ℕ, zero, suc, List, [], ◌∷◌}
use Rattle.schema.specs.Tree.{Fields, many}
use Rattle.schema.specs.Layout.{end_at}
use Rattle.schema.specs.Held.{HeldIn}

-- k trees are held from record i on
pub record Siblings (rs ns : List ℕ) (i k : ℕ) : Type 0 where
  pub fields : Fields
  pub held : HeldIn rs ns i fields
  pub counted : many fields ≡ k

-- their numbers: each where the one before it ends
abbrev pub siblings : List ℕ → ℕ → ℕ → List ℕ
siblings rs i zero = []
siblings rs i (suc k) = i ∷ siblings rs (end_at rs i) k
