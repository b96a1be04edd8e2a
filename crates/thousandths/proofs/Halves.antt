-- What the rule for ties is held to: it names one of the two numbers.
use Rattle.std.proofs.Common.{◌≡◌, ℕ, ◌+◌, ◌⊎◌, refl, inr}
use Rattle.thousandths.specs.Ties.{ties}

pub ties_near : (n : ℕ) → (ties n ≡ n) ⊎ (ties n ≡ n + 1)
ties_near n = inr refl
