-- The whole number nearest to a fraction.
use Rattle.std.specs.Prelude.{◌≡◌, ℕ, ◌+◌, ◌-◌, ◌*◌, ◌/◌, ◌%◌, ◌≤◌, cond, ◌==◌, nat_lt}
use Rattle.thousandths.specs.Ties.{ties}

-- how far apart two numbers are
abbrev pub apart : ℕ → ℕ → ℕ
apart x y = (x - y) + (y - x)

-- m is the whole number nearest to a / b: none is nearer, and halfway between two it is the one that `ties` names
pub record Nearest (a b m : ℕ) : Type 0 where
  pub near : (k : ℕ) → apart (m * b) a ≤ apart (k * b) a
  pub tie : (n : ℕ) → 2 * a ≡ (2 * n + 1) * b → m ≡ ties n

-- that number, computed: from the whole part of a / b and what is left
abbrev pub nearest_to : ℕ → ℕ → ℕ
nearest_to a b = cond (nat_lt (2 * (a % b)) b) (a / b) (cond (2 * (a % b) == b) (ties (a / b)) (a / b + 1))
