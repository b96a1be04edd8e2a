-- Where a number lies halfway between two whole ones.
use Rattle.std.specs.Prelude.{ℕ, ◌+◌}

-- which of the sizes n and n + 1 stands for the one halfway between them: the one away from zero
abbrev pub ties : ℕ → ℕ
ties n = n + 1
