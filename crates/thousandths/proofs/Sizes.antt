-- How large the numbers of a reading are.
use Rattle.std.proofs.Common.{◌≡◌, ℕ, ◌+◌, ◌*◌, ◌^◌, ◌<◌, ◌≤◌, List, length, ap, ◌∙◌, mul-le-mul, arith}
use native.Mathlib.Nat.{pow-le-pow_right}
use lib.Arith.{digits_lt}
use Rattle.std.specs.Str.Parse.{digits_value, AllDigits}
use Rattle.std.proofs.lemmas.Int.Digits.{digits_value-lt}
use Rattle.std.proofs.lemmas.Str.Parse.{digits_value_short, numerals_by_value, tells_digits}
use Rattle.thousandths.specs.Decimal.{unit}
use Rattle.thousandths.specs.Nearest.{nearest_to}
use Rattle.thousandths.specs.Split.{size_of}
use Rattle.thousandths.proofs.Rounds.{nearest_is, nearest_le}
use Rattle.thousandths.proofs.Telling.{unit_pos}

pub record Sized (w d : List ℕ) (x u y : ℕ) : Type 0 where
  pub some : 0 < u
  pub short : u ≤ 10 ^ 18
  pub small : 1000 * (x * u + y) < 10 ^ 33
  pub same : nearest_to (1000 * (x * u + y)) u ≡ size_of w d
  pub bound : size_of w d ≤ 10 ^ 15

pub sized : (w d : List ℕ) (x u y : ℕ) → AllDigits 10 w → length w ≤ 12 → AllDigits 10 d → length d ≤ 18 → x ≡ digits_value 10 w → u ≡ unit d → y ≡ digits_value 10 d → Sized w d x u y
sized w d x u y dw few dd places ex eu ey =
    let a = digits_value_short (numerals_by_value _ tells_digits) w 12 dw few in
    let b = digits_value-lt 10 d dd in
    let p = unit_pos d in
    let s : unit d ≤ 10 ^ 18 = pow-le-pow_right {n = 10} (omega arith) {i = length d} {j = 18} places in
    let t : digits_value 10 w * unit d + digits_value 10 d < 10 ^ 12 * unit d = digits_lt a b in
    let m : 10 ^ 12 * unit d ≤ 10 ^ 12 * 10 ^ 18 = mul-le-mul {n₁ = 10 ^ 12} {m₁ = unit d} {n₂ = 10 ^ 12} {m₂ = 10 ^ 18} (omega arith) s in
    let e : x * u + y ≡ digits_value 10 w * unit d + digits_value 10 d = cc in
    record {
      some = omega arith;
      short = omega arith;
      small = omega arith;
      same = ap (λ (n : ℕ). nearest_to (1000 * n) u) e ∙ ap (nearest_to (1000 * (digits_value 10 w * unit d + digits_value 10 d))) eu;
      bound = nearest_le _ (unit d) _ (10 ^ 15) p (nearest_is _ (unit d) p) (omega arith);
    }
