-- The nearest whole number: there is one, and no other.
use Rattle.std.proofs.Common.{◌≡◌, ℕ, ◌+◌, ◌*◌, ◌/◌, ◌%◌, ◌<◌, ◌≤◌, sym, ap, ◌∙◌, subst, ⊎_elim, mul-le-mul_right, mod-lt, mul_assoc, add-mul, one-mul, div-add-mod', arith}
use Rattle.std.proofs.lemmas.Bool.{cases_lt, cases_order}
use Rattle.thousandths.specs.Ties.{ties}
use Rattle.thousandths.specs.Nearest.{Nearest, apart, nearest_to}
use Rattle.thousandths.proofs.Halves.{ties_near}

steps : (n q b : ℕ) → n < q → n * b + b ≤ q * b
steps n q b h = omega (arith, add-mul n 1 b, one-mul b, mul-le-mul_right {m = n + 1} {n = q} b (omega arith))

odd : (n b : ℕ) → (2 * n + 1) * b ≡ 2 * (n * b) + b
odd n b = omega (arith, add-mul (2 * n) 1 b, one-mul b, mul_assoc 2 n b)

next : (n b : ℕ) → (n + 1) * b ≡ n * b + b
next n b = omega (arith, add-mul n 1 b, one-mul b)

-- a is q * b and r left
record Left (a b q r : ℕ) : Type 0 where
  whole : q * b + r ≡ a
  less : r < b

left : (a b : ℕ) → 0 < b → Left a b (a / b) (a % b)
left a b h = record { whole = div-add-mod' a b; less = mod-lt a h }

near_low : (a b q r : ℕ) → Left a b q r → 2 * r ≤ b → (k : ℕ) → apart (q * b) a ≤ apart (k * b) a
near_low a b q r l h k =
    ⊎_elim (λ (lt : k < q). omega (arith, steps k q b lt)) (λ (le : q ≤ k). ⊎_elim (λ (lt : q < k). omega (arith, steps q k b lt)) (λ (ge : k ≤ q). let e : k * b ≡ q * b = ap (λ (n : ℕ). n * b) (omega arith) in omega arith) (cases_lt q k)) (cases_lt k q)

near_high : (a b q r : ℕ) → Left a b q r → b ≤ 2 * r → (k : ℕ) → apart ((q + 1) * b) a ≤ apart (k * b) a
near_high a b q r l h k =
    let n = next q b in
    ⊎_elim (λ (lt : k < q). omega (arith, steps k q b lt)) (λ (le : q ≤ k). ⊎_elim (λ (lt : q < k). omega (arith, steps q k b lt)) (λ (ge : k ≤ q). let e : k * b ≡ q * b = ap (λ (n : ℕ). n * b) (omega arith) in omega arith) (cases_lt q k)) (cases_lt k q)

-- a tie is where half of b is left
tie_at : (a b q r n : ℕ) → Left a b q r → 2 * a ≡ (2 * n + 1) * b → (n ≡ q) × (2 * r ≡ b)
tie_at a b q r n l h =
    let o = odd n b in
    ⊎_elim (λ (lt : n < q). absurd (omega (arith, steps n q b lt))) (λ (le : q ≤ n). ⊎_elim (λ (lt : q < n). absurd (omega (arith, steps q n b lt))) (λ (ge : n ≤ q). let e : n * b ≡ q * b = ap (λ (n : ℕ). n * b) (omega arith) in (omega arith, omega arith)) (cases_lt q n)) (cases_lt n q)

half_at : (a b q r : ℕ) → Left a b q r → 2 * r ≡ b → 2 * a ≡ (2 * q + 1) * b
half_at a b q r l h = omega (arith, odd q b)

pub low_is : (a b : ℕ) → 2 * (a % b) < b → nearest_to a b ≡ a / b
low_is a b h = grind arith

pub half_is : (a b : ℕ) → 2 * (a % b) ≡ b → nearest_to a b ≡ ties (a / b)
half_is a b h = grind arith

pub high_is : (a b : ℕ) → b < 2 * (a % b) → nearest_to a b ≡ a / b + 1
high_is a b h = grind arith

nearest_low : (a b q r : ℕ) → Left a b q r → 2 * r < b → Nearest a b q
nearest_low a b q r l h =
    record { near = near_low a b q r l (omega arith); tie = λ n e. absurd (omega (arith, tie_at a b q r n l e)) }

nearest_half : (a b q r : ℕ) → Left a b q r → 2 * r ≡ b → Nearest a b (ties q)
nearest_half a b q r l h =
    record {
      near = λ k. let P : ℕ → Type 0 = λ m. apart (m * b) a ≤ apart (k * b) a in
          ⊎_elim (λ (e : ties q ≡ q). subst P (sym e) (near_low a b q r l (omega arith) k)) (λ (e : ties q ≡ q + 1). subst P (sym e) (near_high a b q r l (omega arith) k)) (ties_near q);
      tie = λ n e. ap ties (sym (tie_at a b q r n l e).0);
    }

nearest_high : (a b q r : ℕ) → Left a b q r → b < 2 * r → Nearest a b (q + 1)
nearest_high a b q r l h =
    record { near = near_high a b q r l (omega arith); tie = λ n e. absurd (omega (arith, tie_at a b q r n l e)) }

pub nearest_is : (a b : ℕ) → 0 < b → Nearest a b (nearest_to a b)
nearest_is a b h =
    let l = left a b h in
    let P : ℕ → Type 0 = λ m. Nearest a b m in
    ⊎_elim (λ (e : 2 * (a % b) ≡ b). subst P (sym (half_is a b e)) (nearest_half a b _ _ l e))
    (⊎_elim (λ (e : 2 * (a % b) < b). subst P (sym (low_is a b e)) (nearest_low a b _ _ l e)) (λ (e : b < 2 * (a % b)). subst P (sym (high_is a b e)) (nearest_high a b _ _ l e)))
    (cases_order (2 * (a % b)) b)

-- and no other number is
only_low : (a b q r m : ℕ) → Left a b q r → 2 * r < b → Nearest a b m → m ≡ q
only_low a b q r m l h n =
    let c = n.near q in
    ⊎_elim (λ (lt : m < q). absurd (omega (arith, steps m q b lt))) (λ (le : q ≤ m). ⊎_elim (λ (lt : q < m). absurd (omega (arith, steps q m b lt))) (λ (ge : m ≤ q). omega arith) (cases_lt q m)) (cases_lt m q)

only_high : (a b q r m : ℕ) → Left a b q r → b < 2 * r → Nearest a b m → m ≡ q + 1
only_high a b q r m l h n =
    let c = n.near (q + 1) in
    let e = next q b in
    ⊎_elim (λ (lt : m < q + 1). ⊎_elim (λ (lt' : m < q). absurd (omega (arith, steps m q b lt'))) (λ (ge : q ≤ m). let s : m * b ≡ q * b = ap (λ (n : ℕ). n * b) (omega arith) in absurd (omega arith)) (cases_lt m q)) (λ (le : q + 1 ≤ m). ⊎_elim (λ (lt : q + 1 < m). absurd (omega (arith, steps (q + 1) m b lt))) (λ (ge : m ≤ q + 1). omega arith) (cases_lt (q + 1) m)) (cases_lt m (q + 1))

pub nearest_only : (a b m : ℕ) → 0 < b → Nearest a b m → m ≡ nearest_to a b
nearest_only a b m h n =
    let l = left a b h in
    ⊎_elim (λ (e : 2 * (a % b) ≡ b). n.tie (a / b) (half_at a b _ _ l e) ∙ sym (half_is a b e))
    (⊎_elim (λ (e : 2 * (a % b) < b). only_low a b _ _ m l e n ∙ sym (low_is a b e)) (λ (e : b < 2 * (a % b)). only_high a b _ _ m l e n ∙ sym (high_is a b e)))
    (cases_order (2 * (a % b)) b)

pub nearest_le : (a b m n : ℕ) → 0 < b → Nearest a b m → a ≤ n * b → m ≤ n
nearest_le a b m n h near le =
    let c = near.near n in
    ⊎_elim (λ (lt : n < m). absurd (omega (arith, steps n m b lt))) (λ (ge : m ≤ n). ge) (cases_lt n m)
