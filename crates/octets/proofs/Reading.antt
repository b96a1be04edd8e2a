-- Numbers read from bytes, byte by byte.
use Rattle.std.proofs.Common.{◌≡◌, ℕ, zero, suc, ◌+◌, ◌*◌, List, [], ◌∷◌, get_or, refl, ap, arith}
use Rattle.octets.specs.Numbers.{le_at}

pub le_at_none : (w i : ℕ) → le_at w [] i ≡ 0
le_at_none zero i = refl
le_at_none (suc w) zero = refl
le_at_none (suc w) (suc i) = refl

-- the first byte, and the number in those behind it
pub le_at_more : (w : ℕ) (bs : List ℕ) (i : ℕ) → le_at (suc w) bs i ≡ get_or bs i 0 + 256 * le_at w bs (i + 1)
le_at_more w [] zero = omega (arith, le_at_none w 1)
le_at_more w [] (suc i) = omega (arith, le_at_none w (suc i + 1))
le_at_more w (b ∷ bs) zero = refl
le_at_more w (b ∷ bs) (suc i) = let e : suc i + 1 ≡ suc (i + 1) = omega arith in rw e (le_at_more w bs i)

-- a place that is written otherwise
again : (w : ℕ) (bs : List ℕ) (i j : ℕ) → i ≡ j → le_at w bs i ≡ le_at w bs j
again w bs i j e = ap (le_at w bs) e

module _ (bs : List ℕ) (i : ℕ) where
  pub le_at_two : le_at 2 bs i ≡ get_or bs i 0 + get_or bs (i + 1) 0 * 256
  le_at_two = omega (arith, le_at_more 1 bs i, le_at_more 0 bs (i + 1))

  pub le_at_three : (w : ℕ) → le_at (suc (suc (suc (suc w)))) bs i ≡ get_or bs i 0 + get_or bs (i + 1) 0 * 256 + get_or bs (i + 2) 0 * 65536 + get_or bs (i + 3) 0 * 16777216 + 4294967296 * le_at w bs (i + 4)
  le_at_three w =
      let a = le_at_more (suc (suc (suc w))) bs i in
      let b = le_at_more (suc (suc w)) bs (i + 1) in
      let p : i + 1 + 1 ≡ i + 2 = omega arith in
      let c = rw p at b in
      let d = le_at_more (suc w) bs (i + 2) in
      let q : i + 2 + 1 ≡ i + 3 = omega arith in
      let e = rw q at d in
      let f = le_at_more w bs (i + 3) in
      let r : i + 3 + 1 ≡ i + 4 = omega arith in
      let g = rw r at f in
      omega (arith, a, c, e, g)

  pub le_at_four : le_at 4 bs i ≡ get_or bs i 0 + get_or bs (i + 1) 0 * 256 + get_or bs (i + 2) 0 * 65536 + get_or bs (i + 3) 0 * 16777216
  le_at_four = omega (arith, le_at_three 0)

  pub le_at_eight : le_at 8 bs i ≡ le_at 4 bs i + le_at 4 bs (i + 4) * 4294967296
  le_at_eight = omega (arith, le_at_three 4, le_at_four)
