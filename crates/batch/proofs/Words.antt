-- A number read from a copy with zeros behind it.
use Rattle.std.proofs.Common.{◌≡◌, ℕ, zero, suc, ◌+◌, ◌-◌, ◌*◌, ◌≤◌, List, [], ◌∷◌, ◌++◌, length, take, drop, replicate, refl, ap, ◌∙◌, zero-add, arith}
use Rattle.std.proofs.lemmas.List.{length-take, drop-replicate}
use Rattle.octets.specs.Lists.{part, splice}
use Rattle.octets.specs.Numbers.{number, le_at}

number_of_zeros : (w k : ℕ) → number (take w (replicate k 0)) ≡ 0
number_of_zeros zero k = refl
number_of_zeros (suc w) zero = refl
number_of_zeros (suc w) (suc k) = omega (arith, number_of_zeros w k)

number_before_zeros : (w k : ℕ) (p : List ℕ) → length p ≤ w → number (take w (p ++ replicate k 0)) ≡ number p
number_before_zeros w k [] h = number_of_zeros w k
number_before_zeros zero k (b ∷ bs) h = absurd (omega arith)
number_before_zeros (suc w) k (b ∷ bs) h = ap (λ n. b + 256 * n) (number_before_zeros w k bs (omega arith))

-- reading from a copy with zeros behind it reads what was there, and zeros past its end
pub read_copy : (w v : ℕ) (bytes : List ℕ) (at : ℕ) (cut all : List ℕ) → all ≡ splice (replicate 8 0) 0 cut → cut ≡ part bytes at v → v ≡ w → le_at w all 0 ≡ le_at w bytes at
read_copy w v bytes at cut all e i j =
    let p = part bytes at w in
    let short : length p ≤ w = omega (arith, length-take w (drop at bytes)) in
    let zeros : drop (0 + length p) (replicate 8 0) ≡ replicate (8 - length p) 0 = ap (λ m. drop m (replicate 8 0)) (zero-add (length p)) ∙ drop-replicate (length p) 8 0 in
    rw (e, i, j) (ap (λ zs. number (take w (p ++ zs))) zeros ∙ number_before_zeros w (8 - length p) p short)
