-- Bits in bytes, and numbers in a buffer.
use Rattle.std.proofs.Common.{◌≡◌, ℕ, zero, suc, ◌+◌, ◌*◌, ◌/◌, ◌%◌, ◌^◌, ◌<◌, ◌≤◌, Bool, true, false, cond, List, [], ◌∷◌, map, length, get_or, drop, sym, refl, ap, ◌∙◌, mul_comm, pow-suc, arith, get_or-drop, get_or-take}
use native.Mathlib.Nat.{zero-div, div-div-eq-div-mul}
use lib.ListN.{length-map}
use Rattle.std.specs.List.{AllByRecursion}
use Rattle.std.proofs.lemmas.List.{get_or-map, get_or_past}
use Rattle.octets.specs.Numbers.{NumbersBack, BitsBack, SpareBits, le, number, weighed, packed, bitmap_bit, numbers, number_in}
use Rattle.octets.specs.Lists.{part, between}
use Rattle.octets.proofs.Pieces.{length-le, number-le, part_in, length_even, even_at, length-between, between-at}

pub weighed-bit : (bs : List Bool) (j : ℕ) → weighed bs / 2 ^ j % 2 ≡ cond (get_or bs j false) 1 0
weighed-bit [] j = rw (zero-div (2 ^ j))
weighed-bit (true ∷ bs) zero = omega arith
weighed-bit (false ∷ bs) zero = omega arith
weighed-bit (b ∷ bs) (suc j) =
    let e : (cond b 1 0 + 2 * weighed bs) / 2 ≡ weighed bs = elim b as (λ v. (cond v 1 0 + 2 * weighed bs) / 2 ≡ weighed bs) [ true ↦ omega arith | false ↦ omega arith ] in
    rw (pow-suc 2 j, mul_comm (2 ^ j) 2, ← div-div-eq-div-mul (cond b 1 0 + 2 * weighed bs) 2 (2 ^ j), e) (weighed-bit bs j)

abbrev byte_of : List Bool → ℕ → ℕ
byte_of bs k = weighed (part bs (8 * k) 8)

pub length-packed : (bs : List Bool) → length (packed bs) ≡ (length bs + 7) / 8
length-packed bs = length-map (between 0 ((length bs + 7) / 8)) (byte_of bs) ∙ length-between 0 ((length bs + 7) / 8)

pub packed-at : (bs : List Bool) (j d : ℕ) → j < (length bs + 7) / 8 → get_or (packed bs) j d ≡ weighed (part bs (8 * j) 8)
packed-at bs j d l =
    let n = (length bs + 7) / 8 in
    get_or-map (byte_of bs) (between 0 n) j 0 d (rw length-between l) ∙ ap (byte_of bs) (between-at 0 n j 0 l ∙ omega arith)

bit_any : (bs : List Bool) (k : ℕ) → k / 8 < (length bs + 7) / 8 → bitmap_bit (packed bs) k ≡ cond (get_or bs k false) 1 0
bit_any bs k l =
    let e = packed-at bs (k / 8) 0 l in
    let back : 8 * (k / 8) + k % 8 ≡ k = omega arith in
    rw e (weighed-bit (part bs (8 * (k / 8)) 8) (k % 8)
    ∙ ap (λ b. cond b 1 0) (get_or-take 8 (drop (8 * (k / 8)) bs) (k % 8) false (omega arith) ∙ get_or-drop (8 * (k / 8)) bs (k % 8) false ∙ ap (λ j. get_or bs j false) back))

pub bit_in : BitsBack
bit_in bs k h = bit_any bs k (omega arith)

pub spare_bits : SpareBits
spare_bits bs k h l = bit_any bs k (omega (arith, length-packed bs)) ∙ ap (λ b. cond b 1 0) (get_or_past bs k false h)

all-le : (w : ℕ) (ns : List ℕ) → AllByRecursion (λ xs. length xs ≡ w) (map (le w) ns)
all-le w [] = tt
all-le w (n ∷ ns) = (length-le w n, all-le w ns)

pub length-numbers : (w : ℕ) (ns : List ℕ) → length (numbers w ns) ≡ w * length ns
length-numbers w ns = length_even w (map (le w) ns) (all-le w ns) ∙ ap (λ n. w * n) (length-map ns (le w))

pub number_in_lem : NumbersBack
number_in_lem w ns k h small =
    ap number (even_at w (map (le w) ns) k [] (all-le w ns) (rw length-map h) ∙ get_or-map (le w) ns k 0 [] h) ∙ number-le w (get_or ns k 0) small

-- a buffer where it lies
pub number_where : (w : ℕ) (bytes : List ℕ) (place size j : ℕ) → w * j + w ≤ size → number_in w (part bytes place size) j ≡ number (part bytes (place + w * j) w)
number_where w bytes place size j h = ap number (sym (part_in bytes (part bytes place size) place size (w * j) w refl h))

pub bit_where : (bytes : List ℕ) (place size j : ℕ) → j / 8 < size → bitmap_bit (part bytes place size) j ≡ get_or bytes (place + j / 8) 0 / 2 ^ (j % 8) % 2
bit_where bytes place size j h = ap (λ b. b / 2 ^ (j % 8) % 2) (get_or-take size (drop place bytes) (j / 8) 0 h ∙ get_or-drop place bytes (j / 8) 0)
