-- Numbers and bits held in bytes.
use Rattle.std.specs.Prelude.{◌≡◌, ℕ, zero, suc, ◌+◌, ◌-◌, ◌*◌, ◌/◌, ◌%◌, ◌^◌, ◌<◌, ◌≤◌, Bool, true, false, cond, List, [], ◌∷◌, ◌++◌, map, length, replicate, bit_or, slice_index, slice_index_or, slice_set}
use Rattle.octets.specs.Lists.{part, joined, between}

-- a number in w bytes, the least byte first
abbrev pub le : ℕ → ℕ → List ℕ
le zero n = []
le (suc w) n = (n % 256) ∷ le w (n / 256)

abbrev pub number : List ℕ → ℕ
number [] = 0
number (b ∷ bs) = b + 256 * number bs

-- the number in the w bytes from a place on
abbrev pub le_at : (w : ℕ) → List ℕ → ℕ → ℕ
le_at w bytes place = number (part bytes place w)

-- the next multiple of 8
abbrev pub padded : ℕ → ℕ
padded n = 8 * ((n + 7) / 8)

abbrev pub pad : List ℕ → List ℕ
pad bs = bs ++ replicate (padded (length bs) - length bs) 0

-- numbers of w bytes each, and the one with the index j
abbrev pub numbers : (w : ℕ) → List ℕ → List ℕ
numbers w ns = joined (map (le w) ns)

abbrev pub number_in : (w : ℕ) → List ℕ → ℕ → ℕ
number_in w bytes j = le_at w bytes (w * j)

-- a byte of up to eight bits, the lowest first
abbrev pub weighed : List Bool → ℕ
weighed [] = 0
weighed (b ∷ bs) = cond b 1 0 + 2 * weighed bs

-- bits, eight to a byte, and the one with the index j
abbrev pub packed : List Bool → List ℕ
packed bs = map (λ k. weighed (part bs (8 * k) 8)) (between 0 ((length bs + 7) / 8))

abbrev pub bitmap_bit : List ℕ → ℕ → ℕ
bitmap_bit bytes j = slice_index bytes (j / 8) / 2 ^ (j % 8) % 2

-- the bytes with bit k set
abbrev pub with_bit : List ℕ → ℕ → List ℕ
with_bit bytes k = slice_set bytes (k / 8) (bit_or (slice_index bytes (k / 8)) (2 ^ (k % 8)))

-- what was put into bytes is read from them
abbrev pub NumbersBack : Type 0
NumbersBack = (w : ℕ) (ns : List ℕ) (k : ℕ) → k < length ns → slice_index ns k < 256 ^ w → number_in w (numbers w ns) k ≡ slice_index ns k

-- and bits that were not put in are zero
abbrev pub SpareBits : Type 0
SpareBits = (bs : List Bool) (k : ℕ) → length bs ≤ k → k < 8 * length (packed bs) → bitmap_bit (packed bs) k ≡ 0

abbrev pub BitsBack : Type 0
BitsBack = (bs : List Bool) (k : ℕ) → k < length bs → bitmap_bit (packed bs) k ≡ cond (slice_index_or bs k false) 1 0

-- setting a bit of packed bits packs them with that one true
abbrev pub BitSet : Type 0
BitSet = (bs : List Bool) (k : ℕ) → k < length bs → with_bit (packed bs) k ≡ packed (slice_set bs k true)
