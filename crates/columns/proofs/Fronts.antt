-- Lists that are written from the front, with zeros for what is to come.
use Rattle.std.proofs.Common.{◌≡◌, ℕ, zero, suc, ◌+◌, ◌-◌, ◌*◌, ◌/◌, ◌%◌, ◌^◌, ◌<◌, ◌≤◌, Bool, true, false, cond, ◌&&◌, ltb, List, [], ◌∷◌, ◌++◌, map, length, get_or, take, drop, set, replicate, sym, refl, ap, ◌∙◌, append_assoc, mul-zero, mul-suc, mul-add, arith, length-append}
use mathlib.Core.Option.{Option}
use lib.Bits.{bit_or}
use lib.Dec.{eqb-suc-zero}
use lib.ListN.{length-map, length-replicate}
use Rattle.std.proofs.lemmas.List.{append-nil, take_at, drop_at, drop-drop, drop-append-le, drop-replicate, set-append_left, get_or_append_left, get_or-replicate, set_at, map-append, same_lists, replicate-append-replicate}
use Rattle.std.proofs.lemmas.Bool.{lt-ltb}
use Rattle.octets.specs.Lists.{splice, is_some, joined, sum, starts, running}
use Rattle.octets.specs.Numbers.{le, padded, pad, numbers, weighed, packed, with_bit}
use Rattle.octets.proofs.Pieces.{length-le, joined-append}
use Rattle.octets.proofs.Packs.{length-numbers, length-packed, packed-at}
use Rattle.octets.proofs.Bitmaps.{bit-set}
use Rattle.batch.specs.Batch.{nulls, validity}
use Rattle.columns.specs.Spans.{firsts, marks}

-- a write to the first zeros
pub splice-zeros : (pre ys post : List ℕ) (n i : ℕ) → i ≡ length pre → length ys ≤ n
    → splice (pre ++ (replicate n 0 ++ post)) i ys ≡ pre ++ (ys ++ (replicate (n - length ys) 0 ++ post))
splice-zeros pre ys post n i e h =
    let z : length (replicate {A = ℕ} n 0) ≡ n = length-replicate n 0 in
    let rest : drop (length ys) (replicate n 0 ++ post) ≡ replicate (n - length ys) 0 ++ post =
    drop-append-le (length ys) (replicate n 0) post (omega arith) ∙ ap (λ t. t ++ post) (drop-replicate (length ys) n 0) in
    let behind : drop (i + length ys) (pre ++ (replicate n 0 ++ post)) ≡ replicate (n - length ys) 0 ++ post =
    sym (drop-drop (length ys) i (pre ++ (replicate n 0 ++ post))) ∙ ap (drop (length ys)) (drop_at pre (replicate n 0 ++ post) i (sym e)) ∙ rest in
    rw (take_at pre (replicate n 0 ++ post) i (sym e), behind)

-- padding by a known length
pub pad_by : (bs : List ℕ) (n : ℕ) → length bs ≡ n → pad bs ≡ bs ++ replicate (padded n - n) 0
pad_by bs n e = ap (λ m. bs ++ replicate (padded m - m) 0) e

pub pad-zeros : (n : ℕ) → pad (replicate n 0) ≡ replicate (padded n) 0
pad-zeros n =
    pad_by (replicate n 0) n (length-replicate n 0) ∙ replicate-append-replicate n (padded n - n) 0
    ∙ ap (λ m. replicate m 0) (omega arith)

-- numbers of one width
pub length-firsts : (w n : ℕ) (ns : List ℕ) → length ns ≤ n → length (firsts w n ns) ≡ w * n
length-firsts w n ns h =
    let k : ℕ = n - length ns in
    let e : n ≡ length ns + k = omega arith in
    length-append (numbers w ns) (replicate (w * k) 0)
    ∙ omega (arith, length-numbers w ns, length-replicate {A = ℕ} (w * k) 0, mul-add w (length ns) k, ap (λ m. w * m) e)

pub numbers_push : (w : ℕ) (ns : List ℕ) (x : ℕ) → numbers w (ns ++ (x ∷ [])) ≡ numbers w ns ++ le w x
numbers_push w ns x =
    ap joined (map-append (le w) ns (x ∷ [])) ∙ joined-append (map (le w) ns) (le w x ∷ []) ∙ ap (λ t. numbers w ns ++ t) (append-nil (le w x))

-- one number more
pub firsts_next : (w n : ℕ) (ns : List ℕ) (x : ℕ) (pre post : List ℕ) (i : ℕ) → length ns < n → i ≡ length pre + w * length ns
    → splice (pre ++ (pad (firsts w n ns) ++ post)) i (le w x) ≡ pre ++ (pad (firsts w n (ns ++ (x ∷ []))) ++ post)
firsts_next w n ns x pre post i h e =
    let zs : List ℕ = replicate (padded (w * n) - w * n) 0 in
    let m : ℕ = w * (n - length ns) in
    let P = pre ++ numbers w ns in
    let lp : i ≡ length P = e ∙ omega (arith, length-append pre (numbers w ns), length-numbers w ns) in
    let one : m ≡ w + w * (n - (length ns + 1)) = ap (λ k. w * k) (omega arith) ∙ mul-suc w (n - (length ns + 1)) ∙ omega arith in
    let left : pre ++ (pad (firsts w n ns) ++ post) ≡ P ++ (replicate m 0 ++ (zs ++ post)) =
    ap (λ t. pre ++ (t ++ post)) (pad_by (firsts w n ns) (w * n) (length-firsts w n ns (omega arith))) ∙ simp append_assoc in
    let size : m - length (le w x) ≡ w * (n - (length ns + 1)) = omega (arith, one, length-le w x) in
    let more : length (ns ++ (x ∷ [])) ≡ length ns + 1 = length-append ns (x ∷ []) in
    let right : pre ++ (pad (firsts w n (ns ++ (x ∷ []))) ++ post) ≡ P ++ (le w x ++ (replicate (w * (n - (length ns + 1))) 0 ++ (zs ++ post))) =
    ap (λ t. pre ++ (t ++ post)) (pad_by (firsts w n (ns ++ (x ∷ []))) (w * n) (length-firsts w n (ns ++ (x ∷ [])) (omega arith)))
    ∙ ap (λ t. pre ++ (((t ++ replicate (w * (n - length (ns ++ (x ∷ [])))) 0) ++ zs) ++ post)) (numbers_push w ns x)
    ∙ ap (λ k. pre ++ ((((numbers w ns ++ le w x) ++ replicate (w * (n - k)) 0) ++ zs) ++ post)) more ∙ simp append_assoc in
    ap (λ t. splice t i (le w x)) left
    ∙ splice-zeros P (le w x) (zs ++ post) m i lp (omega (arith, one, length-le w x))
    ∙ ap (λ k. P ++ (le w x ++ (replicate k 0 ++ (zs ++ post)))) size
    ∙ sym right

-- running sums by one more
pub starts_push : (m : ℕ) (ks : List ℕ) (k : ℕ) → starts m (ks ++ (k ∷ [])) ≡ starts m ks ++ ((m + sum ks) ∷ [])
starts_push m [] k = ap (λ n. n ∷ []) (omega arith)
starts_push m (j ∷ ks) k = ap (λ t. m ∷ t) (starts_push (m + j) ks k ∙ ap (λ n. starts (m + j) ks ++ (n ∷ [])) (omega arith))

pub running_is : (m : ℕ) (ks : List ℕ) → running m ks ≡ starts m ks ++ ((m + sum ks) ∷ [])
running_is m [] = ap (λ n. n ∷ []) (omega arith)
running_is m (j ∷ ks) = ap (λ t. m ∷ t) (running_is (m + j) ks ∙ ap (λ n. starts (m + j) ks ++ (n ∷ [])) (omega arith))

-- bits
with_bit-front : (V R : List ℕ) (k : ℕ) → k / 8 < length V → with_bit (V ++ R) k ≡ with_bit V k ++ R
with_bit-front V R k h =
    ap (λ b. set (V ++ R) (k / 8) (bit_or b (2 ^ (k % 8)))) (get_or_append_left V R 0 (k / 8) h) ∙ set-append_left V R (k / 8) (bit_or (get_or V (k / 8) 0) (2 ^ (k % 8))) h

weighed_none : (k n : ℕ) → weighed (take k (replicate n false)) ≡ 0
weighed_none zero n = refl
weighed_none (suc k) zero = refl
weighed_none (suc k) (suc n) = omega (arith, weighed_none k n)

pub packed_none : (n : ℕ) → packed (replicate n false) ≡ replicate ((n + 7) / 8) 0
packed_none n =
    let m : ℕ = (n + 7) / 8 in
    let size : length (packed (replicate n false)) ≡ m = length-packed (replicate n false) ∙ ap (λ k. (k + 7) / 8) (length-replicate n false) in
    same_lists _ _ (size ∙ sym (length-replicate m 0))
    (λ k d h.
    packed-at (replicate n false) k d (omega (arith, length-replicate {A = Bool} n false, length-packed (replicate n false)))
    ∙ ap (λ t. weighed (take 8 t)) (drop-replicate (8 * k) n false) ∙ weighed_none 8 (n - 8 * k) ∙ sym (get_or-replicate m k 0 d (omega arith)))

-- a bit for each slot
pub length-marks : {A : Type 0} (slots : ℕ) (os : List (Option A)) → length os ≤ slots → length (map is_some os ++ replicate (slots - length os) false) ≡ slots
length-marks slots os h = length-append (map is_some os) (replicate (slots - length os) false) ∙ omega (arith, length-map os is_some, length-replicate {A = Bool} (slots - length os) false)

-- the bits of no rows
pub marks_none : (A : Type 0) (slots nulls : ℕ) → marks {A = A} slots nulls [] ≡ replicate (cond (ltb 0 nulls) ((slots + 7) / 8) 0) 0
marks_none A slots zero = refl
marks_none A slots (suc n) =
    let all : slots - 0 ≡ slots = omega arith in
    rw (eqb-suc-zero n, lt-ltb 0 (suc n) (omega arith)) (ap (λ k. packed (replicate k false)) all ∙ packed_none slots)

-- the bytes of the bits
pub bits_long : {A : Type 0} (slots nulls : ℕ) (os : List (Option A)) → length os ≤ slots → length (marks slots nulls os) ≡ cond (ltb 0 nulls) ((slots + 7) / 8) 0
bits_long slots zero os h = refl
bits_long slots (suc n) os h =
    let l : length (map is_some os ++ replicate (slots - length os) false) ≡ slots = length-marks slots os h in
    rw (eqb-suc-zero n, lt-ltb 0 (suc n) (omega arith)) (length-packed (map is_some os ++ replicate (slots - length os) false) ∙ ap (λ k. (k + 7) / 8) l)

-- bits, and false for those that are to come
abbrev pub filled : (many : ℕ) → List Bool → List Bool
filled n bs = bs ++ replicate (n - length bs) false

pub length-filled : (n : ℕ) (bs : List Bool) → length bs ≤ n → length (filled n bs) ≡ n
length-filled n bs h = length-append bs (replicate (n - length bs) false) ∙ omega (arith, length-replicate {A = Bool} (n - length bs) false)

-- one bit more
module _ (n : ℕ) (bs : List Bool) (b : Bool) (h : length bs < n) where
  -- the next bit told apart
  parted : filled n bs ≡ bs ++ (false ∷ replicate (n - (length bs + 1)) false)
  parted = let e : n - length bs ≡ suc (n - (length bs + 1)) = omega arith in ap (λ k. bs ++ replicate k false) e

  joined_up : filled n (bs ++ (b ∷ [])) ≡ bs ++ (b ∷ replicate (n - (length bs + 1)) false)
  joined_up =
      append_assoc bs (b ∷ []) (replicate (n - length (bs ++ (b ∷ []))) false)
      ∙ ap (λ k. bs ++ (b ∷ replicate (n - k) false)) (length-append bs (b ∷ []))

  marked : b ≡ true → set (filled n bs) (length bs) true ≡ filled n (bs ++ (b ∷ []))
  marked e =
      ap (λ t. set t (length bs) true) parted ∙ set_at bs false (replicate (n - (length bs + 1)) false) true (length bs) refl
      ∙ ap (λ x. bs ++ (x ∷ replicate (n - (length bs + 1)) false)) (sym e) ∙ sym joined_up

  unmarked : b ≡ false → filled n bs ≡ filled n (bs ++ (b ∷ []))
  unmarked e = parted ∙ ap (λ x. bs ++ (x ∷ replicate (n - (length bs + 1)) false)) (sym e) ∙ sym joined_up

pub packed_next : (n : ℕ) (bs : List Bool) (b : Bool) → length bs < n → (rest : List ℕ)
    → cond b (with_bit (pad (packed (filled n bs)) ++ rest) (length bs)) (pad (packed (filled n bs)) ++ rest) ≡ pad (packed (filled n (bs ++ (b ∷ [])))) ++ rest
packed_next n bs false h rest = ap (λ t. pad (packed t) ++ rest) (unmarked n bs false h refl)
packed_next n bs true h rest =
    let after = filled n (bs ++ (true ∷ [])) in
    let long : length (filled n bs) ≡ n = length-filled n bs (omega arith) in
    let long' : length after ≡ n = length-filled n (bs ++ (true ∷ [])) (omega (arith, length-append bs (true ∷ []))) in
    let k : ℕ = (n + 7) / 8 in
    let l : length (packed (filled n bs)) ≡ k = length-packed (filled n bs) ∙ ap (λ i. (i + 7) / 8) long in
    let l' : length (packed after) ≡ k = length-packed after ∙ ap (λ i. (i + 7) / 8) long' in
    let zs : List ℕ = replicate (padded k - k) 0 in
    ap (λ t. with_bit (t ++ rest) (length bs)) (pad_by (packed (filled n bs)) k l)
    ∙ ap (λ t. with_bit t (length bs)) (append_assoc (packed (filled n bs)) zs rest)
    ∙ with_bit-front (packed (filled n bs)) (zs ++ rest) (length bs) (omega (arith, l))
    ∙ ap (λ t. t ++ (zs ++ rest)) (bit-set (filled n bs) (length bs) (omega (arith, long)) ∙ ap packed (marked n bs true h refl))
    ∙ sym (append_assoc (packed after) zs rest) ∙ ap (λ t. t ++ rest) (sym (pad_by (packed after) k l'))

-- one row more
marks_is : {A : Type 0} (slots : ℕ) (os : List (Option A)) → map is_some os ++ replicate (slots - length os) false ≡ filled slots (map is_some os)
marks_is slots os = ap (λ k. map is_some os ++ replicate (slots - k) false) (sym (length-map os is_some))

marks-one : {A : Type 0} (slots : ℕ) (os : List (Option A)) (o : Option A) (rest : List ℕ) (b : Bool) → length os < slots → is_some o ≡ b
    → cond b (with_bit (pad (packed (map is_some os ++ replicate (slots - length os) false)) ++ rest) (length os)) (pad (packed (map is_some os ++ replicate (slots - length os) false)) ++ rest)
    ≡ pad (packed (map is_some (os ++ (o ∷ [])) ++ replicate (slots - length (os ++ (o ∷ []))) false)) ++ rest
marks-one slots os o rest b h e =
    let l : length (map is_some os) ≡ length os = length-map os is_some in
    let more : filled slots (map is_some os ++ (b ∷ [])) ≡ map is_some (os ++ (o ∷ [])) ++ replicate (slots - length (os ++ (o ∷ []))) false =
    ap (λ x. filled slots (map is_some os ++ (x ∷ []))) (sym e) ∙ ap (filled slots) (sym (map-append is_some os (o ∷ []))) ∙ sym (marks_is slots (os ++ (o ∷ []))) in
    ap (λ t. cond b (with_bit (pad (packed t) ++ rest) (length os)) (pad (packed t) ++ rest)) (marks_is slots os)
    ∙ ap (λ k. cond b (with_bit (pad (packed (filled slots (map is_some os))) ++ rest) k) (pad (packed (filled slots (map is_some os))) ++ rest)) (sym l)
    ∙ packed_next slots (map is_some os) b (omega (arith, l)) rest
    ∙ ap (λ t. pad (packed t) ++ rest) more

pub marks_next : {A : Type 0} (slots nulls : ℕ) (os : List (Option A)) (o : Option A) (rest : List ℕ) (b : Bool) → length os < slots → is_some o ≡ b
    → cond (b && ltb 0 nulls) (with_bit (pad (marks slots nulls os) ++ rest) (length os)) (pad (marks slots nulls os) ++ rest) ≡ pad (marks slots nulls (os ++ (o ∷ []))) ++ rest
marks_next slots zero os o rest true h e = refl
marks_next slots zero os o rest false h e = refl
marks_next slots (suc n) os o rest true h e = rw (eqb-suc-zero n, lt-ltb 0 (suc n) (omega arith)) (marks-one slots os o rest true h e)
marks_next slots (suc n) os o rest false h e = rw (eqb-suc-zero n) (marks-one slots os o rest false h e)

-- all rows
pub firsts-all : (w n : ℕ) (ns : List ℕ) → length ns ≡ n → firsts w n ns ≡ numbers w ns
firsts-all w n ns e =
    let z : n - length ns ≡ 0 = omega arith in
    ap (λ k. numbers w ns ++ replicate (w * k) 0) z ∙ ap (λ k. numbers w ns ++ replicate k 0) (mul-zero w) ∙ append-nil (numbers w ns)

pub marks-all : {A : Type 0} (slots n : ℕ) (os : List (Option A)) → length os ≡ slots → nulls os ≡ n → marks slots n os ≡ validity os
marks-all slots n os e f =
    let z : slots - length os ≡ 0 = omega arith in
    rw (z, append-nil (map is_some os), f)
