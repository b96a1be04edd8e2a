-- Setting a bit of a bitmap.
use Rattle.std.proofs.Common.{◌≡◌, ℕ, zero, suc, ◌+◌, ◌-◌, ◌*◌, ◌/◌, ◌%◌, ◌^◌, ◌<◌, ◌≤◌, max, Bool, true, false, cond, ◌≢◌, List, [], ◌∷◌, length, get_or, drop, set, sym, ap, ◌∙◌, ⊎_elim, le_of_suc-le-suc, not-suc-le-zero, pow-suc, arith, length-set, get_or-drop, get_or-set_other, get_or-take, get_or-set_same, rules}
use lib.Bits.{bit_or, or_step, or_zero_r}
use Rattle.std.proofs.lemmas.Bool.{cases_eq, cases_order}
use Rattle.std.proofs.lemmas.List.{places, same_lists}
use Rattle.octets.specs.Lists.{part}
use Rattle.octets.specs.Numbers.{weighed, packed, with_bit, BitSet}
use Rattle.octets.proofs.Packs.{length-packed, packed-at}

-- bit_or of a number and its double parts: the lowest bit by itself
low_or : (b : Bool) (w : ℕ) → 1 + 2 * w ≡ bit_or (cond b 1 0 + 2 * w) 1
low_or b w =
    let e : (cond b 1 0 + 2 * w) / 2 ≡ w = elim b as (λ v. (cond v 1 0 + 2 * w) / 2 ≡ w) [ true ↦ omega arith | false ↦ omega arith ] in
    let m : max ((cond b 1 0 + 2 * w) % 2) 1 ≡ 1 = elim b as (λ v. max ((cond v 1 0 + 2 * w) % 2) 1 ≡ 1) [ true ↦ omega arith | false ↦ omega arith ] in
    let o : bit_or ((cond b 1 0 + 2 * w) / 2) 0 ≡ w = or_zero_r ((cond b 1 0 + 2 * w) / 2) ∙ e in
    let s : bit_or (cond b 1 0 + 2 * w) 1 ≡ bit_or ((cond b 1 0 + 2 * w) / 2) 0 * 2 + max ((cond b 1 0 + 2 * w) % 2) 1 = or_step (cond b 1 0 + 2 * w) 1 in
    omega (arith, s, m, o)

high_or : (b : Bool) (w j : ℕ) → cond b 1 0 + 2 * bit_or w (2 ^ j) ≡ bit_or (cond b 1 0 + 2 * w) (2 ^ suc j)
high_or b w j =
    let p : 2 ^ suc j ≡ 2 ^ j * 2 = pow-suc 2 j in
    let a = cond b 1 0 + 2 * w in
    let e : a / 2 ≡ w = elim b as (λ v. (cond v 1 0 + 2 * w) / 2 ≡ w) [ true ↦ omega arith | false ↦ omega arith ] in
    let half : 2 ^ suc j / 2 ≡ 2 ^ j = omega (arith, p) in
    let even : 2 ^ suc j % 2 ≡ 0 = omega (arith, p) in
    let m : max (a % 2) (2 ^ suc j % 2) ≡ cond b 1 0 = rw even (elim b as (λ v. max ((cond v 1 0 + 2 * w) % 2) 0 ≡ cond v 1 0) [ true ↦ omega arith | false ↦ omega arith ]) in
    let s : bit_or a (2 ^ suc j) ≡ bit_or (a / 2) (2 ^ suc j / 2) * 2 + max (a % 2) (2 ^ suc j % 2) = or_step a (2 ^ suc j) in
    let o : bit_or (a / 2) (2 ^ suc j / 2) ≡ bit_or w (2 ^ j) = ap (λ x. bit_or x (2 ^ suc j / 2)) e ∙ ap (bit_or w) half in
    omega (arith, s, m, o)

weighed-set : (bs : List Bool) (j : ℕ) → j < length bs → weighed (set bs j true) ≡ bit_or (weighed bs) (2 ^ j)
weighed-set [] j h = absurd (not-suc-le-zero h)
weighed-set (b ∷ bs) zero h = low_or b (weighed bs)
weighed-set (b ∷ bs) (suc j) h = ap (λ x. cond b 1 0 + 2 * x) (weighed-set bs j (le_of_suc-le-suc h)) ∙ high_or b (weighed bs) j

part-below : (bs : List Bool) (k i n : ℕ) → k < i → part (set bs k true) i n ≡ part bs i n
part-below bs k i n h = same_lists _ _ (search (rules, places)) (λ j d l. grind (arith, places))

part_above : (bs : List Bool) (k i n : ℕ) → i + n ≤ k → part (set bs k true) i n ≡ part bs i n
part_above bs k i n h = same_lists _ _ (search (rules, places)) (λ j d l. grind (arith, places))

part-inside : (bs : List Bool) (k i n : ℕ) → i ≤ k → k < i + n → k < length bs → part (set bs k true) i n ≡ set (part bs i n) (k - i) true
part-inside bs k i n a b c =
    same_lists (part (set bs k true) i n) (set (part bs i n) (k - i) true) (search (rules, places)) (λ j d l.
    ⊎_elim
    (λ e.
    let at : j ≡ k - i = e in
    let in-part : k - i < length (part bs i n) = search (rules, places) in
    let whole : i + (k - i) ≡ k = omega arith in
    let left : get_or (part (set bs k true) i n) (k - i) d ≡ true =
    get_or-take n (drop i (set bs k true)) (k - i) d (omega arith) ∙ get_or-drop i (set bs k true) (k - i) d ∙ ap (λ m. get_or (set bs k true) m d) whole ∙ get_or-set_same bs k true d c in
    rw at (left ∙ sym (get_or-set_same (part bs i n) (k - i) true d in-part)))
    (λ ne.
    let j-in : j < n = search (rules, places) in
    let other : i + j ≢ k = λ e. ne (omega arith) in
    get_or-take n (drop i (set bs k true)) j d j-in ∙ get_or-drop i (set bs k true) j d ∙ get_or-set_other bs k (i + j) true d other
    ∙ sym (get_or-set_other (part bs i n) (k - i) j true d ne ∙ get_or-take n (drop i bs) j d j-in ∙ get_or-drop i bs j d))
    (cases_eq j (k - i)))

module _ (bs : List Bool) (k : ℕ) (h : k < length bs) where
  abbrev after : List Bool
  after = set bs k true

  same_size : length after ≡ length bs
  same_size = length-set bs k true

  -- byte j of each
  here : weighed (part after (8 * (k / 8)) 8) ≡ bit_or (weighed (part bs (8 * (k / 8)) 8)) (2 ^ (k % 8))
  here =
      let i = 8 * (k / 8) in
      let off : k - i ≡ k % 8 = omega arith in
      let l : k % 8 < length (part bs i 8) = search (rules, places) in
      ap weighed (part-inside bs k i 8 (omega arith) (omega arith) h ∙ ap (λ j. set (part bs i 8) j true) off) ∙ weighed-set (part bs i 8) (k % 8) l

  there : (j : ℕ) → j ≢ k / 8 → weighed (part after (8 * j) 8) ≡ weighed (part bs (8 * j) 8)
  there j ne =
      ⊎_elim
      (λ lt. ap weighed (part_above bs k (8 * j) 8 (omega arith)))
      (λ gt. ap weighed (part-below bs k (8 * j) 8 (omega arith)))
      (⊎_elim (λ e. absurd (ne e)) (λ o. o) (cases_order j (k / 8)))

  pub bit_at : (j d : ℕ) → j < (length bs + 7) / 8 → get_or (with_bit (packed bs) k) j d ≡ get_or (packed after) j d
  bit_at j d l =
      let n : length (packed bs) ≡ (length bs + 7) / 8 = length-packed bs in
      let k-in : k / 8 < (length bs + 7) / 8 = omega arith in
      let right : get_or (packed after) j d ≡ weighed (part after (8 * j) 8) = packed-at after j d (rw same_size l) in
      ⊎_elim
      (λ e.
      let at : j ≡ k / 8 = e in
      let k-len : k / 8 < length (packed bs) = omega arith in
      let r = rw at at right in
      rw at (get_or-set_same (packed bs) (k / 8) _ d k-len ∙ ap (λ b. bit_or b (2 ^ (k % 8))) (packed-at bs (k / 8) 0 k-in) ∙ sym (r ∙ here)))
      (λ ne. get_or-set_other (packed bs) (k / 8) j _ d ne ∙ packed-at bs j d l ∙ sym (right ∙ there j ne))
      (cases_eq j (k / 8))

pub bit-set : BitSet
bit-set bs k h =
    let n : length (with_bit (packed bs) k) ≡ (length bs + 7) / 8 = length-set (packed bs) (k / 8) _ ∙ length-packed bs in
    let m : length (packed (set bs k true)) ≡ (length bs + 7) / 8 = length-packed (set bs k true) ∙ ap (λ l. (l + 7) / 8) (same_size bs k h) in
    same_lists _ _ (n ∙ sym m) (λ j d l. bit_at bs k h j d (omega (arith, n)))
