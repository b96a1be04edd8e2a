-- Parts of bytes, cut at their end.
use Rattle.std.proofs.Common.{◌≡◌, ℕ, ◌+◌, ◌-◌, ◌*◌, ◌^◌, ◌<◌, ◌≤◌, min, List, length, take, drop, sym, refl, ap, ◌∙◌, inl, inr, arith, length-drop, drop_of_length-le, take_all}
use native.Mathlib.Nat.{min-eq_left, min-eq_right}
use Rattle.std.proofs.lemmas.Bool.{cases_lt}
use Rattle.octets.specs.Lists.{part}
use Rattle.octets.specs.Numbers.{number, le_at}
use Rattle.octets.proofs.Pieces.{part_in}
use Rattle.octets.proofs.Reading.{le_at_none}

take_min : {A : Type 0} (n : ℕ) (xs : List A) → take (min n (length xs)) xs ≡ take n xs
take_min n xs = elim (cases_lt n (length xs)) [
  | inl h ↦ ap (λ m. take m xs) (min-eq_left (omega arith))
  | inr h ↦ ap (λ m. take m xs) (min-eq_right h) ∙ take_all (length xs) xs (omega arith) ∙ sym (take_all n xs h)
]

drop_min : {A : Type 0} (n : ℕ) (xs : List A) → drop (min n (length xs)) xs ≡ drop n xs
drop_min n xs = elim (cases_lt n (length xs)) [
  | inl h ↦ ap (λ m. drop m xs) (min-eq_left (omega arith))
  | inr h ↦ ap (λ m. drop m xs) (min-eq_right h) ∙ drop_of_length-le xs (omega arith) ∙ sym (drop_of_length-le xs h)
]

-- a part, by a place and a size that stay within
pub cut_is : {A : Type 0} (xs : List A) (place size from to : ℕ) → from ≡ min place (length xs) → to ≡ min size (length (take (length xs - from) (drop from xs)))
    → take to (take (length xs - from) (drop from xs)) ≡ part xs place size
cut_is xs place size from to e f =
    let rest = take (length xs - from) (drop from xs) in
    let is : rest ≡ drop place xs = take_all (length xs - from) (drop from xs) (omega (arith, length-drop from xs)) ∙ ap (λ n. drop n xs) e ∙ drop_min place xs in
    ap (λ n. take n rest) f ∙ take_min size rest ∙ ap (take size) is

-- a number of a record that was cut out
pub word_in_lem : (bytes : List ℕ) (node p at : ℕ) → length bytes < 2 ^ 64 → p ≡ min (node * 32) (2 ^ 64 - 1) → at + 4 ≤ 32
    → le_at 4 (part bytes p 32) at ≡ le_at 4 bytes (32 * node + at)
word_in_lem bytes node p at short e h = elim (cases_lt (node * 32) (2 ^ 64 - 1)) [
  | inl l ↦
      let p-is : p ≡ 32 * node = e ∙ min-eq_left (omega arith) ∙ omega arith in
      sym (ap number (part_in bytes (part bytes p 32) p 32 at 4 refl h)) ∙ ap (λ n. le_at 4 bytes (n + at)) p-is
  | inr l ↦
      let past : length bytes ≤ p = omega (arith, e ∙ min-eq_right l) in
      ap (λ xs. le_at 4 (take 32 xs) at) (drop_of_length-le bytes past) ∙ le_at_none 4 at ∙ sym (le_at_past (32 * node + at) (omega arith))
]
  where
    le_at_past : (i : ℕ) → length bytes ≤ i → le_at 4 bytes i ≡ 0
    le_at_past i l = ap (λ xs. number (take 4 xs)) (drop_of_length-le bytes l)
