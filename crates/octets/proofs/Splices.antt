-- Writes over lists.
use Rattle.std.proofs.Common.{◌≡◌, ℕ, ◌+◌, ◌<◌, ◌≤◌, List, [], ◌∷◌, ◌++◌, length, take, drop, set, sym, ap, ◌∙◌, add-one, arith, rules}
use borrow.Rule.Slice.PartMut.{put_mid}
use Rattle.std.proofs.lemmas.List.{set_split, places, same_lists, drop-drop}
use Rattle.octets.specs.Lists.{splice}

pub length-splice : (A : List ℕ) (i : ℕ) (xs : List ℕ) → i + length xs ≤ length A → length (splice A i xs) ≡ length A
length-splice A i xs h = search (rules, places)

pub splice_nil : (A : List ℕ) (i : ℕ) → splice A i [] ≡ A
splice_nil A i = same_lists _ _ (search (rules, places)) (λ k d h. grind (arith, places))

-- two writes in a row are one
pub splice_join : (A : List ℕ) (i : ℕ) (xs ys : List ℕ) → i ≤ length A → splice (splice A i xs) (i + length xs) ys ≡ splice A i (xs ++ ys)
splice_join A i xs ys h = same_lists _ _ (search (rules, places)) (λ k d h. grind (arith, places))

-- writes to different places may change order
pub splice-swap : (A : List ℕ) (i : ℕ) (xs : List ℕ) (j : ℕ) (ys : List ℕ) → i + length xs ≤ j → j ≤ length A → splice (splice A i xs) j ys ≡ splice (splice A j ys) i xs
splice-swap A i xs j ys p q = same_lists _ _ (search (rules, places)) (λ k d h. grind (arith, places))

-- what a write to a part of a slice leaves
pub splice-part : (a k : ℕ) (xs ys zs : List ℕ) → ys ≡ zs → k ≡ length zs → put_mid a k xs ys ≡ splice xs a zs
splice-part a k xs ys zs e f = rw (e, f) (ap (λ t. take a xs ++ (zs ++ t)) (drop-drop (length zs) a xs))

pub splice-set : (A : List ℕ) (i b : ℕ) → i < length A → set A i b ≡ splice A i (b ∷ [])
splice-set A i b h = set_split A i b h ∙ ap (λ j. take i A ++ (b ∷ drop j A)) (sym (add-one i))
