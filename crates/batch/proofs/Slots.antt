-- One slot of a column, by what its buffers mean.
use Rattle.std.proofs.Common.{◌≡◌, ℕ, zero, suc, ◌+◌, ◌-◌, ◌*◌, ◌/◌, ◌^◌, ◌<◌, ◌≤◌, Bool, true, false, cond, eqb, List, [], ◌∷◌, map, length, get_or, take, replicate, sym, refl, ap, ◌∙◌, subst, le_of_suc-le-suc, not-suc-le-zero, mul-le-mul_left, zero-add, mul-suc, arith}
use mathlib.Core.List.{map-map}
use mathlib.Core.Option.{Option, none, some}
use lib.Dec.{eqb-suc-zero}
use lib.ListN.{length-map, length-replicate}
use Rattle.std.specs.List.{AllByRecursion}
use Rattle.std.proofs.lemmas.List.{get_or-map}
use Rattle.std.proofs.ByRecursion.{All-get_or}
use Rattle.std.proofs.lemmas.Bool.{both_ways, eqb-true, ltb-true}
use Rattle.octets.specs.Lists.{part, joined, sum, running, starts, is_some, or_else}
use Rattle.octets.specs.Numbers.{numbers, number_in, packed, bitmap_bit}
use Rattle.octets.proofs.Pieces.{length_even, even_at, length-joined, joined_at, length-running, running-at, length-starts, starts-at, sum_more, sum-take-le}
use Rattle.octets.proofs.Packs.{bit_in, length-packed, number_in_lem}
use Rattle.schema.specs.declared.kind.Branch.{Branch}
use Rattle.schema.specs.declared.kind.Branch.TheVariants.{Struct as struct, List as list, Fixed as fixed}
use Rattle.schema.specs.declared.kind.LeafKind.{LeafKind}
use Rattle.leaf.specs.Meaning.{is_bit}
use Rattle.leaf.specs.declared.layout.Layout.{Layout}
use Rattle.leaf.specs.declared.layout.Layout.TheVariants.{None, Bit, Text, Eight}
use Rattle.batch.specs.Values.{taken}
use Rattle.batch.specs.Format.{Column, is_set, is_marked, is_valid, width, is_wide, text_width, offset, extent, span, leaf_in}
use Rattle.batch.specs.Batch.{nulls, sizes, column, branch_column, leaf_column}
use Rattle.batch.specs.Suited.{Present, Fits, Counted}

no_nulls : {A : Type 0} (os : List (Option A)) (k : ℕ) (d : Option A) → nulls os ≡ 0 → k < length os → is_some (get_or os k d) ≡ true
no_nulls [] k d e h = absurd (not-suc-le-zero h)
no_nulls (none ∷ os) k d e h = absurd (omega arith)
no_nulls (some x ∷ os) zero d e h = refl
no_nulls (some x ∷ os) (suc k) d e h = no_nulls os k d e (le_of_suc-le-suc h)

bit_is : (b : Bool) → eqb (cond b 1 0) 1 ≡ b
bit_is true = refl
bit_is false = refl

-- where a slot's items lie among all
module _ {A : Type 0} (os : List (Option (List A))) where
  lengths : map length (map (or_else []) os) ≡ sizes os
  lengths = map-map length (or_else []) os

  pub length_items : length (joined (map (or_else []) os)) ≡ sum (sizes os)
  length_items = length-joined (map (or_else []) os) ∙ ap sum lengths

  pub size_at : (k : ℕ) (d : Option (List A)) → k < length os → get_or (sizes os) k 0 ≡ length (or_else [] (get_or os k d))
  size_at k d h = get_or-map (λ o. length (or_else [] o)) os k d 0 h

  pub length-sizes : length (sizes os) ≡ length os
  length-sizes = length-map os (λ o. length (or_else [] o))

  span-at : (k : ℕ) (d : Option (List A)) → k < length os → part (joined (map (or_else []) os)) (sum (take k (sizes os))) (get_or (sizes os) k 0) ≡ or_else [] (get_or os k d)
  span-at k d h =
      let e : get_or (map (or_else []) os) k [] ≡ or_else [] (get_or os k d) = get_or-map (or_else []) os k d [] h in
      rw (size_at k d h, ← e, ← lengths) (joined_at (map (or_else []) os) k [] (rw length-map h))

  pub span_in : (k : ℕ) → k < length os → sum (take k (sizes os)) + get_or (sizes os) k 0 ≤ length (joined (map (or_else []) os))
  span_in k h = omega (arith, length_items, sum_more (sizes os) k 0 (rw length-sizes h), sum-take-le (sizes os) (k + 1))

  module _ (w : ℕ) (small : length (joined (map (or_else []) os)) < 256 ^ w) where
    pub offset_in : (k : ℕ) → k ≤ length os → number_in w (numbers w (running 0 (sizes os))) k ≡ sum (take k (sizes os))
    offset_in k h =
        let at : get_or (running 0 (sizes os)) k 0 ≡ sum (take k (sizes os)) = running-at 0 (sizes os) k 0 (rw length-sizes h) ∙ zero-add (sum (take k (sizes os))) in
        number_in_lem w (running 0 (sizes os)) k (omega (arith, length-running 0 (sizes os), length-sizes)) (omega (arith, at, sum-take-le (sizes os) k, length_items)) ∙ at

    pub extent_in : (k : ℕ) → k < length os → number_in w (numbers w (running 0 (sizes os))) (k + 1) - number_in w (numbers w (running 0 (sizes os))) k ≡ get_or (sizes os) k 0
    extent_in k h = rw (offset_in (k + 1) (omega arith), offset_in k (omega arith)) (omega (arith, sum_more (sizes os) k 0 (rw length-sizes h)))

    pub start_in : (k : ℕ) → k < length os → number_in w (numbers w (starts 0 (sizes os))) k ≡ sum (take k (sizes os))
    start_in k h =
        let at : get_or (starts 0 (sizes os)) k 0 ≡ sum (take k (sizes os)) = starts-at 0 (sizes os) k 0 (rw length-sizes h) ∙ zero-add (sum (take k (sizes os))) in
        number_in_lem w (starts 0 (sizes os)) k (omega (arith, length-starts 0 (sizes os), length-sizes)) (omega (arith, at, sum-take-le (sizes os) k, length_items)) ∙ at

    pub size_in : (k : ℕ) → k < length os → number_in w (numbers w (sizes os)) k ≡ get_or (sizes os) k 0
    size_in k h = number_in_lem w (sizes os) k (rw length-sizes h) (omega (arith, span_in k h))

-- slots of one size
pub even_filled : {A : Type 0} (n : ℕ) (a : List A) (P : List A → Type 0) (os : List (Option (List A))) → length a ≡ n → AllByRecursion (Present (λ xs. (length xs ≡ n) × P xs)) os
    → AllByRecursion (λ xs. length xs ≡ n) (map (or_else a) os)
even_filled n a P [] e h = tt
even_filled n a P (none ∷ os) e h = (e, even_filled n a P os e h.1)
even_filled n a P (some xs ∷ os) e h = (h.0.0, even_filled n a P os e h.1)

module _ {A : Type 0} (n : ℕ) (a : List A) (os : List (Option (List A))) (even : AllByRecursion (λ xs. length xs ≡ n) (map (or_else a) os)) where
  even_in : (k : ℕ) → k < length os → n * k + n ≤ length (joined (map (or_else a) os))
  even_in k h = rw (length_even n (map (or_else a) os) even, length-map os (or_else a), ← mul-suc n k) (mul-le-mul_left n h)

  pub even_part : (k : ℕ) (d : Option (List A)) → k < length os → part (joined (map (or_else a) os)) (n * k) n ≡ or_else a (get_or os k d)
  even_part k d h = even_at n (map (or_else a) os) k [] even (rw length-map h) ∙ get_or-map (or_else a) os k d [] h

or_else_some : {A : Type 0} (a : A) (o : Option A) (x : A) → o ≡ some x → or_else a o ≡ x
or_else_some a o x e = rw e

pub wide_enough : (wide : Bool) → 2 ^ 31 ≤ 256 ^ width wide
wide_enough true = omega arith
wide_enough false = omega arith

pub wide_half : (wide : Bool) → 2 ^ 31 ≤ 2 ^ (8 * width wide - 1)
wide_half true = omega arith
wide_half false = omega arith

pub text_half : (k : LeafKind) → 2 ^ 31 ≤ 2 ^ (8 * text_width k - 1)
text_half k = wide_half (is_wide k)

pub text_enough : (k : LeafKind) → 2 ^ 31 ≤ 256 ^ text_width k
text_enough k = wide_enough (is_wide k)

-- offsets want few items
abbrev pub Spanned : Branch → ℕ → Type 0
Spanned struct n = Unit {0}
Spanned (list view wide) n = n < 2 ^ 31
Spanned (fixed m) n = Unit {0}
Spanned Branch.Map n = n < 2 ^ 31

-- validity
marked_is : (bs : List ℕ) (j : ℕ) → 0 < length bs → is_marked bs j ≡ is_set bs j
marked_is [] j h = absurd (omega arith)
marked_is (b ∷ bs) j h = refl

pub valid_is : {A : Type 0} (os : List (Option A)) (offsets bytes : List ℕ) (k : ℕ) (d : Option A) → k < length os → is_valid (column os offsets bytes) k ≡ is_some (get_or os k d)
valid_is {A} os offsets bytes k d h = go (nulls os) refl
  where
    go : (n : ℕ) → nulls os ≡ n → is_marked (cond (eqb n 0) [] (packed (map is_some os))) k ≡ is_some (get_or os k d)
    go zero e = sym (no_nulls os k d e h)
    go (suc n) e =
        let long : length (packed (map is_some os)) ≡ (length os + 7) / 8 = length-packed (map is_some os) ∙ ap (λ m. (m + 7) / 8) (length-map os is_some) in
        rw (eqb-suc-zero n, marked_is (packed (map is_some os)) k (omega arith), bit_in (map is_some os) k (rw length-map h), get_or-map is_some os k d false h) (bit_is (is_some (get_or os k d)))

-- a slot of a branch: whether it is valid, and where its items lie among all
pub record SlotIs {A : Type 0} (b : Branch) (c : Column) (es : List A) (k : ℕ) (o : Option (List A)) : Type 0 where
  pub valid : is_valid c k ≡ is_some o
  pub items : (x : List A) → o ≡ some x → ((span b c k).0 + (span b c k).1 ≤ length es) × (part es (span b c k).0 (span b c k).1 ≡ x)

module _ {A : Type 0} (os : List (Option (List A))) where
  spanned : (w : ℕ) → length (joined (map (or_else []) os)) < 256 ^ w → (bytes : List ℕ) (k : ℕ) (d : Option (List A)) → k < length os → (x : List A) → get_or os k d ≡ some x
      → let c = column os (numbers w (running 0 (sizes os))) bytes in
      (offset w c k + extent w c k ≤ length (joined (map (or_else []) os))) × (part (joined (map (or_else []) os)) (offset w c k) (extent w c k) ≡ x)
  spanned w small bytes k d h x e =
      rw (extent_in os w small k h, offset_in os w small k (omega arith)) (span_in os k h, span-at os k d h ∙ or_else_some [] (get_or os k d) x e)

module _ {A : Type 0} (hidden : A) (os : List (Option (List A))) where
  pub slot_is : (b : Branch) (P : List A → Type 0) → AllByRecursion (Present (λ is. Counted b is × P is)) os → Spanned b (length (joined (map (taken b hidden) os)))
      → (k : ℕ) (d : Option (List A)) → k < length os → SlotIs b (branch_column b os) (joined (map (taken b hidden) os)) k (get_or os k d)
  slot_is struct P z few k d h =
      let a = replicate 1 hidden in
      let even : AllByRecursion (λ xs. length xs ≡ 1) (map (or_else a) os) = even_filled 1 a P os refl z in
      let one : 1 * k ≡ k = omega arith in
      record { valid = valid_is os [] [] k d h; items = λ x e. (rw one at (even_in 1 a os even k h), rw one at (even_part 1 a os even k d h) ∙ or_else_some a (get_or os k d) x e) }
  slot_is (list false w) P z few k d h =
      record { valid = valid_is os (numbers (width w) (running 0 (sizes os))) [] k d h; items = λ x e. spanned os (width w) (omega (arith, wide_enough w)) [] k d h x e }
  slot_is (list true w) P z few k d h =
      let small : length (joined (map (or_else []) os)) < 256 ^ width w = omega (arith, wide_enough w) in
      record {
        valid = valid_is os (numbers (width w) (starts 0 (sizes os))) (numbers (width w) (sizes os)) k d h;
        items = λ x e. rw (start_in os (width w) small k h, size_in os (width w) small k h) (span_in os k h, span-at os k d h ∙ or_else_some [] (get_or os k d) x e);
      }
  slot_is (fixed n) P z few k d h =
      let a = replicate n hidden in
      let even : AllByRecursion (λ xs. length xs ≡ n) (map (or_else a) os) = even_filled n a P os (length-replicate n hidden) z in
      record { valid = valid_is os [] [] k d h; items = λ x e. (even_in n a os even k h, even_part n a os even k d h ∙ or_else_some a (get_or os k d) x e) }
  slot_is Branch.Map P z few k d h =
      record { valid = valid_is os (numbers 4 (running 0 (sizes os))) [] k d h; items = λ x e. spanned os 4 (omega arith) [] k d h x e }

-- a slot of a leaf
by_valid : {A : Type 0} (v : Bool) (y : A) (o : Option A) → v ≡ is_some o → ((x : A) → o ≡ some x → y ≡ x) → cond v (some y) none ≡ o
by_valid v y none e h = rw e
by_valid v y (some x) e h = rw e (ap some (h x refl))

bit_back : (x : List ℕ) → is_bit x ≡ true → (cond (eqb (get_or x 0 0) 1) 1 0 ∷ []) ≡ x
bit_back [] f = absurd (both_ways false refl f)
bit_back (b ∷ []) f = go b (ltb-true b 2 f)
  where
    go : (b : ℕ) → b < 2 → ◌≡◌ {A = List ℕ} (cond (eqb b 1) 1 0 ∷ []) (b ∷ [])
    go zero h = refl
    go (suc zero) h = refl
    go (suc (suc b)) h = absurd (omega arith)
bit_back (b ∷ (c ∷ bs)) f = absurd (both_ways false refl f)

pub eight_fits : (os : List (Option (List ℕ))) → AllByRecursion (Fits Eight) os → AllByRecursion (λ xs. length xs ≡ 8) (map (or_else (replicate 8 0)) os)
eight_fits [] a = tt
eight_fits (none ∷ os) a = (refl, eight_fits os a.1)
eight_fits (some x ∷ os) a = (eqb-true (length x) 8 a.0, eight_fits os a.1)

-- the bytes of a slot lie within the data
abbrev pub InData : Layout → (width : ℕ) → Column → ℕ → Type 0
InData None w c k = Unit {0}
InData Bit w c k = Unit {0}
InData Text w c k = offset w c k + extent w c k ≤ length c.bytes
InData Eight w c k = 8 * k + 8 ≤ length c.bytes

module _ (os : List (Option (List ℕ))) where
  none_is : (o : Option (List ℕ)) → Fits None o → none ≡ o
  none_is none f = refl
  none_is (some x) f = absurd (both_ways false refl f)

  pub leaf_is : (l : Layout) (kind : LeafKind) → AllByRecursion (Fits l) os → length (leaf_column l (text_width kind) os).bytes < 2 ^ 31 → (k : ℕ) (d : Option (List ℕ)) → k < length os
      → leaf_in l (text_width kind) (leaf_column l (text_width kind) os) k ≡ get_or os k d
  leaf_is None kind fits short k d h = none_is (get_or os k d) (All-get_or (Fits None) os k d h fits)
  leaf_is Bit kind fits short k d h =
      let test : Option (List ℕ) → Bool = λ o. eqb (get_or (or_else [] o) 0 0) 1 in
      let bits = packed (map test os) in
      let e : bitmap_bit bits k ≡ cond (test (get_or os k d)) 1 0 = bit_in (map test os) k (rw length-map h) ∙ ap (λ b. cond b 1 0) (get_or-map test os k d false h) in
      by_valid (is_valid (column os [] bits) k) (bitmap_bit bits k ∷ []) (get_or os k d) (valid_is os [] bits k d h)
      (λ x is. rw (e, is) (bit_back x (subst (Fits Bit) is (All-get_or (Fits Bit) os k d h fits))))
  leaf_is Text kind fits short k d h =
      let w = text_width kind in
      let bytes = joined (map (or_else []) os) in
      let c = column os (numbers w (running 0 (sizes os))) bytes in
      by_valid (is_valid c k) (part bytes (offset w c k) (extent w c k)) (get_or os k d) (valid_is os (numbers w (running 0 (sizes os))) bytes k d h)
      (λ x e. (spanned os w (omega (arith, text_enough kind)) bytes k d h x e).1)
  leaf_is Eight kind fits short k d h =
      let zeros : List ℕ = replicate 8 0 in
      let bytes = joined (map (or_else zeros) os) in
      by_valid (is_valid (column os [] bytes) k) (part bytes (8 * k) 8) (get_or os k d) (valid_is os [] bytes k d h)
      (λ x e. even_part 8 zeros os (eight_fits os fits) k d h ∙ or_else_some zeros (get_or os k d) x e)

  pub leaf_in_lem : (l : Layout) (kind : LeafKind) → AllByRecursion (Fits l) os → length (leaf_column l (text_width kind) os).bytes < 2 ^ 31 → (k : ℕ) → k < length os
      → InData l (text_width kind) (leaf_column l (text_width kind) os) k
  leaf_in_lem None kind fits short k h = tt
  leaf_in_lem Bit kind fits short k h = tt
  leaf_in_lem Text kind fits short k h =
      let small : length (joined (map (or_else []) os)) < 256 ^ text_width kind = omega (arith, text_enough kind) in
      rw (extent_in os (text_width kind) small k h, offset_in os (text_width kind) small k (omega arith)) (span_in os k h)
  leaf_in_lem Eight kind fits short k h = even_in 8 (replicate 8 0) os (eight_fits os fits) k h
