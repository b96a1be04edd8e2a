-- The columns of a batch are laid out as the Format says.
use Rattle.std.proofs.Common.{◌≡◌, ℕ, zero, suc, ◌+◌, ◌-◌, ◌*◌, ◌/◌, ◌^◌, ◌<◌, Bool, true, false, cond, eqb, List, [], ◌∷◌, ◌++◌, map, length, get_or, take, drop, replicate, sym, refl, ap, ◌∙◌, subst, arith, length-drop, length-take}
use mathlib.Core.Option.{Option, none, some}
use lib.ListN.{length-map, length-replicate}
use lib.Seq.{take-length}
use Rattle.std.specs.List.{AllByRecursion}
use Rattle.std.proofs.lemmas.List.{get_or-map}
use Rattle.std.proofs.ByRecursion.{All-map, All-weaker}
use Rattle.std.proofs.lemmas.Bool.{both_ways}
use Rattle.octets.specs.Lists.{joined, sum, between, running, starts, is_some, or_else}
use Rattle.octets.specs.Numbers.{numbers, packed}
use Rattle.octets.proofs.Pieces.{length_even, length-running, length-starts, sum_more, sum-take-le}
use Rattle.octets.proofs.Packs.{length-packed, length-numbers, spare_bits, bit_in}
use Rattle.schema.specs.Tree.{Node, Fields, branch, leaf, ◌⊕◌, field_of, nodes, nodes_in, WellFormed}
use Rattle.schema.specs.declared.kind.Branch.{Branch}
use Rattle.schema.specs.declared.kind.Branch.TheVariants.{Struct as struct, List as list, Fixed as fixed}
use Rattle.schema.specs.declared.kind.LeafKind.{LeafKind}
use Rattle.leaf.specs.declared.layout.Layout.{Layout}
use Rattle.leaf.specs.declared.layout.Layout.TheVariants.{None, Bit, Text, Eight}
use Rattle.batch.specs.Values.{Setup, Value, Item, meaning, taken}
use Rattle.batch.specs.Format.{is_valid, width, offset, Spare, text_width, Marked, Cuts, Views, BranchLaid, LeafLaid, Laid, LaidIn}
use Rattle.batch.specs.Batch.{nulls, sizes, column, branch_column, leaf_column, hidden, hidden_item, columns, columns_in, word_in, column_in}
use Rattle.batch.proofs.Records.{AllStored, stored_append}
use Rattle.batch.specs.Suited.{Present, Fits, Counted, Sized, SizedItem}
use Rattle.batch.proofs.Sized.{hidden_sized_item}
use Rattle.batch.proofs.Columns.{length-columns}
use Rattle.batch.proofs.Slots.{Spanned, valid_is, size_at, extent_in, even_part, wide_half, text_half, offset_in, start_in, size_in, span_in, length_items, length-sizes, even_filled, eight_fits, wide_enough, text_enough}
use Rattle.batch.proofs.Back.{Gives, map-between, all-taken, slots_are, few_items, stands, stands_in}

abbrev one : {A : Type 0} → Option A → ℕ
one o = cond (is_some o) 0 1

nulls-sum : {A : Type 0} (os : List (Option A)) → nulls os ≡ sum (map one os)
nulls-sum [] = refl
nulls-sum (none ∷ os) = ap (λ n. 1 + n) (nulls-sum os)
nulls-sum (some x ∷ os) = nulls-sum os ∙ omega arith

marked : {A : Type 0} (os : List (Option A)) (offsets bytes : List ℕ) → Marked (column os offsets bytes)
marked {A} os offsets bytes = record { counted = nulls-sum os ∙ sym counts; bits = bits (eqb (nulls os) 0); spare = spare (eqb (nulls os) 0) }
  where
    f : ℕ → ℕ
    f j = cond (is_valid (column os offsets bytes) j) 0 1

    gives : Gives f (map one os)
    gives k d h =
        let l : k < length os = rw length-map at h in
        ap (λ b. cond b 0 1) (valid_is os offsets bytes k none l) ∙ sym (get_or-map one os k none d l)

    counts : sum (map f (between 0 (length os))) ≡ sum (map one os)
    counts = ap sum (map-between f (map one os) gives 0 (length os) (omega (arith, length-map os one)) ∙ ap (λ n. take n (map one os)) (sym (length-map os one)) ∙ take-length (map one os))

    bits : (b : Bool) → length (cond b [] (packed (map is_some os))) ≡ cond b 0 ((length os + 7) / 8)
    bits true = refl
    bits false = length-packed (map is_some os) ∙ ap (λ n. (n + 7) / 8) (length-map os is_some)

    spare : (b : Bool) → Spare (cond b [] (packed (map is_some os))) (length os)
    spare true = λ j h l. absurd (omega arith)
    spare false = λ j h l. spare_bits (map is_some os) j (rw length-map h) l

-- a slot that is not valid holds nothing
not_valid : {A : Type 0} (os : List (Option A)) (offsets bytes : List ℕ) (k : ℕ) → k < length os → is_valid (column os offsets bytes) k ≡ false → get_or os k none ≡ none
not_valid {A} os offsets bytes k h e = go (get_or os k none) (sym (valid_is os offsets bytes k none h) ∙ e)
  where
    go : (o : Option A) → is_some o ≡ false → o ≡ none
    go none q = refl
    go (some x) q = absurd (both_ways true q refl)

module _ {A : Type 0} (os : List (Option (List A))) where
  all-sizes : sum (take (length os) (sizes os)) ≡ length (joined (map (or_else []) os))
  all-sizes = rw (← length-sizes os) (ap sum (take-length (sizes os)) ∙ sym (length_items os))

  no_size : (offsets bytes : List ℕ) (k : ℕ) → k < length os → is_valid (column os offsets bytes) k ≡ false → get_or (sizes os) k 0 ≡ 0
  no_size offsets bytes k h e = size_at os k none h ∙ ap (λ o. length (or_else [] o)) (not_valid os offsets bytes k h e)

  cuts : (w : ℕ) (bytes : List ℕ) → length (joined (map (or_else []) os)) < 256 ^ w → length (joined (map (or_else []) os)) < 2 ^ (8 * w - 1)
      → Cuts w (column os (numbers w (running 0 (sizes os))) bytes) (length (joined (map (or_else []) os)))
  cuts w bytes small half = record {
    size = length-numbers w (running 0 (sizes os)) ∙ ap (λ n. w * n) (length-running 0 (sizes os) ∙ ap (λ n. n + 1) (length-sizes os));
    signed = λ j h. rw (offset_in os w small j h) (omega (arith, sum-take-le (sizes os) j, length_items os));
    first = offset_in os w small 0 (omega arith);
    rising = λ j h. rw (offset_in os w small j (omega arith), offset_in os w small (j + 1) (omega arith)) (omega (arith, sum_more (sizes os) j 0 (rw (length-sizes os) h)));
    last = offset_in os w small (length os) (omega arith) ∙ all-sizes;
    empty = λ j h e. extent_in os w small j h ∙ no_size (numbers w (running 0 (sizes os))) bytes j h e;
  }

  views : (w : ℕ) → length (joined (map (or_else []) os)) < 256 ^ w → length (joined (map (or_else []) os)) < 2 ^ (8 * w - 1)
      → Views w (column os (numbers w (starts 0 (sizes os))) (numbers w (sizes os))) (length (joined (map (or_else []) os)))
  views w small half = record {
    offsets = length-numbers w (starts 0 (sizes os)) ∙ ap (λ n. w * n) (length-starts 0 (sizes os) ∙ length-sizes os);
    sizes = length-numbers w (sizes os) ∙ ap (λ n. w * n) (length-sizes os);
    signed = λ j h. rw (start_in os w small j h, size_in os w small j h) (omega (arith, span_in os j h), omega (arith, span_in os j h));
    within = λ j h. rw (start_in os w small j h, size_in os w small j h) (span_in os j h);
    first = λ h. start_in os w small 0 h;
    next = λ j h. rw (start_in os w small (j + 1) h, start_in os w small j (omega arith), size_in os w small j (omega arith)) (sum_more (sizes os) j 0 (rw (length-sizes os) (omega arith)));
    empty = λ j h e. size_in os w small j h ∙ no_size (numbers w (starts 0 (sizes os))) (numbers w (sizes os)) j h e;
  }

  even_long : (n : ℕ) (a : A) (P : List A → Type 0) → AllByRecursion (Present (λ is. (length is ≡ n) × P is)) os → length (joined (map (or_else (replicate n a)) os)) ≡ n * length os
  even_long n a P z = length_even n (map (or_else (replicate n a)) os) (even_filled n (replicate n a) P os (length-replicate n a) z) ∙ ap (λ m. n * m) (length-map os (or_else (replicate n a)))

-- a struct of n slots without nulls
zero_sum : (from n : ℕ) → sum (map (λ (j : ℕ). 0) (between from n)) ≡ 0
zero_sum from zero = refl
zero_sum from (suc n) = omega (arith, zero_sum (from + 1) n)

full_marked : (n : ℕ) → Marked (record { slots = n; nulls = 0; validity = []; offsets = []; bytes = [] })
full_marked n = record { counted = sym (zero_sum 0 n); bits = refl; spare = λ j h l. absurd (omega arith) }

branch_laid : {A : Type 0} (hidden : A) (os : List (Option (List A))) (b : Branch) (P : List A → Type 0) → AllByRecursion (Present (λ is. Counted b is × P is)) os
    → Spanned b (length (joined (map (taken b hidden) os))) → Marked (branch_column b os) × BranchLaid b (branch_column b os) (length (joined (map (taken b hidden) os)))
branch_laid hidden os struct P z few = (marked os [] [], (refl, refl, even_long os 1 hidden P z ∙ omega arith))
branch_laid hidden os (list false w) P z few = (marked os _ [], (cuts os (width w) [] (omega (arith, wide_enough w)) (omega (arith, wide_half w)), refl))
branch_laid hidden os (list true w) P z few = (marked os _ _, views os (width w) (omega (arith, wide_enough w)) (omega (arith, wide_half w)))
branch_laid hidden os (fixed n) P z few = (marked os [] [], (refl, refl, even_long os n hidden P z))
branch_laid hidden os Branch.Map P z few =
    let c = cuts os 4 [] (omega arith) (omega arith) in
    (marked os _ [], (c, refl, full_marked (offset 4 (branch_column Branch.Map os) (length os)), sym c.last))

leaf_laid : (os : List (Option (List ℕ))) (l : Layout) (kind : LeafKind) → AllByRecursion (Fits l) os → length (leaf_column l (text_width kind) os).bytes < 2 ^ 31
    → LeafLaid l (text_width kind) (leaf_column l (text_width kind) os)
leaf_laid os None kind z short = (refl, refl, refl, refl)
leaf_laid os Bit kind z short =
    let test : Option (List ℕ) → Bool = λ o. eqb (get_or (or_else [] o) 0 0) 1 in (
      marked os [] _,
      refl,
      length-packed (map test os) ∙ ap (λ n. (n + 7) / 8) (length-map os test),
      λ j h l. spare_bits (map test os) j (rw length-map h) l,
      λ j h e. bit_in (map test os) j (rw length-map h) ∙ ap (λ b. cond b 1 0) (get_or-map test os j none false h ∙ ap test (not_valid os [] (packed (map test os)) j h e)),
    )
leaf_laid os Text kind z short = (marked os _ _, cuts os (text_width kind) _ (omega (arith, text_enough kind)) (omega (arith, text_half kind)))
leaf_laid os Eight kind z short =
    let zeros : List ℕ = replicate 8 0 in (
      marked os [] _,
      refl,
      length_even 8 (map (or_else zeros) os) (eight_fits os z) ∙ ap (λ m. 8 * m) (length-map os (or_else zeros)),
      λ j h e. even_part 8 zeros os (eight_fits os z) j none h ∙ ap (or_else zeros) (not_valid os [] (joined (map (or_else zeros) os)) j h e),
    )

module _ (st : Setup) (well : WellFormed st.root) (all : List ℕ) (short : length all < 2 ^ 31) where
  pub number_of : (c : Node) (i : ℕ) (more : List Node) → drop i (nodes st.root) ≡ nodes c ++ more → (field_of c).number ≡ i
  number_of (branch f b cs) i more e = (stands st.root well (branch f b cs) i (nodes_in cs ++ more) e).number
  number_of (leaf f k) i more e = (stands st.root well (leaf f k) i more e).number

  mutual
    pub laid : (c : Node) (i : ℕ) (more : List Node) → drop i (nodes st.root) ≡ nodes c ++ more → (os : List (Value c)) → AllByRecursion (Sized st c) os → AllStored all i (columns st c os)
        → Laid st (column_in all) c
    laid (branch f b cs) i more e os z s =
        let c = stands st.root well (branch f b cs) i (nodes_in cs ++ more) e in
        let is = joined (map (taken b (hidden_item st cs)) os) in
        let few = few_items st all f b cs is (i + 1) c.childed s.1 in
        let r = branch_laid (hidden_item st cs) os b (AllByRecursion (SizedItem st cs)) z few in
        let col-is : branch_column b os ≡ column_in all f.number = sym (ap (column_in all) c.number ∙ s.0.is) in (
          subst Marked col-is r.0,
          (
            length is,
            subst (λ c. BranchLaid b c (length is)) col-is r.1,
            laid_in cs (i + 1) more c.next is (all-taken b (SizedItem st cs) (Counted b) (hidden_item st cs) (hidden_sized_item st cs) os z) s.1 (length is) refl,
          ),
        )
    laid (leaf f k) i more e os z s =
        let c = stands st.root well (leaf f k) i more e in
        let col = leaf_column (meaning st k).layout (text_width k) os in
        let small : length col.bytes < 2 ^ 31 =
        omega (arith, ap (λ c. length c.bytes) s.0.is, length-take (word_in all i 7) (drop (word_in all i 6) all), length-drop (word_in all i 6) all) in
        subst (LeafLaid (meaning st k).layout (text_width k)) (sym (ap (column_in all) c.number ∙ s.0.is)) (leaf_laid os (meaning st k).layout k z small)

    laid_in : (cs : Fields) (i : ℕ) (more : List Node) → drop i (nodes st.root) ≡ nodes_in cs ++ more → (is : List (Item cs)) → AllByRecursion (SizedItem st cs) is → AllStored all i (columns_in st cs is)
        → (n : ℕ) → length is ≡ n → LaidIn st (column_in all) cs n
    laid_in Fields.none i more e is z s n l = tt
    laid_in (c ⊕ cs) i more e is z s n l =
        let xs = map (λ i. i.0) is in
        let ys = map (λ i. i.1) is in
        let parts = stored_append all (columns st c xs) (columns_in st cs ys) i s in
        let at = stands_in st.root c cs i more e in (
          ap (λ n. word_in all n 0) (number_of c i (nodes_in cs ++ more) at.0) ∙ (slots_are st all c xs i parts.0).0 ∙ length-map is (λ i. i.0) ∙ l,
          laid c i (nodes_in cs ++ more) at.0 xs (All-map (Sized st c) (λ i. i.0) is (All-weaker (SizedItem st (c ⊕ cs)) (λ i. Sized st c i.0) (λ i h. h.0) is z)) parts.0,
          laid_in cs (i + length (nodes c)) more at.1 ys (All-map (SizedItem st cs) (λ i. i.1) is (All-weaker (SizedItem st (c ⊕ cs)) (λ i. SizedItem st cs i.1) (λ i h. h.1) is z))
              (subst (λ m. AllStored all (i + m) (columns_in st cs ys)) (length-columns st c xs) parts.1) n (length-map is (λ i. i.1) ∙ l),
        )
