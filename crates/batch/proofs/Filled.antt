-- Where a child may not be null it is not: of the values of positions that fit, and of the columns that they make.
use Rattle.std.proofs.Common.{◌≡◌, ℕ, ◌+◌, ◌-◌, ◌^◌, ◌<◌, ◌≤◌, Bool, true, false, not, ◌&&◌, ◌||◌, List, [], ◌∷◌, ◌++◌, map, length, get_or, drop, sym, refl, ap, ◌∙◌, subst, arith, length-drop, length-take, get_or-drop, get_or-take}
use mathlib.Core.Option.{Option, none, some}
use lib.ListN.{length-map}
use Rattle.std.specs.List.{AllByRecursion}
use Rattle.std.proofs.lemmas.List.{get_or-map}
use Rattle.std.proofs.ByRecursion.{All-map, All-weaker, All-get_or}
use Rattle.std.proofs.lemmas.Bool.{both_ways, and_parts, or_parts}
use Rattle.octets.specs.Lists.{joined, is_some, via, all, or_else, first, rest}
use Rattle.schema.specs.Tree.{Node, Fields, branch, leaf, ◌⊕◌, field_of, nodes, nodes_in, WellFormed}
use Rattle.schema.specs.declared.kind.Branch.{Branch}
use Rattle.schema.specs.declared.kind.Branch.TheVariants.{Struct as struct, List as list, Fixed as fixed}
use Rattle.tape.specs.View.{TapeView}
use Rattle.leaf.specs.declared.layout.Layout.{Layout}
use Rattle.leaf.specs.declared.layout.Layout.TheVariants.{None, Bit, Text, Eight}
use Rattle.slip.specs.Slips.{Got, refuse, got, is_got, accepted}
use Rattle.batch.specs.Rows.{row_at}
use Rattle.batch.specs.Values.{Setup, Value, Item, meaning, is_null, keeps_none, may_be_null, below, taken, zeros, value, filled, fits, fit_item}
use Rattle.batch.specs.Format.{Column, is_valid, span, text_width, Filled, FilledAt, FilledIn}
use Rattle.batch.specs.Batch.{branch_column, leaf_column, hidden, hidden_item, columns, columns_in, column_in}
use Rattle.batch.proofs.Worth.{worth, worth_item, worth_is}
use Rattle.batch.proofs.Tests.{all_both}
use Rattle.batch.proofs.Records.{AllStored, stored_append}
use Rattle.batch.specs.Suited.{there, Unbare, Full, FullIn, Present, Counted, Sized, SizedItem}
use Rattle.batch.proofs.Sized.{hidden_sized_item}
use Rattle.batch.proofs.Columns.{branch_slots, length-columns}
use Rattle.batch.proofs.Slots.{valid_is, SlotIs, slot_is}
use Rattle.batch.proofs.Back.{all-taken, few_items, stands, stands_in}
use Rattle.batch.proofs.Layouts.{number_of}

not_not : (b : Bool) → not (not b) ≡ true → b ≡ true
not_not true e = refl
not_not false e = e

not_null : (c : Node) (v : Value c) → not (is_null c (got v)) ≡ true → there c v ≡ true
not_null (branch f b cs) v e = not_not (is_some v) e
not_null (leaf f k) v e = not_not (is_some v) e

pub all_by : {A B : Type 0} (P : B → Type 0) (w : A → B) (test : A → Bool) → ((x : A) → test x ≡ true → P (w x)) → (xs : List A) → all test xs ≡ true → AllByRecursion P (map w xs)
all_by P w test h [] e = tt
all_by P w test h (x ∷ xs) e = let both = and_parts (test x) (all test xs) e in (h x both.0, all_by P w test h xs both.1)

module _ (st : Setup) where
  hidden_full : (c : Node) → Full st c (hidden st c)
  hidden_full (branch f b cs) = tt
  hidden_full (leaf f k) = tt

  hidden_full_item : (cs : Fields) → FullIn st cs (hidden_item st cs)
  hidden_full_item Fields.none = tt
  hidden_full_item (c ⊕ cs) = (hidden_full c, hidden_full_item cs)

  module _ (t : TapeView) where
    one : (c : Node) (b : Bool) (m : Got (Value c)) (v : Value c) → b ≡ false → m ≡ got v → (b || not (is_null c m)) ≡ true → there c v ≡ true
    one c b m v e f h = not_null c v (rw (e, f) at h)

    unbare : (cs : Fields) (force : Bool) (ps : List ℕ) → (fit_item st t cs force ps && filled st t cs force ps) ≡ true → Unbare st cs (worth_item st t cs force ps)
    unbare Fields.none force ps e = tt
    unbare (c ⊕ cs) force ps e =
        let F = force || (field_of c).nullable in
        let both = and_parts (fit_item st t (c ⊕ cs) force ps) (filled st t (c ⊕ cs) force ps) e in
        let fit = and_parts (fits st t c F (first ps)) (fit_item st t cs force (rest ps)) both.0 in
        let fill = and_parts (may_be_null st c || not (is_null c (value st t c F (first ps)))) (filled st t cs force (rest ps)) both.1 in (
          λ may. one c (may_be_null st c) (value st t c F (first ps)) (worth st t c F (first ps)) may (worth_is st t c F (first ps) fit.0) fill.0,
          unbare cs force (rest ps) (rw (fit.1, fill.1) refl),
        )

    mutual
      pub full_value : (c : Node) (force : Bool) (p : ℕ) → fits st t c force p ≡ true → Full st c (worth st t c force p)
      full_value (branch f b cs) force p e = go (worth_item st t cs (below b force)) (unbare cs (below b force)) (full_item cs (below b force)) (row_at st.settings t f b cs force p) e
        where
          go : (w : List ℕ → Item cs) → ((ps : List ℕ) → (fit_item st t cs (below b force) ps && filled st t cs (below b force) ps) ≡ true → Unbare st cs (w ps))
              → ((ps : List ℕ) → fit_item st t cs (below b force) ps ≡ true → FullIn st cs (w ps)) → (row : Got (Option (List (List ℕ))))
              → (is_got row && (all (fit_item st t cs (below b force)) (taken b (zeros cs) (accepted row)) && all (filled st t cs (below b force)) (or_else [] (accepted row)))) ≡ true
              → Present (λ is. AllByRecursion (Unbare st cs) is × AllByRecursion (FullIn st cs) is) (via (map w) (accepted row))
          go w u f (refuse r) e = tt
          go w u f (got none) e = tt
          go w u f (got (some is)) e = (
            all_by (Unbare st cs) w (λ ps. fit_item st t cs (below b force) ps && filled st t cs (below b force) ps) u is (all_both (fit_item st t cs (below b force)) (filled st t cs (below b force)) is ∙ e),
            all_by (FullIn st cs) w (fit_item st t cs (below b force)) f is (and_parts (all (fit_item st t cs (below b force)) is) (all (filled st t cs (below b force)) is) e).0,
          )
      full_value (leaf f k) force p e = tt

      full_item : (cs : Fields) (force : Bool) (ps : List ℕ) → fit_item st t cs force ps ≡ true → FullIn st cs (worth_item st t cs force ps)
      full_item Fields.none force ps e = tt
      full_item (c ⊕ cs) force ps e =
          let both = and_parts (fits st t c (force || (field_of c).nullable) (first ps)) (fit_item st t cs force (rest ps)) e in
          (full_value c (force || (field_of c).nullable) (first ps) both.0, full_item cs force (rest ps) both.1)

-- valid slots, by the values
branch_valid : {A : Type 0} (b : Branch) (os : List (Option (List A))) (k : ℕ) (d : Option (List A)) → k < length os → is_valid (branch_column b os) k ≡ is_some (get_or os k d)
branch_valid struct os k d h = valid_is os [] [] k d h
branch_valid (list false w) os k d h = valid_is os [] [] k d h
branch_valid (list true w) os k d h = valid_is os [] [] k d h
branch_valid (fixed n) os k d h = valid_is os [] [] k d h
branch_valid Branch.Map os k d h = valid_is os [] [] k d h

leaf_valid : (l : Layout) (w : ℕ) (os : List (Option (List ℕ))) → keeps_none l ≡ false → (k : ℕ) (d : Option (List ℕ)) → k < length os → is_valid (leaf_column l w os) k ≡ is_some (get_or os k d)
leaf_valid None w os e k d h = absurd (both_ways true e refl)
leaf_valid Bit w os e k d h = valid_is os [] [] k d h
leaf_valid Text w os e k d h = valid_is os [] [] k d h
leaf_valid Eight w os e k d h = valid_is os [] [] k d h

is_some_lem : {A : Type 0} (o : Option A) → is_some o ≡ true → (x : A) × (o ≡ some x)
is_some_lem none e = absurd (both_ways false refl e)
is_some_lem (some x) e = (x, refl)

-- an item of a slot that is valid
item_of : {A : Type 0} (P : A → Type 0) (b : Branch) (c : Column) (es : List A) (j : ℕ) (o : Option (List A)) → SlotIs b c es j o → is_valid c j ≡ true → ((x : List A) → o ≡ some x → AllByRecursion P x)
    → (k : ℕ) → (span b c j).0 ≤ k → k < (span b c j).0 + (span b c j).1 → (k < length es) × ((d : A) → P (get_or es k d))
item_of P b c es j o s v all_of k lo hi =
    let it = is_some_lem o (sym s.valid ∙ v) in
    let x = it.0 in
    let at = s.items x it.1 in
    let from = (span b c j).0 in
    let n = (span b c j).1 in
    let long : length x ≡ n = omega (arith, ap length at.1, length-take n (drop from es), length-drop from es, at.0) in
    let back : from + (k - from) ≡ k = omega arith in (
      omega (arith, at.0),
      λ d.
          let is : get_or x (k - from) d ≡ get_or es k d =
          ap (λ ys. get_or ys (k - from) d) (sym at.1) ∙ get_or-take n (drop from es) (k - from) d (omega arith) ∙ get_or-drop from es (k - from) d ∙ ap (λ m. get_or es m d) back in
          subst P is (All-get_or P x (k - from) d (omega arith) (all_of x it.1)),
    )

module _ (st : Setup) (well : WellFormed st.root) (bytes : List ℕ) (short : length bytes < 2 ^ 31) where
  valid_child : (c : Node) (i : ℕ) (more : List Node) → drop i (nodes st.root) ≡ nodes c ++ more → (xs : List (Value c)) → AllStored bytes i (columns st c xs) → may_be_null st c ≡ false
      → (k : ℕ) (d : Value c) → k < length xs → is_valid (column_in bytes (field_of c).number) k ≡ there c (get_or xs k d)
  valid_child (branch f b cs) i more e xs s may k d h =
      ap (λ c. is_valid c k) (ap (column_in bytes) (number_of st well bytes short (branch f b cs) i more e) ∙ s.0.is) ∙ branch_valid b xs k d h
  valid_child (leaf f l) i more e xs s may k d h =
      ap (λ c. is_valid c k) (ap (column_in bytes) (number_of st well bytes short (leaf f l) i more e) ∙ s.0.is)
      ∙ leaf_valid (meaning st l).layout (text_width l) xs (or_parts f.nullable (keeps_none (meaning st l).layout) may).1 k d h

  filled_at : (cs : Fields) (i : ℕ) (more : List Node) → drop i (nodes st.root) ≡ nodes_in cs ++ more → (is : List (Item cs)) → AllStored bytes i (columns_in st cs is)
      → (k : ℕ) (d : Item cs) → k < length is → Unbare st cs (get_or is k d) → FilledAt st (column_in bytes) cs k
  filled_at Fields.none i more e is s k d h u = tt
  filled_at (c ⊕ cs) i more e is s k d h u =
      let xs = map (λ i. i.0) is in
      let ys = map (λ i. i.1) is in
      let parts = stored_append bytes (columns st c xs) (columns_in st cs ys) i s in
      let at = stands_in st.root c cs i more e in (
        λ may.
            valid_child c i (nodes_in cs ++ more) at.0 xs parts.0 may k d.0 (rw length-map h)
            ∙ ap (there c) (get_or-map (λ (i : Item (c ⊕ cs)). i.0) is k d d.0 h) ∙ u.0 may,
        filled_at cs (i + length (nodes c)) more at.1 ys (subst (λ m. AllStored bytes (i + m) (columns_in st cs ys)) (length-columns st c xs) parts.1) k d.1 (rw length-map h)
            (subst (Unbare st cs) (sym (get_or-map (λ (i : Item (c ⊕ cs)). i.1) is k d d.1 h)) u.1),
      )

  mutual
    pub filled_is : (c : Node) (i : ℕ) (more : List Node) → drop i (nodes st.root) ≡ nodes c ++ more → (os : List (Value c)) → AllByRecursion (Sized st c) os → AllByRecursion (Full st c) os
        → AllStored bytes i (columns st c os) → Filled st (column_in bytes) c
    filled_is (branch f b cs) i more e os z u s =
        let c = stands st.root well (branch f b cs) i (nodes_in cs ++ more) e in
        let is = joined (map (taken b (hidden_item st cs)) os) in
        let few = few_items st bytes f b cs is (i + 1) c.childed s.1 in
        let col-is : branch_column b os ≡ column_in bytes f.number = sym (ap (column_in bytes) c.number ∙ s.0.is) in (
          subst (λ own. (j k : ℕ) → j < own.slots → is_valid own j ≡ true → (span b own j).0 ≤ k → k < (span b own j).0 + (span b own j).1 → FilledAt st (column_in bytes) cs k) col-is
              (λ j k h v lo hi.
              let l : j < length os = rw (branch_slots b os).0 at h in
              let slot = slot_is (hidden_item st cs) os b (AllByRecursion (SizedItem st cs)) z few j none l in
              let it = item_of (Unbare st cs) b (branch_column b os) is j (get_or os j none) slot v
              (λ x e. (subst (Present (λ is. AllByRecursion (Unbare st cs) is × AllByRecursion (FullIn st cs) is)) e (All-get_or (Full st (branch f b cs)) os j none l u)).0) k lo hi in
              filled_at cs (i + 1) more c.next is s.1 k (hidden_item st cs) it.0 (it.1 (hidden_item st cs))),
          filled_in cs (i + 1) more c.next is (all-taken b (SizedItem st cs) (Counted b) (hidden_item st cs) (hidden_sized_item st cs) os z)
              (all-taken b (FullIn st cs) (AllByRecursion (Unbare st cs)) (hidden_item st cs) (hidden_full_item st cs) os u) s.1,
        )
    filled_is (leaf f k) i more e os z u s = tt

    filled_in : (cs : Fields) (i : ℕ) (more : List Node) → drop i (nodes st.root) ≡ nodes_in cs ++ more → (is : List (Item cs)) → AllByRecursion (SizedItem st cs) is → AllByRecursion (FullIn st cs) is
        → AllStored bytes i (columns_in st cs is) → FilledIn st (column_in bytes) cs
    filled_in Fields.none i more e is z u s = tt
    filled_in (c ⊕ cs) i more e is z u s =
        let xs = map (λ i. i.0) is in
        let ys = map (λ i. i.1) is in
        let parts = stored_append bytes (columns st c xs) (columns_in st cs ys) i s in
        let at = stands_in st.root c cs i more e in (
          filled_is c i (nodes_in cs ++ more) at.0 xs (All-map (Sized st c) (λ i. i.0) is (All-weaker (SizedItem st (c ⊕ cs)) (λ i. Sized st c i.0) (λ i h. h.0) is z))
              (All-map (Full st c) (λ i. i.0) is (All-weaker (FullIn st (c ⊕ cs)) (λ i. Full st c i.0) (λ i h. h.0) is u)) parts.0,
          filled_in cs (i + length (nodes c)) more at.1 ys (All-map (SizedItem st cs) (λ i. i.1) is (All-weaker (SizedItem st (c ⊕ cs)) (λ i. SizedItem st cs i.1) (λ i h. h.1) is z))
              (All-map (FullIn st cs) (λ i. i.1) is (All-weaker (FullIn st (c ⊕ cs)) (λ i. FullIn st cs i.1) (λ i h. h.1) is u))
              (subst (λ m. AllStored bytes (i + m) (columns_in st cs ys)) (length-columns st c xs) parts.1),
        )
