-- What is read of a batch is what it was made of, by the meaning of its buffers and through cells: the inductions over the tree.
use Rattle.std.proofs.Common.{◌≡◌, ℕ, zero, suc, ◌+◌, ◌*◌, ◌^◌, ◌<◌, ◌≤◌, Bool, true, false, cond, eqb, List, [], ◌∷◌, ◌++◌, map, length, get_or, drop, replicate, sym, refl, ap, ◌∙◌, subst, append_assoc, zero-add, arith, length-drop, length-take, drop-drop, drop_at}
use mathlib.Core.Option.{Option, none, some}
use native.Mathlib.Nat.{min-eq_left}
use lib.Dec.{eqb-suc-zero}
use lib.ListN.{length-map}
use Rattle.std.specs.List.{AllByRecursion}
use Rattle.std.proofs.lemmas.List.{get_or-map, drop_more}
use Rattle.std.proofs.ByRecursion.{All-append, All-map, All-weaker, All-get_or}
use Rattle.octets.specs.Lists.{part, joined, between}
use Rattle.octets.specs.Numbers.{bitmap_bit}
use Rattle.octets.proofs.Pieces.{between-at, part_in, take_own}
use Rattle.schema.specs.Tree.{Node, Fields, Field, branch, leaf, ◌⊕◌, field_of, nodes, nodes_in, Childed, WellFormed}
use Rattle.schema.specs.declared.kind.Branch.{Branch}
use Rattle.schema.specs.declared.kind.Branch.TheVariants.{Struct as struct, List as list, Fixed as fixed}
use Rattle.leaf.specs.declared.layout.Layout.{Layout}
use Rattle.leaf.specs.declared.layout.Layout.TheVariants.{None, Bit, Text, Eight}
use Rattle.slip.specs.Slips.{Got, got, then, each}
use Rattle.batch.specs.Values.{Setup, Value, Item, meaning, hides, taken}
use Rattle.batch.specs.Format.{Column, is_valid, offset, extent, span, leaf_in, text_width, value_in, item_in}
use Rattle.batch.specs.Batch.{branch_column, leaf_column, hidden_item, columns, columns_in, word_in, column_in}
use Rattle.batch.specs.Cells.{Cell, cell_of, shape_cell, branch_shape, leaf_cell, lying, reach, cell_in, read, read_item}
use Rattle.batch.proofs.Records.{AllStored, stored_append}
use Rattle.batch.specs.Suited.{Present, Counted, Sized, SizedItem}
use Rattle.batch.proofs.Sized.{hidden_sized_item}
use Rattle.batch.proofs.Columns.{branch_slots, leaf_slots, length-columns}
use Rattle.batch.proofs.Slots.{Spanned, SlotIs, slot_is, InData, leaf_is, leaf_in_lem}

all_replicate : {A : Type 0} (P : A → Type 0) (n : ℕ) (a : A) → P a → AllByRecursion P (replicate n a)
all_replicate P zero a p = tt
all_replicate P (suc n) a p = (p, all_replicate P n a p)

pub all-taken : {A : Type 0} (b : Branch) (P : A → Type 0) (Q : List A → Type 0) (a : A) → P a → (os : List (Option (List A))) → AllByRecursion (Present (λ is. Q is × AllByRecursion P is)) os → AllByRecursion P (joined (map (taken b a) os))
all-taken b P Q a p [] h = tt
all-taken b P Q a p (none ∷ os) h = All-append P (replicate (hides b) a) (joined (map (taken b a) os)) (all_replicate P (hides b) a p) (all-taken b P Q a p os h.1)
all-taken b P Q a p (some xs ∷ os) h = All-append P xs (joined (map (taken b a) os)) h.0.1 (all-taken b P Q a p os h.1)

pub all_present : {A : Type 0} (b : Branch) (P : A → Type 0) (a : A) → P a → (os : List (Option (List A))) → AllByRecursion (Present (AllByRecursion P)) os → AllByRecursion P (joined (map (taken b a) os))
all_present {A} b P a p os h = all-taken b P (λ is. Unit {0}) a p os (All-weaker (Present (AllByRecursion P)) (Present (λ is. Unit {0} × AllByRecursion P is)) with_unit os h)
  where
    with_unit : (o : Option (List A)) → Present (AllByRecursion P) o → Present (λ is. Unit {0} × AllByRecursion P is) o
    with_unit none h = tt
    with_unit (some is) h = (tt, h)

-- the head of what is left of a list
drop_head : {A : Type 0} (xs : List A) (i : ℕ) (x : A) (ys : List A) (d : A) → drop i xs ≡ x ∷ ys → (get_or xs i d ≡ x) × (i < length xs) × (drop (i + 1) xs ≡ ys)
drop_head [] zero x ys d e = absurd (let z : ◌≡◌ {A = ℕ} 0 1 = cc in omega arith)
drop_head [] (suc i) x ys d e = absurd (let z : ◌≡◌ {A = ℕ} 0 1 = cc in omega arith)
drop_head (z ∷ zs) zero x ys d e = (let q : z ≡ x = cc in q, omega arith, let q : zs ≡ ys = cc in q)
drop_head (z ∷ zs) (suc i) x ys d e =
    let r = drop_head zs i x ys d e in
    let n : suc i + 1 ≡ suc (i + 1) = omega arith in
    (r.0, omega (arith, r.1), rw n r.2)

-- f gives the elements of a list by their places
abbrev pub Gives : {A : Type 0} → (ℕ → A) → List A → Type 0
Gives {A} f es = (k : ℕ) (d : A) → k < length es → f k ≡ get_or es k d

pub map-between : {A : Type 0} (f : ℕ → A) (es : List A) → Gives f es → (from n : ℕ) → from + n ≤ length es → map f (between from n) ≡ part es from n
map-between f es gives from zero h = refl
map-between f es gives from (suc n) h =
    let here : from < length es = omega arith in
    rw (drop_more es from (f from) here, ← gives from (f from) here) (ap (λ r. f from ∷ r) (map-between f es gives (from + 1) n (omega arith)))

-- and so, if nothing is refused
abbrev pub Reads : {A : Type 0} → (ℕ → Got A) → List A → Type 0
Reads {A} f es = (k : ℕ) (d : A) → k < length es → f k ≡ got (get_or es k d)

pub each-between : {A : Type 0} (f : ℕ → Got A) (es : List A) → Reads f es → (from n : ℕ) → from + n ≤ length es → each f (between from n) ≡ got (part es from n)
each-between f es reads from zero h = refl
each-between f [] reads from (suc n) h = absurd (omega arith)
each-between f (y ∷ ys) reads from (suc n) h =
    let es = y ∷ ys in
    let here : from < length es = omega arith in
    rw (reads from y here, each-between f es reads (from + 1) n (omega arith), drop_more es from y here)

-- what a cell of a branch leads to, and what a cell of a leaf says
abbrev leads : {A : Type 0} → (ℕ → Got A) → Cell → Got (Option (List A))
leads g c =
    cond (eqb c.kind 0) (got none)
    (then (each g (cond (eqb c.kind 4) (c.first ∷ []) (between c.first c.second))) (λ is. got (some is)))

abbrev says : List ℕ → Cell → Got (Option (List ℕ))
says page c = cond (eqb c.kind 0) (got none) (got (some (cond (eqb c.kind 1) (c.first ∷ []) (part page c.first c.second))))

module _ {A : Type 0} (b : Branch) (c : Column) (es : List A) (k : ℕ) where
  gives_slot : (g : ℕ → A) → Gives g es → (o : Option (List A)) → SlotIs b c es k o → cond (is_valid c k) (some (map g (between (span b c k).0 (span b c k).1))) none ≡ o
  gives_slot g gives none s = rw s.valid
  gives_slot g gives (some x) s =
      let at = s.items x refl in
      rw s.valid (ap some (map-between g es gives (span b c k).0 (span b c k).1 at.0 ∙ at.1))

  leads-span : (g : ℕ → Got A) (place : ℕ) → leads g (shape_cell (branch_shape b) place c k) ≡ then (each g (between (span b c k).0 (span b c k).1)) (λ is. got (some is))
  leads-span g place = go b
    where
      go : (b : Branch) → leads g (shape_cell (branch_shape b) place c k) ≡ then (each g (between (span b c k).0 (span b c k).1)) (λ is. got (some is))
      go struct = refl
      go (list false w) = refl
      go (list true w) = refl
      go (fixed n) = refl
      go Branch.Map = refl

  leads_slot : (g : ℕ → Got A) (place : ℕ) → Reads g es → (o : Option (List A)) → SlotIs b c es k o → leads g (cond (is_valid c k) (shape_cell (branch_shape b) place c k) (cell_of 0 0 0)) ≡ got o
  leads_slot g place reads none s = rw s.valid
  leads_slot g place reads (some x) s =
      let at = s.items x refl in
      rw s.valid (leads-span g place ∙ ap (λ m. then m (λ is. got (some is))) (each-between g es reads (span b c k).0 (span b c k).1 at.0 ∙ ap got at.1))

-- a leaf's data on the page
module _ (page : List ℕ) (short : length page < 2 ^ 64) (place : ℕ) (c : Column) (lies : part page place (length c.bytes) ≡ c.bytes) where
  lying_is : (from size : ℕ) → from + size ≤ length c.bytes → says page (lying (reach place from) size) ≡ got (some (part c.bytes from size))
  lying_is from zero h = refl
  lying_is from (suc n) h =
      let long = ap length lies in
      let here : reach place from ≡ place + from = min-eq_left (omega (arith, length-take (length c.bytes) (drop place page), length-drop place page)) in
      rw (eqb-suc-zero n, here) (ap (λ bs. got (some bs)) (part_in page c.bytes place (length c.bytes) from (suc n) lies h))

  says_valid : (v : Bool) (d : Cell) (bs : List ℕ) → says page d ≡ got (some bs) → says page (cond v d (cell_of 0 0 0)) ≡ got (cond v (some bs) none)
  says_valid true d bs e = e
  says_valid false d bs e = refl

  says_none : (v : Bool) → says page (cond v (cell_of 0 0 0) (cell_of 0 0 0)) ≡ got none
  says_none true = refl
  says_none false = refl

  says_leaf : (l : Layout) (w k : ℕ) → InData l w c k → says page (cond (is_valid c k) (leaf_cell l w place c k) (cell_of 0 0 0)) ≡ got (leaf_in l w c k)
  says_leaf None w k h = says_none (is_valid c k)
  says_leaf Bit w k h = says_valid (is_valid c k) (cell_of 1 (bitmap_bit c.bytes k) 0) (bitmap_bit c.bytes k ∷ []) refl
  says_leaf Text w k h =
      says_valid (is_valid c k) (lying (reach place (offset w c k)) (extent w c k)) (part c.bytes (offset w c k) (extent w c k)) (lying_is (offset w c k) (extent w c k) h)
  says_leaf Eight w k h = says_valid (is_valid c k) (lying (reach place (8 * k)) 8) (part c.bytes (8 * k) 8) (lying_is (8 * k) 8 h)

data_lies : (page : List ℕ) → length page < 2 ^ 64 → (all bytes : List ℕ) (base place size : ℕ) → part page base (length all) ≡ all → part all place size ≡ bytes → part page (reach base place) (length bytes) ≡ bytes
data_lies page short all [] base place size holds e = refl
data_lies page short all (b ∷ bs) base place size holds e =
    let inside : place + length (b ∷ bs) ≤ length all = omega (arith, length-take size (drop place all), length-drop place all, ap length e) in
    let here : reach base place ≡ base + place = min-eq_left (omega (arith, ap length holds, length-take (length all) (drop base page), length-drop base page)) in
    rw here (part_in page all base (length all) place (length (b ∷ bs)) holds inside ∙ take_own size (drop place all) (b ∷ bs) e)

module _ (st : Setup) (all : List ℕ) where
  -- how many slots a node has
  pub slots_are : (c : Node) (os : List (Value c)) (i : ℕ) → AllStored all i (columns st c os) → (word_in all i 0 ≡ length os) × (length os < 2 ^ 31)
  slots_are (branch f b cs) os i s = let n = (branch_slots b os).0 in (ap (λ c. c.slots) s.0.is ∙ n, omega (arith, n, s.0.few))
  slots_are (leaf f k) os i s = let n = (leaf_slots (meaning st k).layout (text_width k) os).0 in (ap (λ c. c.slots) s.0.is ∙ n, omega (arith, n, s.0.few))

  few_in : (c : Node) (cs : Fields) (is : List (Item (c ⊕ cs))) (i : ℕ) → AllStored all i (columns_in st (c ⊕ cs) is) → length is < 2 ^ 31
  few_in c cs is i s =
      let parts = stored_append all (columns st c (map (λ i. i.0) is)) (columns_in st cs (map (λ i. i.1) is)) i s in
      omega (arith, (slots_are c (map (λ i. i.0) is) i parts.0).1, length-map is (λ i. i.0))

  pub few_items : (f : Field) (b : Branch) (cs : Fields) (is : List (Item cs)) (i : ℕ) → Childed (branch f b cs) → AllStored all i (columns_in st cs is) → Spanned b (length is)
  few_items f struct cs is i h s = tt
  few_items f (list v w) Fields.none is i h s = absurd (omega arith)
  few_items f (list v w) (c ⊕ cs) is i h s = few_in c cs is i s
  few_items f (fixed n) cs is i h s = tt
  few_items f Branch.Map Fields.none is i h s = absurd (omega arith)
  few_items f Branch.Map (c ⊕ cs) is i h s = few_in c cs is i s

-- a node that stands at the index i
pub record Stands (root c : Node) (i : ℕ) (more : List Node) : Type 0 where
  pub inside : i < length (nodes root)
  pub found : get_or (nodes root) i root ≡ c
  pub number : (field_of c).number ≡ i
  pub childed : Childed c
  pub next : drop (i + 1) (nodes root) ≡ more

pub stands : (root : Node) → WellFormed root → (c : Node) (i : ℕ) (more : List Node) → drop i (nodes root) ≡ c ∷ more → Stands root c i more
stands root well c i more e =
    let ns = nodes root in
    let r = drop_head ns i c more root e in
    record {
      inside = r.1;
      found = r.0;
      number =
          ap (λ c. (field_of c).number) (sym r.0) ∙ sym (get_or-map (λ c. (field_of c).number) ns i root 0 r.1) ∙ ap (λ xs. get_or xs i 0) well.numbered
          ∙ between-at 0 (length ns) i 0 r.1 ∙ zero-add i;
      childed = subst Childed r.0 (All-get_or Childed ns i root r.1 well.childed);
      next = r.2;
    }

pub stands_in : (root c : Node) (cs : Fields) (i : ℕ) (more : List Node) → drop i (nodes root) ≡ nodes_in (c ⊕ cs) ++ more
    → (drop i (nodes root) ≡ nodes c ++ (nodes_in cs ++ more)) × (drop (i + length (nodes c)) (nodes root) ≡ nodes_in cs ++ more)
stands_in root c cs i more e =
    let e' : drop i (nodes root) ≡ nodes c ++ (nodes_in cs ++ more) = e ∙ append_assoc (nodes c) (nodes_in cs) more in
    (e', sym (drop-drop (length (nodes c)) i (nodes root)) ∙ ap (drop (length (nodes c))) e' ∙ drop_at (nodes c) (nodes_in cs ++ more) (length (nodes c)) refl)

pub record Back {A : Type 0} (g : ℕ → A) (r : ℕ → Got A) (es : List A) : Type 0 where
  pub gives : Gives g es
  pub reads : Reads r es

-- a batch's bytes, from the place `base` of a page on, and cells that answer from them
module _ (st : Setup) (well : WellFormed st.root) (page : List ℕ) (base : ℕ) (all : List ℕ) (holds : part page base (length all) ≡ all) (short : length all < 2 ^ 31) (room : length page < 2 ^ 64)
    (ask : ℕ → ℕ → Got Cell)
    (asks : (n k : ℕ) → n < length (nodes st.root) → k < word_in all n 0 → ask n k ≡ got (cell_in st base all n (get_or (nodes st.root) n st.root) k)) where
  asked : (c : Node) (i : ℕ) (more : List Node) → Stands st.root c i more → (k : ℕ) → k < word_in all i 0 → ask (field_of c).number k ≡ got (cell_in st base all i c k)
  asked c i more s k h = ap (λ n. ask n k) s.number ∙ asks i k s.inside h ∙ ap (λ c. got (cell_in st base all i c k)) s.found

  mutual
    -- a node whose columns are stored from the index i on
    pub back : (c : Node) (i : ℕ) (more : List Node) → drop i (nodes st.root) ≡ nodes c ++ more → (os : List (Value c)) → AllByRecursion (Sized st c) os → AllStored all i (columns st c os)
        → Back (value_in st (column_in all) c) (read ask page c) os
    back (branch f b cs) i more e os z s =
        let c = stands st.root well (branch f b cs) i (nodes_in cs ++ more) e in
        let is = joined (map (taken b (hidden_item st cs)) os) in
        let col = branch_column b os in
        let under = back_items cs (i + 1) more c.next is (all-taken b (SizedItem st cs) (Counted b) (hidden_item st cs) (hidden_sized_item st cs) os z) s.1 in
        let G = item_in st (column_in all) cs in
        let R = read_item ask page cs in
        let few = few_items st all f b cs is (i + 1) c.childed s.1 in
        let place = reach base (word_in all i 6) in
        record {
          gives = λ k d h.
              ap (λ c. cond (is_valid c k) (some (map G (between (span b c k).0 (span b c k).1))) none) (ap (column_in all) c.number ∙ s.0.is)
              ∙ gives_slot b col is k G under.gives (get_or os k d) (slot_is (hidden_item st cs) os b (AllByRecursion (SizedItem st cs)) z few k d h);
          reads = λ k d h.
              ap (λ m. then m (leads R)) (asked (branch f b cs) i (nodes_in cs ++ more) c k (rw (slots_are st all (branch f b cs) os i s).0 h))
              ∙ ap (λ c. leads R (cond (is_valid c k) (shape_cell (branch_shape b) place c k) (cell_of 0 0 0))) s.0.is
              ∙ leads_slot b col is k R place under.reads (get_or os k d) (slot_is (hidden_item st cs) os b (AllByRecursion (SizedItem st cs)) z few k d h);
        }
    back (leaf f l) i more e os z s =
        let c = stands st.root well (leaf f l) i more e in
        let layout = (meaning st l).layout in
        let w = text_width l in
        let col = leaf_column layout w os in
        let data' : part all (word_in all i 6) (word_in all i 7) ≡ col.bytes = ap (λ c. c.bytes) s.0.is in
        let small : length col.bytes < 2 ^ 31 =
        omega (arith, ap length data', length-take (word_in all i 7) (drop (word_in all i 6) all), length-drop (word_in all i 6) all) in
        let place = reach base (word_in all i 6) in
        record {
          gives = λ k d h. ap (λ c. leaf_in layout w c k) (ap (column_in all) c.number ∙ s.0.is) ∙ leaf_is os layout l z small k d h;
          reads = λ k d h.
              ap (λ m. then m (says page)) (asked (leaf f l) i more c k (rw (slots_are st all (leaf f l) os i s).0 h))
              ∙ ap (λ c. says page (cond (is_valid c k) (leaf_cell layout w place c k) (cell_of 0 0 0))) s.0.is
              ∙ says_leaf page room place col (data_lies page room all col.bytes base (word_in all i 6) (word_in all i 7) holds data') layout w k (leaf_in_lem os layout l z small k h)
              ∙ ap got (leaf_is os layout l z small k d h);
        }

    back_items : (cs : Fields) (i : ℕ) (more : List Node) → drop i (nodes st.root) ≡ nodes_in cs ++ more → (is : List (Item cs)) → AllByRecursion (SizedItem st cs) is → AllStored all i (columns_in st cs is)
        → Back (item_in st (column_in all) cs) (read_item ask page cs) is
    back_items Fields.none i more e is z s = record { gives = λ k d h. refl; reads = λ k d h. refl }
    back_items (c ⊕ cs) i more e is z s =
        let xs = map (λ i. i.0) is in
        let ys = map (λ i. i.1) is in
        let parts = stored_append all (columns st c xs) (columns_in st cs ys) i s in
        let at = stands_in st.root c cs i more e in
        let first = back c i (nodes_in cs ++ more) at.0 xs (All-map (Sized st c) (λ i. i.0) is (All-weaker (SizedItem st (c ⊕ cs)) (λ i. Sized st c i.0) (λ i h. h.0) is z)) parts.0 in
        let rest = back_items cs (i + length (nodes c)) more at.1 ys (All-map (SizedItem st cs) (λ i. i.1) is (All-weaker (SizedItem st (c ⊕ cs)) (λ i. SizedItem st cs i.1) (λ i h. h.1) is z))
        (subst (λ m. AllStored all (i + m) (columns_in st cs ys)) (length-columns st c xs) parts.1) in
        record {
          gives = λ k d h.
              let p : value_in st (column_in all) c k ≡ (get_or is k d).0 = first.gives k d.0 (rw length-map h) ∙ get_or-map (λ (i : Item (c ⊕ cs)). i.0) is k d d.0 h in
              let q : item_in st (column_in all) cs k ≡ (get_or is k d).1 = rest.gives k d.1 (rw length-map h) ∙ get_or-map (λ (i : Item (c ⊕ cs)). i.1) is k d d.1 h in
              λ j. (p j, q j);
          reads = λ k d h.
              let p : read ask page c k ≡ got (get_or is k d).0 = first.reads k d.0 (rw length-map h) ∙ ap got (get_or-map (λ (i : Item (c ⊕ cs)). i.0) is k d d.0 h) in
              let q : read_item ask page cs k ≡ got (get_or is k d).1 = rest.reads k d.1 (rw length-map h) ∙ ap got (get_or-map (λ (i : Item (c ⊕ cs)). i.1) is k d d.1 h) in
              rw (p, q);
        }
