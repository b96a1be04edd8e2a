-- The columns of row values: how many, with how many slots, whatever the items are.
use Rattle.std.proofs.Common.{◌≡◌, ℕ, zero, suc, ◌+◌, ◌≤◌, true, false, List, [], ◌∷◌, ◌++◌, map, length, replicate, sym, refl, ap, ◌∙◌, ap₂, arith, length-append}
use mathlib.Core.Option.{Option, none, some}
use lib.ListN.{length-map}
use Rattle.std.proofs.lemmas.List.{map-append}
use Rattle.octets.specs.Lists.{joined, running, starts, is_some, via}
use Rattle.octets.specs.Numbers.{numbers}
use Rattle.schema.specs.Tree.{Node, Fields, branch, leaf, ◌⊕◌, nodes, nodes_in}
use Rattle.schema.specs.declared.kind.Branch.{Branch}
use Rattle.schema.specs.declared.kind.Branch.TheVariants.{Struct as struct, List as list, Fixed as fixed}
use Rattle.leaf.specs.declared.layout.Layout.{Layout}
use Rattle.leaf.specs.declared.layout.Layout.TheVariants.{None, Bit, Text, Eight}
use Rattle.batch.specs.Values.{Setup, Value, Item, hides, taken}
use Rattle.batch.specs.Batch.{nulls, column, sizes, branch_column, leaf_column, columns, columns_in}
use Rattle.batch.specs.Format.{width}

-- columns go by what is null and by sizes, whatever the items are
module _ {A B : Type 0} (g : A → B) where
  nulls-via : (os : List (Option A)) → nulls (map (via g) os) ≡ nulls os
  nulls-via [] = refl
  nulls-via (none ∷ os) = ap (λ n. 1 + n) (nulls-via os)
  nulls-via (some x ∷ os) = nulls-via os

  marks-via : (os : List (Option A)) → map is_some (map (via g) os) ≡ map is_some os
  marks-via [] = refl
  marks-via (none ∷ os) = ap (λ r. false ∷ r) (marks-via os)
  marks-via (some x ∷ os) = ap (λ r. true ∷ r) (marks-via os)

  column-via : (os : List (Option A)) (o b : List ℕ) → column (map (via g) os) o b ≡ column os o b
  column-via os o b = simp (nulls-via, marks-via, length-map)

module _ {A B : Type 0} (g : A → B) where
  sizes-via : (os : List (Option (List A))) → sizes (map (via (map g)) os) ≡ sizes os
  sizes-via [] = refl
  sizes-via (none ∷ os) = ap (λ r. 0 ∷ r) (sizes-via os)
  sizes-via (some xs ∷ os) = rw (length-map xs g, sizes-via os)

  pub branch_column-via : (b : Branch) (os : List (Option (List A))) → branch_column b (map (via (map g)) os) ≡ branch_column b os
  branch_column-via struct os = column-via (map g) os [] []
  branch_column-via (list false w) os = rw (sizes-via os) (column-via (map g) os (numbers (width w) (running 0 (sizes os))) [])
  branch_column-via (list true w) os = rw (sizes-via os) (column-via (map g) os (numbers (width w) (starts 0 (sizes os))) (numbers (width w) (sizes os)))
  branch_column-via (fixed n) os = column-via (map g) os [] []
  branch_column-via Branch.Map os = rw (sizes-via os) (column-via (map g) os (numbers 4 (running 0 (sizes os))) [])

  replicate-map : (n : ℕ) (x : A) (y : B) → g x ≡ y → replicate n y ≡ map g (replicate n x)
  replicate-map zero x y e = refl
  replicate-map (suc n) x y e = rw (replicate-map n x y e, e)

  pub taken-via : (b : Branch) (x : A) (y : B) → g x ≡ y → (os : List (Option (List A))) → joined (map (taken b y) (map (via (map g)) os)) ≡ map g (joined (map (taken b x) os))
  taken-via b x y e [] = refl
  taken-via b x y e (none ∷ os) =
      ap₂ (λ p r. p ++ r) (replicate-map (hides b) x y e) (taken-via b x y e os) ∙ sym (map-append g (replicate (hides b) x) (joined (map (taken b x) os)))
  taken-via b x y e (some xs ∷ os) = ap (λ r. map g xs ++ r) (taken-via b x y e os) ∙ sym (map-append g xs (joined (map (taken b x) os)))

nulls-le : {A : Type 0} (os : List (Option A)) → nulls os ≤ length os
nulls-le [] = omega arith
nulls-le (none ∷ os) = omega (arith, nulls-le os)
nulls-le (some x ∷ os) = omega (arith, nulls-le os)

pub branch_slots : {A : Type 0} (b : Branch) (os : List (Option (List A))) → ((branch_column b os).slots ≡ length os) × ((branch_column b os).nulls ≤ length os)
branch_slots struct os = (refl, nulls-le os)
branch_slots (list false w) os = (refl, nulls-le os)
branch_slots (list true w) os = (refl, nulls-le os)
branch_slots (fixed n) os = (refl, nulls-le os)
branch_slots Branch.Map os = (refl, nulls-le os)

pub leaf_slots : (l : Layout) (w : ℕ) (os : List (Option (List ℕ))) → ((leaf_column l w os).slots ≡ length os) × ((leaf_column l w os).nulls ≤ length os)
leaf_slots None w os = (refl, omega arith)
leaf_slots Bit w os = (refl, nulls-le os)
leaf_slots Text w os = (refl, nulls-le os)
leaf_slots Eight w os = (refl, nulls-le os)

-- as many columns as nodes
module _ (st : Setup) where
  mutual
    pub length-columns : (c : Node) (os : List (Value c)) → length (columns st c os) ≡ length (nodes c)
    length-columns (branch f b cs) os = ap suc (length-columns_in cs _)
    length-columns (leaf f k) os = refl

    length-columns_in : (cs : Fields) (is : List (Item cs)) → length (columns_in st cs is) ≡ length (nodes_in cs)
    length-columns_in Fields.none is = refl
    length-columns_in (c ⊕ cs) is =
        length-append (columns st c (map (λ i. i.0) is)) (columns_in st cs (map (λ i. i.1) is))
        ∙ ap₂ (λ m n. m + n) (length-columns c (map (λ i. i.0) is)) (length-columns_in cs (map (λ i. i.1) is)) ∙ sym (length-append (nodes c) (nodes_in cs))
