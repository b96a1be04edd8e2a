-- What a walk that is not refused ends with is where its columns end, all of them within the page and none with too many slots.
use Rattle.std.proofs.Common.{◌≡◌, ℕ, suc, ◌+◌, ◌*◌, ◌^◌, ◌<◌, ◌≤◌, Bool, true, false, cond, ◌||◌, ltb, List, [], ◌∷◌, ◌++◌, map, length, refl, suc-mul, arith}
use mathlib.Core.Option.{Option}
use lib.ListN.{length-map}
use Rattle.std.proofs.lemmas.Bool.{ltb-false}
use Rattle.std.proofs.ByRecursion.{All-append}
use Rattle.octets.specs.Lists.{joined, rest, first}
use Rattle.schema.specs.Tree.{Node, Fields, branch, leaf, ◌⊕◌, field_of, many}
use Rattle.tape.specs.View.{TapeView}
use Rattle.batch.specs.Values.{NullFirst, Setup, meaning, taken, zeros, below, leaf_at}
use Rattle.slip.specs.Slips.{Slip, Got, refuse, got, slip, then, each, accepted}
use Rattle.batch.specs.Rows.{row_at}
use Rattle.batch.proofs.Worth.{worth, worth_item}
use Rattle.batch.specs.Batch.{branch_column, leaf_column, columns, columns_in, size_of}
use Rattle.batch.specs.Format.{Column, text_width}
use Rattle.laws.specs.Shelf.{slots_of, room, bare, walk, walk_in}
use Rattle.batch.proofs.Columns.{branch_slots, leaf_slots}
use Rattle.batch.proofs.HiddenRows.{branch_columns, item-columns}
use Rattle.batch.proofs.Records.{Few, total, total-append}

-- what holds of an answer, if it is no refusal
pub data Holds {A : Type 0} (P : A → Type 0) : Got A → Type 0 where
  stopped : {r : Slip} → Holds P (refuse r)
  holds : {x : A} → P x → Holds P (got x)

pub held_got : {A : Type 0} {P : A → Type 0} {x : A} → Holds P (got x) → P x
held_got (holds h) = h

pub holds_so : {A : Type 0} {P Q : A → Type 0} {m : Got A} → Holds P m → ((x : A) → P x → Q x) → Holds Q m
holds_so stopped l = stopped
holds_so (holds {x} h) l = holds (l x h)

pub holds_then : {A B : Type 0} {P : A → Type 0} {Q : B → Type 0} {m : Got A} {k : A → Got B} → Holds P m → ((x : A) → P x → Holds Q (k x)) → Holds Q (then m k)
holds_then stopped l = stopped
holds_then (holds {x} h) l = l x h

-- an answer that is not used
pub holds_skip : {A B : Type 0} {Q : B → Type 0} (m : Got A) {k : Got B} → Holds Q k → Holds Q (then m (λ _. k))
holds_skip (refuse r) h = stopped
holds_skip (got x) h = h

holds-each : {A B : Type 0} {Q : B → Type 0} (f : ℕ → Got (Option A)) (ps : List ℕ) (k : List (Option A) → Got B) → Holds Q (k (map (λ p. accepted (f p)) ps)) → Holds Q (then (each f ps) k)
holds-each f [] k h = h
holds-each {A} {B} {Q} f (p ∷ ps) k h = go (f p) (each f ps) h (λ x. holds-each f ps (λ xs. k (x ∷ xs)))
  where
    go : (m : Got (Option A)) (n : Got (List (Option A))) → Holds Q (k (accepted m ∷ map (λ p. accepted (f p)) ps))
        → ((x : Option A) → Holds Q (k (x ∷ map (λ p. accepted (f p)) ps)) → Holds Q (then n (λ xs. k (x ∷ xs))))
        → Holds Q (then (then m (λ x. then n (λ xs. got (x ∷ xs)))) k)
    go (refuse r) n h l = stopped
    go (got x) (refuse r) h l = stopped
    go (got x) (got xs) h l = l x h

record Granted (free lent top work size more next : ℕ) : Type 0 where
  is : next ≡ top + size
  within : next ≤ free
  enough : work + more ≤ lent

room_granted : (free lent number top work : ℕ) (c : Column) (more : ℕ) → Holds (Granted free lent top work (size_of c) more) (room free lent number top work c more)
room_granted free lent number top work c more = go (ltb free (top + size_of c)) (ltb lent (work + more)) refl refl
  where
    go : (a b : Bool) → ltb free (top + size_of c) ≡ a → ltb lent (work + more) ≡ b
        → Holds (Granted free lent top work (size_of c) more) (cond (a || b) (refuse (slip 4 number 0)) (got (top + size_of c)))
    go true b p q = stopped
    go false true p q = stopped
    go false false p q = holds (record { is = refl; within = ltb-false free (top + size_of c) p; enough = ltb-false lent (work + more) q })

-- a short work list, and few positions
abbrev pub Small : (lent positions : ℕ) → Type 0
Small lent n = (lent < 2 ^ 31) × (n < 2 ^ 31)

-- where columns end, from `top` on, and that a record can hold their numbers, if `small` holds
pub record Walked (small : Type 0) (free top : ℕ) (cs : List Column) (end : ℕ) : Type 0 where
  pub is : end ≡ top + total cs
  pub within : end ≤ free
  pub few : small → Few cs

append_walked : {A B C : Type 0} {free top next end : ℕ} (xs ys : List Column) → (C → A) → (C → B) → Walked A free top xs next → Walked B free next ys end → Walked C free top (xs ++ ys) end
append_walked xs ys f g v w = record {
  is = omega (arith, v.is, w.is, total-append xs ys);
  within = w.within;
  few = λ s. All-append (λ c. (c.nulls ≤ c.slots) × (c.slots < 2 ^ 31)) xs ys (v.few (f s)) (w.few (g s));
}

module _ (st : Setup) (t : TapeView) (null : NullFirst t) where
  module _ (free lent : ℕ) where
    mutual
      pub walked : (c : Node) (force : Bool) (ps : List ℕ) (top work : ℕ)
          → Holds (Walked (Small lent (length ps)) free top (columns st c (map (worth st t c force) ps))) (walk st t free lent c force ps top work)
      walked (branch f b cs) force ps top work =
          let row = row_at st.settings t f b cs force in
          let rows = map (λ p. accepted (row p)) ps in
          let items = joined (map (taken b (zeros cs)) rows) in
          let more = many cs * length items in
          let slots_are = branch_slots b rows in
          let long = length-map ps (λ p. accepted (row p)) in
          rw (branch_columns st t null f b cs force ps)
          (holds-each row ps _ (holds_then (room_granted free lent f.number top work (branch_column b rows) more) (λ next g.
          holds_then (walked_in cs (below b force) items next (work + more) g.within) (λ end w.
          holds_skip (bare st t cs (below b force) (joined (map (slots_of b) rows))) (holds
          (record { is = omega (arith, w.is, g.is); within = w.within; few = λ s. ((omega (arith, slots_are), omega (arith, slots_are)), w.few (s.0, omega (arith, g.enough))) }))))))
      walked (leaf f k) force ps top work =
          let os = map (λ p. accepted (leaf_at st t f k p)) ps in
          let col = leaf_column (meaning st k).layout (text_width k) os in
          let slots_are = leaf_slots (meaning st k).layout (text_width k) os in
          let long = length-map ps (λ p. accepted (leaf_at st t f k p)) in
          holds-each (leaf_at st t f k) ps _ (holds_so (room_granted free lent f.number top work col 0) (λ next g.
          record { is = omega (arith, g.is); within = g.within; few = λ s. ((omega (arith, slots_are), omega (arith, slots_are)), tt) }))

      walked_in : (cs : Fields) (force : Bool) (items : List (List ℕ)) (top work : ℕ) → top ≤ free
          → Holds (Walked (Small lent (many cs * length items)) free top (columns_in st cs (map (worth_item st t cs force) items))) (walk_in st t free lent cs force items top work)
      walked_in Fields.none force items top work fit = holds (record { is = omega arith; within = fit; few = λ s. tt })
      walked_in (c ⊕ cs) force items top work fit =
          let V = worth st t c (force || (field_of c).nullable) in
          let W = worth_item st t cs force in
          let xs = columns st c (map V (map first items)) in
          let ys = columns_in st cs (map W (map rest items)) in
          let few' : suc (many cs) * length items ≡ many cs * length items + length items = suc-mul (many cs) (length items) in
          let n : length (map rest items) ≡ length items = length-map items rest in
          rw (item-columns st t null c cs force items)
          (holds_then (walked c (force || (field_of c).nullable) (map first items) top work) (λ next v.
          holds_so (walked_in cs force (map rest items) next work v.within)
          (λ end w. append_walked xs ys (λ s. (s.0, omega (arith, length-map items first, s.1))) (λ s. (s.0, rw n (omega (arith, s.1)))) v w)))
