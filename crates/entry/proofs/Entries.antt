-- What entering a node says of its tree.
use Rattle.std.proofs.Common.{◌≡◌, ℕ, suc, ◌+◌, ◌≤◌, Bool, cond, ◌||◌, ltb, List, [], ◌∷◌, length, Ok, Err, Result, sym, refl, ap, ◌∙◌, subst, arith}
use mathlib.Core.Option.{Option}
use Rattle.std.proofs.lemmas.Bool.{le-ltb}
use Rattle.slip.specs.declared.Fault.{Fault}
use Rattle.slip.specs.Slips.{Got, refuse, got, slip, then, each}
use Rattle.schema.specs.Tree.{Node, Field, Fields, branch, ◌⊕◌, kind_of, field_of, children_of, many, names, Childed}
use Rattle.schema.specs.declared.kind.Branch.{Branch}
use Rattle.schema.specs.declared.kind.Branch.TheVariants.{Struct as struct, List as list, Fixed as fixed}
use Rattle.schema.specs.declared.kind.LeafKind.{LeafKind}
use Rattle.schema.specs.declared.kind.Kind.TheVariants.{Branch as a_branch, Leaf as a_leaf}
use Rattle.schema.specs.Held.{Held, Limited, count_of}
use Rattle.schema.specs.declared.settings.Settings.{Settings}
use Rattle.schema.proofs.Nodes.{held_written, held_end}
use Rattle.leaf.specs.Meaning.{Meaning, pile}
use Rattle.batch.specs.Values.{leaf_at}
use Rattle.batch.specs.Format.{Column, text_width}
use Rattle.batch.specs.Batch.{branch_column, leaf_column, size_of}
use Rattle.columns.specs.Areas.{Place, space, written}
use Rattle.columns.specs.Entering.{LeafEntered, answers}
use Rattle.rows.specs.Entering.{BranchEntered, Given, rows_at}
use Rattle.rows.specs.declared.Entered.{Entered}
use Rattle.nodes.specs.Nodes.{gotten, entering}
use Rattle.nodes.specs.Contract.{Seen, setup_in, HeldHere, Ready, Opened, Enters}
use Rattle.nodes.proofs.Forced.{by_kind}
use Rattle.nodes.proofs.Gets.{then_got, space_got}

-- a struct counts its names, at most 64
length-names : (cs : Fields) → length (names cs) ≡ many cs
length-names Fields.none = refl
length-names (c ⊕ cs) = ap suc (length-names cs)

pub struct_counts : (T : Node) → a_branch struct ≡ kind_of T → Limited T → (count_of T ≡ length (names (children_of T))) × (count_of T ≤ 64)
struct_counts T e l = go T (by_kind T (a_branch struct) e) l
  where
    go : (T : Node) → T ≡ branch (field_of T) struct (children_of T) → Limited T → (count_of T ≡ length (names (children_of T))) × (count_of T ≤ 64)
    go T e l = rw e (sym (length-names (children_of T)), subst Limited e l)

-- where the column of a node that is ready goes
pub ready_place : {v : Seen} {work area : List ℕ} {top : ℕ} → Ready v work area top → Place area v.node top
ready_place r =
    let h = held_end r.formed.1 in
    record { apart = omega (arith, r.apart, h.0); within = r.within; page = r.page; blank = r.blank }

-- the same tree in the same records
pub held_same : {rs rs' ns ns' : List ℕ} {i : ℕ} {T : Node} → (rs' ≡ rs) × (ns' ≡ ns) → Held rs ns i T → Held rs' ns' i T
held_same {rs} {rs'} {ns} {ns'} {i} {T} e h = subst (λ a. Held a ns' i T) (sym e.0) (subst (λ b. Held rs b i T) (sym e.1) h)

-- a branch that is no struct has as many children as its kind
pub one_item : (T : Node) (view wide : Bool) → a_branch (list view wide) ≡ kind_of T → Childed T → many (children_of T) ≡ 1
one_item T view wide e h = subst Childed (by_kind T (a_branch (list view wide)) e) h

pub one_count : (T : Node) (n : ℕ) → a_branch (fixed n) ≡ kind_of T → Childed T → 1 ≡ many (children_of T)
one_count T n e h = sym (subst Childed (by_kind T (a_branch (fixed n)) e) h)

pub key_value : (T : Node) → a_branch Branch.Map ≡ kind_of T → Childed T → 2 ≡ many (children_of T)
key_value T e h = sym (subst Childed (by_kind T (a_branch Branch.Map) e) h)

-- a fixed-size list by what its record counts
pub counted : (T : Node) (n m : ℕ) → a_branch (fixed n) ≡ kind_of T → m ≡ count_of T → a_branch (fixed m) ≡ kind_of T
counted T n m e c =
    let is : n ≡ count_of T = sym (ap count_of (by_kind T (a_branch (fixed n)) e)) in
    ap (λ k. a_branch (fixed k)) (c ∙ sym is) ∙ e

module _ (v : Seen) (top : ℕ) (A B work lent : List ℕ) where
  -- a leaf takes nothing of the work list
  left_none : (a : Got (List (Option (List ℕ)))) (n : ℕ) (C : List (Option (List ℕ)) → Column)
      → then a (λ os. space (length A) 0 n top (C os) 0) ≡ then a (λ os. space (length A) (length work) n top (C os) 0)
  left_none (refuse r) n C = refl
  left_none (got os) n C = ap (λ b. cond (ltb (length A) (top + size_of (C os)) || b) (refuse (slip 4 n 0)) (got (top + size_of (C os)))) (sym (le-ltb (length work) 0 (omega arith)))

  opened_branch : (root : Node) (size : ℕ) (f : Field) (b : Branch) (cs : Fields) (e : Entered) → f.number ≡ v.node → (rows : List (Option (List (List ℕ))))
      → rows_at v.settings v.tape f b cs v.in_force v.positions ≡ got rows → Given v.tape f b cs rows top A B lent e → Opened v (setup_in v root size) (branch f b cs) top A B lent e
  opened_branch root size f b cs e n rows got-rows g =
      let same : gotten (rows_at v.settings v.tape f b cs v.in_force v.positions) ≡ rows = ap gotten got-rows in
      let P = λ (rs : List (Option (List (List ℕ)))). Given v.tape f b cs rs top A B lent e in
      let h = subst P (sym same) g in
      record {
        kids = h.kids;
        stride = h.stride;
        next = h.next;
        fits = h.fits;
        parts = h.parts;
        positions = h.positions;
        page = subst (λ k. B ≡ written A k top (branch_column b (gotten (rows_at v.settings v.tape f b cs v.in_force v.positions)) ∷ [])) n h.page;
      }

  -- a branch was entered, if that is what each tree is that the records hold here
  pub branch_enters : (b : Branch) (r : Result Entered Fault) → ((T : Node) × HeldHere v T) → ((T : Node) → HeldHere v T → a_branch b ≡ kind_of T)
      → ((T : Node) → HeldHere v T → BranchEntered v.settings v.tape (field_of T) b (children_of T) v.in_force v.positions top A B work lent r)
      → Enters v top A B work lent r
  branch_enters b (Ok e) formed is said =
      record {
        outcome = λ root size T h. (said T h).outcome ∙ ap (λ n. entering (setup_in v root size) v.tape (length A) (length work) n v.in_force v.positions top) (sym (by_kind T (a_branch b) (is T h)));
        content = λ root size T h.
            let f = field_of T in
            let cs = children_of T in
            let o = then_got (rows_at v.settings v.tape f b cs v.in_force v.positions) _ e.next (said T h).outcome in
            subst (λ n. Opened v (setup_in v root size) n top A B lent e) (sym (by_kind T (a_branch b) (is T h)))
            (opened_branch root size f b cs e (held_written h).number o.0 o.1 ((said T h).content o.0 o.1));
        unwritten = tt;
      }
  branch_enters b (Err y) formed is said =
      record {
        outcome = λ root size T h. (said T h).outcome ∙ ap (λ n. entering (setup_in v root size) v.tape (length A) (length work) n v.in_force v.positions top) (sym (by_kind T (a_branch b) (is T h)));
        content = tt;
        unwritten = (said formed.0 formed.1).unwritten;
      }

  module _ (k : LeafKind) (is : (T : Node) → HeldHere v T → a_leaf k ≡ kind_of T) where
    abbrev laid : List (Option (List ℕ)) → Column
    laid os = leaf_column (pile v.settings v.custom k).layout (text_width k) os

    leaf_outcome : (root : Node) (size : ℕ) (T : Node) → HeldHere v T
        → then (answers (pile v.settings v.custom k) v.tape v.node v.positions) (λ os. space (length A) 0 v.node top (laid os) 0) ≡ entering (setup_in v root size) v.tape (length A) (length work) T v.in_force v.positions top
    leaf_outcome root size T h =
        let N = λ (n : ℕ). then (answers (pile v.settings v.custom k) v.tape n v.positions) (λ os. space (length A) 0 n top (laid os) 0) in
        let n = (held_written h).number in
        ap N (sym n) ∙ left_none (answers (pile v.settings v.custom k) v.tape (field_of T).number v.positions) (field_of T).number laid
        ∙ ap (λ t. entering (setup_in v root size) v.tape (length A) (length work) t v.in_force v.positions top) (sym (by_kind T (a_leaf k) (is T h)))

    -- a leaf was entered
    pub leaf_enters : (next : ℕ) → LeafEntered (pile v.settings v.custom k) (text_width k) v.tape v.node top v.positions A B (Ok next)
        → Enters v top A B work lent (Ok (record { kids = 0; stride = 0; next = next }))
    leaf_enters next said =
        record {
          outcome = λ root size T h. said.outcome ∙ leaf_outcome root size T h;
          content = λ root size T h.
              let st = setup_in v root size in
              let f = field_of T in
              let o = then_got (answers (pile v.settings v.custom k) v.tape v.node v.positions) _ next said.outcome in
              let x = space_got (length A) top (laid o.0) 0 v.node 0 next o.2 in
              let same : gotten (each (leaf_at st v.tape f k) v.positions) ≡ o.0 = ap (λ n. gotten (answers (pile v.settings v.custom k) v.tape n v.positions)) (held_written h).number ∙ ap gotten o.1 in
              subst (λ n. Opened v st n top A B lent (record { kids = 0; stride = 0; next = next })) (sym (by_kind T (a_leaf k) (is T h)))
              (record {
                kids = refl;
                stride = refl;
                next = x.0 ∙ ap (λ os. top + size_of (laid os)) (sym same);
                fits = omega arith;
                parts = λ j l. absurd (omega arith);
                positions = λ i l. absurd (omega arith);
                page = said.content o.0 o.1 ∙ ap (λ os. written A v.node top (laid os ∷ [])) (sym same);
              });
          unwritten = tt;
        }

    pub leaf_refused : (y z : Fault) (r : Result Entered Fault) → r ≡ Err y → y ≡ z → LeafEntered (pile v.settings v.custom k) (text_width k) v.tape v.node top v.positions A B (Err z)
        → Enters v top A B work lent r
    leaf_refused y z r is-err y-is said =
        subst (λ q. Enters v top A B work lent q) (sym (is-err ∙ ap Err y-is))
        (record { outcome = λ root size T h. said.outcome ∙ leaf_outcome root size T h; content = tt; unwritten = said.unwritten })

-- a leaf's own entry, by the pile and the width of its kind
pub by_leaf : (P : Meaning → ℕ → Type 0) (s : Settings) (own m : Meaning) (w : ℕ) (k j : LeafKind) → k ≡ j → m ≡ pile s own j → w ≡ text_width j → P m w → P (pile s own k) (text_width k)
by_leaf P s own m w k j e p q x =
    let a = subst (λ n. P n w) p x in
    let b = subst (λ v. P (pile s own j) v) q a in
    subst (λ i. P (pile s own i) (text_width i)) (sym e) b
