-- The nodes of a tree that records hold.
use Rattle.std.proofs.Common.{◌≡◌, ℕ, zero, suc, ◌+◌, ◌-◌, ◌<◌, ◌≤◌, Bool, true, false, eqb, eqb-true, eq-eqb, Some, None, Option, Decides, List, ◌∷◌, ◌++◌, map as mapped, length, get_or, sym, refl, ap, ◌∙◌, subst, arith, length-append}
use native.Mathlib.Decide.{dec_lt}
use Rattle.std.specs.List.{AllByRecursion}
use Rattle.std.specs.Option.{option_eq}
use Rattle.std.proofs.lemmas.Bool.{false≢true}
use Rattle.std.proofs.lemmas.List.{map-append, get_or_append_left, get_or-append_right}
use Rattle.std.proofs.ByRecursion.{All-append}
use Rattle.octets.specs.Lists.{between}
use Rattle.schema.specs.Tree.{Node, branch, leaf, Fields, ◌⊕◌, field_of, kind_of, children_of, nodes, nodes_in, node_at, Childed}
use Rattle.schema.specs.Layout.{record_count, end_at}
use Rattle.schema.specs.Held.{Limited, bit, Written, Held, HeldIn}
use Rattle.schema.specs.Held.Held.{node}
use Rattle.schema.specs.Held.HeldIn.{nothing, more}
use Rattle.schema.specs.Opens.{Opens, OneTree, AllFormed, AllHeld}
use Rattle.schema.specs.Checks.{Finds, KindAt, TreeTo, Rooted}
use Rattle.schema.specs.OneTree.{same_tree, bit-same}
use Rattle.schema.proofs.Trees.{written_kinded}
use Rattle.schema.proofs.Rows.{same_end}

-- a node before those below it
nodes_is : (t : Node) → nodes t ≡ t ∷ nodes_in (children_of t)
nodes_is (branch f b cs) = refl
nodes_is (leaf f k) = refl

-- What is held at a node: its record, and its children one after another, each where the one before it ends.
pub held_written : {rs ns : List ℕ} {i : ℕ} {t : Node} → Held rs ns i t → Written rs ns i t
held_written (node w a l cs) = w

pub held_childed : {rs ns : List ℕ} {i : ℕ} {t : Node} → Held rs ns i t → Childed t
held_childed (node w a l cs) = a

pub held_limited : {rs ns : List ℕ} {i : ℕ} {t : Node} → Held rs ns i t → Limited t
held_limited (node w a l cs) = l

pub held_children : {rs ns : List ℕ} {i : ℕ} {t : Node} → Held rs ns i t → HeldIn rs ns (i + 1) (children_of t)
held_children (node w a l cs) = cs

pub held_first : {rs ns : List ℕ} {i : ℕ} {c : Node} {cs : Fields} → HeldIn rs ns i (c ⊕ cs) → Held rs ns i c
held_first (more t ts) = t

pub held_rest : {rs ns : List ℕ} {i : ℕ} {c : Node} {cs : Fields} → HeldIn rs ns i (c ⊕ cs) → HeldIn rs ns (end_at rs i) cs
held_rest {rs} {ns} {i} {c} {cs} (more t ts) = subst (λ x. HeldIn rs ns x cs) (sym (held_written t).end) ts

pub kind_there : {rs ns : List ℕ} {i : ℕ} {t : Node} → Held rs ns i t → KindAt rs i (kind_of t)
kind_there h = written_kinded (held_written h) (held_limited h)

-- a node's end is past it, and no further than the records
mutual
  pub held_ends : {rs ns : List ℕ} {i : ℕ} {t : Node} → Held rs ns i t → i + length (nodes t) ≤ record_count rs
  held_ends (node {i = i} {t = t} w a l cs) = omega (arith, w.within, ap length (nodes_is t), held_in_ends cs (omega (arith, w.within)))

  pub held_in_ends : {rs ns : List ℕ} {i : ℕ} {cs : Fields} → HeldIn rs ns i cs → i ≤ record_count rs → i + length (nodes_in cs) ≤ record_count rs
  held_in_ends nothing h = omega arith
  held_in_ends (more {c = c} {cs = cs} t ts) h = omega (arith, length-append (nodes c) (nodes_in cs), held_in_ends ts (held_ends t))

pub held_end : {rs ns : List ℕ} {i : ℕ} {t : Node} → Held rs ns i t → (i < end_at rs i) × (end_at rs i ≤ record_count rs)
held_end {t = t} h = (omega (arith, (held_written h).end, ap length (nodes_is t)), omega (arith, (held_written h).end, held_ends h))

-- a node, and then all that stands below its children
pub held_size : {rs ns : List ℕ} {i : ℕ} {t : Node} → Held rs ns i t → end_at rs i ≡ i + 1 + length (nodes_in (children_of t))
held_size {t = t} h = omega (arith, (held_written h).end, ap length (nodes_is t))

-- the tree of each node below is held from its own number on
mutual
  held_tree : {rs ns : List ℕ} {i : ℕ} {t : Node} → Held rs ns i t → (j : ℕ) (z : Node) → j < length (nodes t) → Held rs ns (i + j) (get_or (nodes t) j z)
  held_tree {rs} {ns} (node {i = i} {t = t} w a l cs) zero z h =
      rw (nodes_is t) (subst (λ x. Held rs ns x t) (omega arith) (node w a l cs))
  held_tree {rs} {ns} (node {i = i} {t = t} w a l cs) (suc j) z h =
      let e : i + 1 + j ≡ i + suc j = omega arith in
      rw (nodes_is t) (subst (λ x. Held rs ns x (get_or (nodes_in (children_of t)) j z)) e (held_trees cs j z (omega (arith, ap length (nodes_is t)))))

  held_trees : {rs ns : List ℕ} {i : ℕ} {cs : Fields} → HeldIn rs ns i cs → (j : ℕ) (z : Node) → j < length (nodes_in cs) → Held rs ns (i + j) (get_or (nodes_in cs) j z)
  held_trees nothing j z h = absurd (omega arith)
  held_trees {rs} {ns} {i = i} (more {c = c} {cs = cs} t ts) j z h =
      elim (dec_lt j (length (nodes c))) [
        | yes l ↦ rw (get_or_append_left (nodes c) (nodes_in cs) z j l) (held_tree t j z l)
        | no n ↦ (
            let e : i + length (nodes c) + (j - length (nodes c)) ≡ i + j = omega arith in
            rw (get_or-append_right (nodes c) (nodes_in cs) (length (nodes c)) j z refl (omega arith))
            (subst (λ x. Held rs ns x (get_or (nodes_in cs) (j - length (nodes c)) z)) e (held_trees ts (j - length (nodes c)) z (omega (arith, length-append (nodes c) (nodes_in cs))))))
      ]

pub held_at : {rs ns : List ℕ} {root : Node} → Opens rs ns root → (i : ℕ) → i < record_count rs → Held rs ns i (node_at root i)
held_at {rs} {ns} {root} o i h =
    let e : 0 + i ≡ i = omega arith in
    subst (λ k. Held rs ns k (node_at root i)) e (held_tree o.held i root (omega (arith, o.all)))

pub all_held : (rs ns : List ℕ) → AllHeld rs ns
all_held rs ns root o i h = held_at o i h

-- the numbers of the nodes
pub between_more : (i n k : ℕ) → between i (n + k) ≡ between i n ++ between (i + n) k
between_more i zero k = let e : 0 + k ≡ k = omega arith in let e' : i + 0 ≡ i = omega arith in rw (e, e') refl
between_more i (suc n) k =
    let e : suc n + k ≡ suc (n + k) = omega arith in
    let e' : i + 1 + n ≡ i + suc n = omega arith in
    rw e (ap (λ r. i ∷ r) (rw (← e') (between_more (i + 1) n k)))

abbrev numbers : List Node → List ℕ
numbers ts = mapped (λ c. (field_of c).number) ts

mutual
  pub numbered : {rs ns : List ℕ} {i : ℕ} {t : Node} → Held rs ns i t → numbers (nodes t) ≡ between i (length (nodes t))
  numbered (node {i = i} {t = t} w a l cs) = rw (nodes_is t, w.number) (ap (λ r. i ∷ r) (numbered_in cs))

  pub numbered_in : {rs ns : List ℕ} {i : ℕ} {cs : Fields} → HeldIn rs ns i cs → numbers (nodes_in cs) ≡ between i (length (nodes_in cs))
  numbered_in nothing = refl
  numbered_in {i = i} (more {c = c} {cs = cs} t ts) =
      rw (map-append (λ x. (field_of x).number) (nodes c) (nodes_in cs), length-append (nodes c) (nodes_in cs), between_more i (length (nodes c)) (length (nodes_in cs)), numbered t, numbered_in ts)

mutual
  pub childed : {rs ns : List ℕ} {i : ℕ} {t : Node} → Held rs ns i t → AllByRecursion Childed (nodes t)
  childed (node {t = t} w a l cs) = rw (nodes_is t) (a, childed_in cs)

  pub childed_in : {rs ns : List ℕ} {i : ℕ} {cs : Fields} → HeldIn rs ns i cs → AllByRecursion Childed (nodes_in cs)
  childed_in nothing = tt
  childed_in (more {c = c} {cs = cs} t ts) = All-append Childed (nodes c) (nodes_in cs) (childed t) (childed_in ts)

pub one_tree : (rs ns : List ℕ) → OneTree rs ns
one_tree rs ns a b o p = same_tree o.held p.held

pub all_formed : (rs ns : List ℕ) → AllFormed rs ns
all_formed rs ns root o = record { childed = childed o.held; numbered = numbered o.held }

pub flag_read : (b : Bool) (n : ℕ) → n ≡ bit b → eqb n 1 ≡ b
flag_read true n e = rw e refl
flag_read false n e = rw e refl

-- a schema, from the tree at record 0
pub opens_tree : {rs ns : List ℕ} {root : Node} → Opens rs ns root → TreeTo rs ns 16 0 (record_count rs)
opens_tree {root = root} o = record { tree = root; held = o.held; ends = omega (arith, o.all); shallow = o.shallow }

pub opens_rooted : {rs ns : List ℕ} {root : Node} → Opens rs ns root → Rooted rs
opens_rooted o = record { whole = o.whole; some = o.some; few = o.few; struct = (held_written o.held).letter ∙ o.struct; present = (held_written o.held).flag ∙ ap bit o.present }

pub opened : {rs ns : List ℕ} {q : ℕ} → Rooted rs → TreeTo rs ns 16 0 q → q ≡ record_count rs → (root : Node) × Opens rs ns root
opened r t e =
    let x = held_written t.held in (
      t.tree,
      record {
        whole = r.whole;
        some = r.some;
        few = r.few;
        held = t.held;
        all = omega (arith, t.ends);
        struct = sym x.letter ∙ r.struct;
        present = bit-same (field_of t.tree).nullable false (sym x.flag ∙ r.present);
        shallow = t.shallow;
      },
    )

pub tree_found : {rs ns : List ℕ} → Rooted rs → (r : Option ℕ) → Finds (TreeTo rs ns 16 0) r → (n : ℕ) → n ≡ record_count rs → Decides (option_eq eqb r (Some n)) ((root : Node) × Opens rs ns root)
tree_found g (Some e) h n k = ((λ b. opened g h (eqb-true _ _ b ∙ k)), λ o. eq-eqb _ _ (same_end h (opens_tree o.1) ∙ sym k))
tree_found g None h n k = ((λ b. absurd (false≢true b)), λ o. absurd (h _ (opens_tree o.1)))
