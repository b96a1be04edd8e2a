-- The way down a schema, from child to child.
use Rattle.std.proofs.Common.{◌≡◌, ℕ, ◌+◌, ◌<◌, Bool, true, false, cond, ◌&&◌, List, [], ◌∷◌, ◌++◌, length, sym, refl, ap, ◌∙◌, subst, arith}
use Rattle.std.specs.Prelude.{nat_le, nat_lt}
use Rattle.schema.specs.declared.Schema.{Schema}
use Rattle.schema.specs.Held.{Held, HeldIn}
use Rattle.schema.specs.Held.HeldIn.{nothing, more}
use Rattle.std.proofs.lemmas.Bool.Decides.{nat_tests}
use Rattle.schema.specs.Layout.{record_count, end_at}
use Rattle.schema.specs.Opened.{NodeOf, records_of, names_of, size_of}
use Rattle.schema.specs.Tree.{Node, branch, leaf, Fields, ◌⊕◌, field_of, kind_of, children_of, nodes, node_at, numbers}
use Rattle.schema.proofs.Nodes.{held_written, held_children, held_at}
use Rattle.explain.specs.Toward.{Step}
use Rattle.explain.specs.Way.{is_struct, holds, step_into, way_to, way_in}

-- these are the numbers of the children of t in which node n is still looked for
pub record Left (rs ns : List ℕ) (i n : ℕ) (t : Node) (ps : List ℕ) : Type 0 where
  pub first : ℕ
  pub beyond : i < first
  pub fields : Fields
  pub held : HeldIn rs ns first fields
  pub numbered : ps ≡ numbers fields
  pub way : way_to n t ≡ way_in n (is_struct (kind_of t)) fields

way_children : (n : ℕ) (t : Node) → way_to n t ≡ way_in n (is_struct (kind_of t)) (children_of t)
way_children n (branch f b cs) = refl
way_children n (leaf f k) = refl

pub left-all : {rs ns ps : List ℕ} {i : ℕ} {t : Node} (n : ℕ) → Held rs ns i t → ps ≡ numbers (children_of t) → Left rs ns i n t ps
left-all {i = i} {t} n h e = record { first = i + 1; beyond = omega arith; fields = children_of t; held = held_children h; numbered = e; way = way_children n t }

pub left_none : {rs ns ps : List ℕ} {i n : ℕ} {t : Node} → ps ≡ [] → Left rs ns i n t ps → way_to n t ≡ []
left_none {rs} {ns} {ps} {i} {n} {t} e l = go l.fields (sym e ∙ l.numbered) l.way
  where
    go : (cs : Fields) → [] ≡ numbers cs → way_to n t ≡ way_in n (is_struct (kind_of t)) cs → way_to n t ≡ []
    go Fields.none x w = w
    go (c ⊕ cs) x w = cc

-- the first of them, and those behind it
pub record Front (rs ns : List ℕ) (i n : ℕ) (t : Node) (child : ℕ) (ps : List ℕ) : Type 0 where
  pub below : i < child
  pub within : child < record_count rs
  pub tree : Node
  pub held : Held rs ns child tree
  pub others : Fields
  pub rest : HeldIn rs ns (child + length (nodes tree)) others
  pub numbered : ps ≡ numbers others
  -- node n is there, or is looked for further on
  pub way : {b : Bool} → b ≡ (nat_le child n && nat_lt n (end_at rs child)) → way_to n t ≡ cond b (step_into (is_struct (kind_of t)) tree ++ way_to n tree) (way_in n (is_struct (kind_of t)) others)

pub front : {rs ns qs ps : List ℕ} {i n child : ℕ} {t : Node} → qs ≡ child ∷ ps → Left rs ns i n t qs → Front rs ns i n t child ps
front {rs} {ns} {qs} {ps} {i} {n} {child} {t} e l = go l.fields l.held (sym e ∙ l.numbered) l.way
  where
    go : (cs : Fields) → HeldIn rs ns l.first cs → child ∷ ps ≡ numbers cs → way_to n t ≡ way_in n (is_struct (kind_of t)) cs → Front rs ns i n t child ps
    go Fields.none x w v = cc
    go (c ⊕ cs) (more x xs) w v =
        let s = held_written x in
        let a : child ≡ (field_of c).number = cc in
        let b : child ≡ l.first = a ∙ s.number in
        let f : ps ≡ numbers cs = cc in
        let d : end_at rs child ≡ (field_of c).number + length (nodes c) = ap (end_at rs) b ∙ s.end ∙ ap (λ k. k + length (nodes c)) (sym s.number) in
        record {
          below = omega (arith, l.beyond);
          within = omega (arith, s.within);
          tree = c;
          held = subst (λ k. Held rs ns k c) (sym b) x;
          others = cs;
          rest = subst (λ k. HeldIn rs ns (k + length (nodes c)) cs) (sym b) xs;
          numbered = f;
          way = λ h.
              let k : (nat_le child n && nat_lt n (end_at rs child)) ≡ holds n c = ap (λ k. nat_le k n && nat_lt n (end_at rs child)) a ∙ ap (λ k. nat_le (field_of c).number n && nat_lt n k) d in
              v ∙ ap (λ y. cond y (step_into (is_struct (kind_of t)) c ++ way_to n c) (way_in n (is_struct (kind_of t)) cs)) (sym (h ∙ k));
        }

-- the first of them, whichever tree is at the parent
pub front_of : (s : Schema) (i : ℕ) {n child : ℕ} {qs ps : List ℕ} → i < size_of s → qs ≡ child ∷ ps → ((t : Node) → NodeOf s i t → Left (records_of s) (names_of s) i n t qs)
    → Front (records_of s) (names_of s) i n (node_at s.opened.0 i) child ps
front_of s i w e l = front e (l (node_at s.opened.0 i) (held_at s.opened.1 i w))

module _ {rs ns ps : List ℕ} {i n child : ℕ} {t : Node} (f : Front rs ns i n t child ps) where
  -- node n is not in the first of them
  pub left_more : {b : Bool} → b ≡ false → b ≡ (nat_le child n && nat_lt n (end_at rs child)) → Left rs ns i n t ps
  left_more h e = record { first = child + length (nodes f.tree); beyond = omega (arith, f.below); fields = f.others; held = f.rest; numbered = f.numbered; way = f.way (sym h ∙ e) }

pub step_to : (s : Schema) {ps : List ℕ} {i n child : ℕ} {t : Node} {b : Bool} → Front (records_of s) (names_of s) i n t child ps → b ≡ true → b ≡ (nat_le child n && nat_lt n (end_at (records_of s) child)) → Step s i t n child
step_to s f h e = record { below = f.below; within = f.within; tree = f.tree; held = f.held; way = f.way (sym h ∙ e) }

-- nothing leads to a node that stands before
way_none : {rs ns : List ℕ} {i : ℕ} {cs : Fields} (n : ℕ) (named : Bool) → HeldIn rs ns i cs → n < i → way_in n named cs ≡ []
way_none n named nothing h = refl
way_none n named (more {c = c} {cs = cs} x xs) h =
    let a = (held_written x).number in
    let e : holds n c ≡ false = grind (arith, nat_tests) in
    ap (λ b. cond b (step_into named c ++ way_to n c) (way_in n named cs)) e ∙ way_none n named xs (omega arith)

-- no step leads from a node to itself
pub way_here : {rs ns : List ℕ} {i : ℕ} {t : Node} → Held rs ns i t → way_to i t ≡ []
way_here {i = i} {t} h = way_children i t ∙ way_none i (is_struct (kind_of t)) (held_children h) (omega arith)
