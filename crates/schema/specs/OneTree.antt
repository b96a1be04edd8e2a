-- Records hold at most one tree: a record says of what kind its node is, and so how many children follow.
use Rattle.std.proofs.Common.{◌≡◌, ℕ, ◌+◌, Bool, true, false, cond, eqb, List, length, sym, refl, ap, ◌∙◌, subst, arith}
use Rattle.schema.specs.declared.kind.Kind.{Kind}
use Rattle.schema.specs.Tree.{Field, LeafKind, text, boolean, custom, Branch, struct, list, fixed, a_branch, a_leaf, Node, branch, leaf, Fields, ◌⊕◌, field_of, kind_of, children_of, many, nodes, Childed}
use Rattle.schema.specs.Layout.{the}
use Rattle.schema.specs.Held.{letter_of, wide_of, count_of, many_for, bit, Held, HeldIn}
use Rattle.schema.specs.Held.Held.{node}
use Rattle.schema.specs.Held.HeldIn.{nothing, more}

-- the kind that a letter, a wide flag and a count name
abbrev pub kind_for : ℕ → Bool → ℕ → Kind
kind_for l w n =
    cond (eqb l (the "S")) (a_branch struct)
    (cond (eqb l (the "L")) (a_branch (list false w))
    (cond (eqb l (the "V")) (a_branch (list true w))
    (cond (eqb l (the "F")) (a_branch (fixed n))
    (cond (eqb l (the "M")) (a_branch Branch.Map)
    (cond (eqb l (the "T")) (a_leaf (text w))
    (cond (eqb l (the "B")) (a_leaf boolean)
    (cond (eqb l (the "N")) (a_leaf LeafKind.Null) (a_leaf custom))))))))

pub kind_again : (t : Node) → kind_of t ≡ kind_for (letter_of t) (wide_of t) (count_of t)
kind_again (branch f struct cs) = refl
kind_again (branch f (list false w) cs) = refl
kind_again (branch f (list true w) cs) = refl
kind_again (branch f (fixed n) cs) = refl
kind_again (branch f Branch.Map cs) = refl
kind_again (leaf f (text w)) = refl
kind_again (leaf f boolean) = refl
kind_again (leaf f LeafKind.Null) = refl
kind_again (leaf f custom) = refl

-- the node of a kind
abbrev pub made_of : Kind → Field → Fields → Node
made_of (a_branch b) f cs = branch f b cs
made_of (a_leaf k) f cs = leaf f k

-- a node is what its kind and its children say
pub again : (t : Node) → t ≡ made_of (kind_of t) (field_of t) (children_of t)
again (branch f b cs) = refl
again (leaf f k) = refl

pub childed_many : (t : Node) → Childed t → many (children_of t) ≡ many_for (kind_of t) (count_of t)
childed_many (branch f struct cs) a = refl
childed_many (branch f (list view w) cs) a = a
childed_many (branch f (fixed n) cs) a = a
childed_many (branch f Branch.Map cs) a = a
childed_many (leaf f k) a = refl

pub bit-same : (a b : Bool) → bit a ≡ bit b → a ≡ b
bit-same true true e = refl
bit-same true false e = absurd (omega arith)
bit-same false true e = absurd (omega arith)
bit-same false false e = refl

same_field : (a b : Field) → a.number ≡ b.number → a.name ≡ b.name → a.nullable ≡ b.nullable → a ≡ b
same_field a b p q r = λ i. record { number = p i; name = q i; nullable = r i }

same_node : (t u : Node) → kind_of t ≡ kind_of u → field_of t ≡ field_of u → children_of t ≡ children_of u → t ≡ u
same_node t u a b c = again t ∙ (λ i. made_of (a i) (b i) (c i)) ∙ sym (again u)

mutual
  pub same_tree : {rs ns : List ℕ} {i : ℕ} {t u : Node} → Held rs ns i t → Held rs ns i u → t ≡ u
  same_tree (node {t = t} w a l cs) (node {t = u} v b m ds) =
      let wide : wide_of t ≡ wide_of u = bit-same (wide_of t) (wide_of u) (sym w.wide ∙ v.wide) in
      let count : count_of t ≡ count_of u = sym w.count ∙ v.count in
      let kind : kind_of t ≡ kind_of u = kind_again t ∙ rw (sym w.letter ∙ v.letter, wide, count) (sym (kind_again u)) in
      same_node t u kind
      (same_field (field_of t) (field_of u) (w.number ∙ sym v.number) (w.name ∙ sym v.name) (bit-same (field_of t).nullable (field_of u).nullable (sym w.flag ∙ v.flag)))
      (same_fields cs ds (childed_many t a ∙ rw (kind, count) (sym (childed_many u b))))

  pub same_fields : {rs ns : List ℕ} {i : ℕ} {cs ds : Fields} → HeldIn rs ns i cs → HeldIn rs ns i ds → many cs ≡ many ds → cs ≡ ds
  same_fields nothing nothing e = refl
  same_fields nothing (more h k) e = absurd (omega arith)
  same_fields (more h k) nothing e = absurd (omega arith)
  same_fields {rs} {ns} {i = i} (more {c = c} {cs = cs} h k) (more {c = c'} {cs = ds} h' k') n =
      let s = same_tree h h' in
      ap (λ x. c ⊕ x) (same_fields k (subst (λ x. HeldIn rs ns (i + length (nodes x)) ds) (sym s) k') (omega arith)) ∙ ap (λ x. x ⊕ ds) s
