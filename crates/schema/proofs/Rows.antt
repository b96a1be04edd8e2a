-- Trees that stand one after another.
use Rattle.std.proofs.Common.{◌≡◌, ℕ, zero, suc, ◌+◌, ◌-◌, ◌<◌, ◌≤◌, Bool, true, false, eqb, eqb-true, eq-eqb, List, length, Some, None, Option, sym, refl, ap, ◌∙◌, subst, arith, length-append}
use Rattle.std.specs.Bool.{then_some}
use Rattle.std.specs.Option.{IsSome}
use Rattle.std.proofs.lemmas.Bool.{false≢true}
use Rattle.schema.specs.declared.kind.Kind.{Kind}
use Rattle.schema.specs.Tree.{Field, LeafKind, text, boolean, custom, Branch, struct, list, fixed, Node, branch, leaf, Fields, ◌⊕◌, field_of, children_of, many, nodes, nodes_in, levels, levels_in, Childed}
use Rattle.schema.specs.Layout.{flag_at, end_at, name_at, count_at}
use Rattle.schema.specs.Held.{letter_of, wide_of, count_of, many_for, Limited, bit, Held, HeldIn}
use Rattle.schema.specs.Held.Held.{node}
use Rattle.schema.specs.Held.HeldIn.{nothing, more}
use Rattle.schema.specs.Checks.{Finds, Kinded, Fit, TreeTo}
use Rattle.schema.specs.Checks.Kinded.{struct', fixed', list', view', map', text', boolean', null', custom'}
use Rattle.schema.specs.OneTree.{same_tree}
use Rattle.schema.proofs.Trees.{kinded_one, written_fit}

-- an answer that finds P finds Q, where both hold of the same
pub finds_both : {A : Type 0} {P Q : A → Type 0} (r : Option A) → ((k : A) → P k → Q k) → ((k : A) → Q k → P k) → Finds P r → Finds Q r
finds_both (Some k) to from h = to k h
finds_both None to from h = λ k q. h k (from k q)

-- what P holds of is found
pub finds_some : {A : Type 0} (P : A → Type 0) (r : Option A) (k : A) → Finds P r → P k → IsSome r
finds_some P (Some j) k h p = refl
finds_some P None k h p = absurd (h k p)

-- an answer that is given where two numbers are equal
pub finds_then : {A : Type 0} (P : A → Type 0) (a b : ℕ) {k : A} → (a ≡ b → P k) → ((j : A) → P j → a ≡ b) → Finds P (then_some (eqb a b) k)
finds_then P a b {k} to from = go (eqb a b) (eqb-true a b) (λ e. eq-eqb a b e)
  where
    go : (c : Bool) → (c ≡ true → a ≡ b) → (a ≡ b → c ≡ true) → Finds P (then_some c k)
    go true f g = to (f refl)
    go false f g = λ j p. absurd (false≢true (g (from j p)))

-- k trees of at most d levels stand from record i up to record e
pub record Row (rs ns : List ℕ) (d i k e : ℕ) : Type 0 where
  pub fields : Fields
  pub held : HeldIn rs ns i fields
  pub counted : many fields ≡ k
  pub ends : e ≡ i + length (nodes_in fields)
  pub shallow : levels_in fields ≤ d

pub row_none : {rs ns : List ℕ} {d i k : ℕ} → k ≡ 0 → Row rs ns d i k i
row_none h = record { fields = Fields.none; held = nothing; counted = sym h; ends = omega arith; shallow = omega arith }

pub row_more : {rs ns : List ℕ} {d i j k m e : ℕ} → TreeTo rs ns d i j → Row rs ns d j k e → m ≡ k + 1 → Row rs ns d i m e
row_more {rs} {ns} {d} t r h = record {
  fields = t.tree ⊕ r.fields;
  held = more t.held (subst (λ x. HeldIn rs ns x r.fields) t.ends r.held);
  counted = omega (arith, r.counted);
  ends = simp length-append (omega (arith, t.ends, r.ends));
  shallow = omega (arith, t.shallow, r.shallow);
}

pub record Front (rs ns : List ℕ) (d i k e : ℕ) : Type 0 where
  pub next : ℕ
  pub first : TreeTo rs ns d i next
  pub others : Row rs ns d next k e

pub row-front : {rs ns : List ℕ} {d i k m e : ℕ} → Row rs ns d i m e → m ≡ k + 1 → Front rs ns d i k e
row-front {rs} {ns} {d} {i} {k} {m} {e} r h = go r.fields r.held r.counted r.ends r.shallow
  where
    go : (cs : Fields) → HeldIn rs ns i cs → many cs ≡ m → e ≡ i + length (nodes_in cs) → levels_in cs ≤ d → Front rs ns d i k e
    go Fields.none x n z l = absurd (omega arith)
    go (c ⊕ cs) (more t ts) n z l = record {
      next = i + length (nodes c);
      first = record { tree = c; held = t; ends = refl; shallow = omega arith };
      others = record { fields = cs; held = ts; counted = omega arith; ends = omega (arith, length-append (nodes c) (nodes_in cs)); shallow = omega arith };
    }

pub row_empty : {rs ns : List ℕ} {d i e : ℕ} → Row rs ns d i 0 e → e ≡ i
row_empty {rs} {ns} {d} {i} {e} r = go r.fields r.counted r.ends
  where
    go : (cs : Fields) → many cs ≡ 0 → e ≡ i + length (nodes_in cs) → e ≡ i
    go Fields.none n z = omega arith
    go (c ⊕ cs) n z = absurd (omega arith)

pub same_end : {rs ns : List ℕ} {d i j k : ℕ} → TreeTo rs ns d i j → TreeTo rs ns d i k → j ≡ k
same_end {i = i} a b = a.ends ∙ ap (λ t. i + length (nodes t)) (same_tree a.held b.held) ∙ sym b.ends

-- The steps of the loop over a node's children.
pub row_step : {rs ns : List ℕ} {d i j k m e : ℕ} → TreeTo rs ns d i j → m ≡ k + 1 → Row rs ns d i m e → Row rs ns d j k e
row_step {rs} {ns} {d} {k = k} {e = e} t h r = let f = row-front r h in subst (λ x. Row rs ns d x k e) (same_end f.first t) f.others

-- A node, from its record and its children.

-- what the record asks of a node
record Made (f : Field) (cs : Fields) (l w n : ℕ) : Type 0 where
  pub tree : Node
  pub field : field_of tree ≡ f
  pub children : children_of tree ≡ cs
  pub letter : letter_of tree ≡ l
  pub wide : bit (wide_of tree) ≡ w
  pub count : count_of tree ≡ n
  pub childed : Childed tree
  pub limited : Limited tree

no_fields : (cs : Fields) → many cs ≡ 0 → cs ≡ Fields.none
no_fields Fields.none e = refl
no_fields (c ⊕ cs) e = absurd (omega arith)

flag_bit : (w : ℕ) → w ≤ 1 → bit (eqb w 1) ≡ w
flag_bit zero h = refl
flag_bit (suc zero) h = refl
flag_bit (suc (suc w)) h = absurd (omega arith)

at : {j k : Kind} (n : ℕ) → j ≡ k → many_for j n ≡ many_for k n
at n e = ap (λ k. many_for k n) e

made : {b l w n : ℕ} {k : Kind} → Kinded l b w n k → (f : Field) → f.nullable ≡ eqb b 1 → (cs : Fields) → many cs ≡ many_for k n → Made f cs l w n
made {n = n} (struct' a x y z) f h cs m = record { tree = branch f struct cs; field = refl; children = refl; letter = sym a; wide = sym x; count = m ∙ at n z; childed = tt; limited = rw (m ∙ at n z) y }
made {n = n} (fixed' a x z) f h cs m = record { tree = branch f (fixed n) cs; field = refl; children = refl; letter = sym a; wide = sym x; count = refl; childed = m ∙ at n z; limited = tt }
made {w = w} {n = n} (list' a x y z) f h cs m = record { tree = branch f (list false (eqb w 1)) cs; field = refl; children = refl; letter = sym a; wide = flag_bit w x; count = sym y; childed = m ∙ at n z; limited = tt }
made {w = w} {n = n} (view' a x y z) f h cs m = record { tree = branch f (list true (eqb w 1)) cs; field = refl; children = refl; letter = sym a; wide = flag_bit w x; count = sym y; childed = m ∙ at n z; limited = tt }
made {n = n} (map' a x y z) f h cs m = record { tree = branch f Branch.Map cs; field = refl; children = refl; letter = sym a; wide = sym x; count = sym y; childed = m ∙ at n z; limited = tt }
made {w = w} {n = n} (text' a x y z) f h cs m = record { tree = leaf f (text (eqb w 1)); field = refl; children = sym (no_fields cs (m ∙ at n z)); letter = sym a; wide = flag_bit w x; count = sym y; childed = tt; limited = tt }
made {n = n} (boolean' a x y z) f h cs m = record { tree = leaf f boolean; field = refl; children = sym (no_fields cs (m ∙ at n z)); letter = sym a; wide = sym x; count = sym y; childed = tt; limited = tt }
made {n = n} (null' a e x y z) f h cs m = record { tree = leaf f LeafKind.Null; field = refl; children = sym (no_fields cs (m ∙ at n z)); letter = sym a; wide = sym x; count = sym y; childed = tt; limited = h ∙ rw e refl }
made {n = n} (custom' a x y z) f h cs m = record { tree = leaf f custom; field = refl; children = sym (no_fields cs (m ∙ at n z)); letter = sym a; wide = sym x; count = sym y; childed = tt; limited = tt }

pub nodes_size : (t : Node) → length (nodes t) ≡ 1 + length (nodes_in (children_of t))
nodes_size (branch f b cs) = omega arith
nodes_size (leaf f k) = omega arith

levels_size : (t : Node) → levels t ≡ 1 + levels_in (children_of t)
levels_size (branch f b cs) = refl
levels_size (leaf f k) = refl

pub tree_made : {rs ns : List ℕ} {d i k e : ℕ} → 0 < d → Fit rs ns i k → Row rs ns (d - 1) (i + 1) k e → end_at rs i ≡ e → TreeTo rs ns d i e
tree_made {rs} {ns} {d} {i} {k} {e} deep x r h =
    let f : Field = record { number = i; name = name_at rs ns i; nullable = eqb (flag_at rs i) 1 } in
    let m = made x.kinded f refl r.fields (r.counted ∙ x.children) in
    let size : e ≡ i + length (nodes m.tree) = omega (arith, r.ends, nodes_size m.tree, ap (λ z. length (nodes_in z)) m.children) in
    record {
      tree = m.tree;
      held = node
          (record {
            within = x.within;
            number = ap (λ z. z.number) m.field;
            letter = sym m.letter;
            flag = sym (ap (λ z. bit z.nullable) m.field ∙ flag_bit (flag_at rs i) x.flag);
            wide = sym m.wide;
            spare = x.spare;
            end = h ∙ size;
            named = x.named;
            name = ap (λ z. z.name) m.field;
            count = sym m.count;
          })
          m.childed m.limited (subst (λ z. HeldIn rs ns (i + 1) z) (sym m.children) r.held);
      ends = size;
      shallow = omega (arith, deep, r.shallow, levels_size m.tree, ap levels_in m.children);
    }

-- and a record and children, from a node
pub record Apart (rs ns : List ℕ) (d i e : ℕ) : Type 0 where
  pub many' : ℕ
  pub deep : 0 < d
  pub fit : Fit rs ns i many'
  pub row : Row rs ns (d - 1) (i + 1) many' e
  pub end : end_at rs i ≡ e

pub tree_apart : {rs ns : List ℕ} {d i e : ℕ} → TreeTo rs ns d i e → Apart rs ns d i e
tree_apart {rs} {ns} {d} {i} {e} r = go r.held r.ends r.shallow
  where
    go : {t : Node} → Held rs ns i t → e ≡ i + length (nodes t) → levels t ≤ d → Apart rs ns d i e
    go (node {t = t} w a l cs) h s = record {
      many' = many (children_of t);
      deep = omega (arith, levels_size t);
      fit = written_fit w a l;
      row = record { fields = children_of t; held = cs; counted = refl; ends = omega (arith, nodes_size t); shallow = omega (arith, levels_size t) };
      end = w.end ∙ sym h;
    }

pub fit_one : {rs ns : List ℕ} {i j k : ℕ} → Fit rs ns i j → Fit rs ns i k → j ≡ k
fit_one {rs} {i = i} a b = a.children ∙ ap (λ k. many_for k (count_at rs i)) (kinded_one a.kinded b.kinded) ∙ sym b.children

pub row-counted : {rs ns : List ℕ} {d i j k e : ℕ} → j ≡ k → Row rs ns d i j e → Row rs ns d i k e
row-counted h r = record { fields = r.fields; held = r.held; counted = r.counted ∙ h; ends = r.ends; shallow = r.shallow }
