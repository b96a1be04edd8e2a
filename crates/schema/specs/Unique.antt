-- That records hold a tree has one proof at most, so a schema may keep it.
use Rattle.std.proofs.Common.{◌≡◌, ℕ, ◌+◌, List, length, sym, refl, ap, ◌∙◌}
use Rattle.std.proofs.Props.{props}
use Rattle.std.specs.Coded.{×_prop, Unit-prop}
use mathlib.Core.HLevel.{Σ_prop_path}
use Rattle.schema.specs.Tree.{Node, branch, leaf, Fields, ◌⊕◌, many, nodes, children_of, Childed, Branch, struct, list, fixed, LeafKind, text, boolean, custom}
use Rattle.schema.specs.Held.{Limited, Written, Held, HeldIn}
use Rattle.schema.specs.Held.Held.{node}
use Rattle.schema.specs.Held.HeldIn.{nothing, more}
use Rattle.schema.specs.Siblings.{Siblings}
use Rattle.schema.specs.Opens.{Opens}
use Rattle.schema.specs.OneTree.{same_tree, same_fields}

-- what maps into a type with one value at most, and back, has one value at most
retract_prop : {A B : Type 0} (to : A → B) (from : B → A) → ((x : A) → from (to x) ≡ x) → IsProp B → IsProp A
retract_prop to from back one x y = sym (back x) ∙ ap from (one (to x) (to y)) ∙ back y

Childed-prop : (t : Node) → IsProp (Childed t)
Childed-prop (branch f struct cs) = hlevel props
Childed-prop (branch f (list view wide) cs) = hlevel props
Childed-prop (branch f (fixed n) cs) = hlevel props
Childed-prop (branch f Branch.Map cs) = hlevel props
Childed-prop (leaf f k) = hlevel props

Limited-prop : (t : Node) → IsProp (Limited t)
Limited-prop (branch f struct cs) = hlevel props
Limited-prop (branch f (list view wide) cs) = hlevel props
Limited-prop (branch f (fixed n) cs) = hlevel props
Limited-prop (branch f Branch.Map cs) = hlevel props
Limited-prop (leaf f (text wide)) = hlevel props
Limited-prop (leaf f boolean) = hlevel props
Limited-prop (leaf f LeafKind.Null) = hlevel props
Limited-prop (leaf f custom) = hlevel props

-- the parts of a held tree
abbrev Parts : List ℕ → List ℕ → ℕ → Node → Type 0
Parts rs ns i t = Written rs ns i t × Childed t × Limited t × HeldIn rs ns (i + 1) (children_of t)

-- and of held trees one after another
abbrev PartsIn : List ℕ → List ℕ → ℕ → Fields → Type 0
PartsIn rs ns i Fields.none = Unit {0}
PartsIn rs ns i (c ⊕ cs) = Held rs ns i c × HeldIn rs ns (i + length (nodes c)) cs

abbrev parts : {rs ns : List ℕ} {i : ℕ} {t : Node} → Held rs ns i t → Parts rs ns i t
parts (node w a l cs) = (w, a, l, cs)

abbrev held : {rs ns : List ℕ} {i : ℕ} {t : Node} → Parts rs ns i t → Held rs ns i t
held (w, a, l, cs) = node w a l cs

held_parts : {rs ns : List ℕ} {i : ℕ} {t : Node} (h : Held rs ns i t) → held (parts h) ≡ h
held_parts (node w a l cs) = refl

abbrev parts_in : {rs ns : List ℕ} {i : ℕ} {cs : Fields} → HeldIn rs ns i cs → PartsIn rs ns i cs
parts_in nothing = tt
parts_in (more t ts) = (t, ts)

abbrev held_in : {rs ns : List ℕ} {i : ℕ} (cs : Fields) → PartsIn rs ns i cs → HeldIn rs ns i cs
held_in Fields.none p = nothing
held_in (c ⊕ cs) p = more p.0 p.1

held_in_parts : {rs ns : List ℕ} {i : ℕ} {cs : Fields} (h : HeldIn rs ns i cs) → held_in cs (parts_in h) ≡ h
held_in_parts nothing = refl
held_in_parts (more t ts) = refl

-- the parts have one proof at most where those of the children do
Parts-prop : {rs ns : List ℕ} {i : ℕ} (t : Node) → IsProp (HeldIn rs ns (i + 1) (children_of t)) → IsProp (Held rs ns i t)
Parts-prop {rs} {ns} {i} t children =
    let one : IsProp (Parts rs ns i t) = hlevel (props, Childed-prop, Limited-prop, children) in
    retract_prop parts held held_parts one

none-prop : {rs ns : List ℕ} {i : ℕ} → IsProp (HeldIn rs ns i Fields.none)
none-prop = retract_prop {B = Unit {0}} parts_in (held_in Fields.none) held_in_parts Unit-prop

mutual
  Held-prop : {rs ns : List ℕ} {i : ℕ} (t : Node) → IsProp (Held rs ns i t)
  Held-prop (branch f b cs) = Parts-prop (branch f b cs) (HeldIn-prop cs)
  Held-prop (leaf f k) = Parts-prop (leaf f k) none-prop

  HeldIn-prop : {rs ns : List ℕ} {i : ℕ} (cs : Fields) → IsProp (HeldIn rs ns i cs)
  HeldIn-prop Fields.none = none-prop
  HeldIn-prop {rs} {ns} {i} (c ⊕ cs) = retract_prop {B = PartsIn rs ns i (c ⊕ cs)} parts_in (held_in (c ⊕ cs)) held_in_parts (×_prop (Held-prop c) (HeldIn-prop cs))

Opens-prop : {rs ns : List ℕ} (root : Node) → IsProp (Opens rs ns root)
Opens-prop {rs} {ns} root =
    let one : IsProp (Held rs ns 0 root) = Held-prop root in
    hlevel (props, one)

pub opened_prop : (rs ns : List ℕ) → IsProp ((root : Node) × Opens rs ns root)
opened_prop rs ns a b = Σ_prop_path Opens-prop (same_tree a.1.held b.1.held)

-- that so many trees are held has one proof at most, too
pub siblings_prop : (rs ns : List ℕ) (i k : ℕ) → IsProp (Siblings rs ns i k)
siblings_prop rs ns i k a b =
    let fields : a.fields ≡ b.fields = same_fields a.held b.held (a.counted ∙ sym b.counted) in
    ap (λ p. record { fields = p.0; held = p.1.0; counted = p.1.1 })
    (Σ_prop_path {B = λ cs. HeldIn rs ns i cs × (many cs ≡ k)} (λ cs. hlevel (props, HeldIn-prop)) {u = (a.fields, (a.held, a.counted))} {v = (b.fields, (b.held, b.counted))} fields)
