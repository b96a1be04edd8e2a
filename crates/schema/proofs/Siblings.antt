-- The children of a node, as an iterator gives their numbers.
use Rattle.std.proofs.Common.{◌≡◌, ℕ, zero, suc, ◌+◌, ◌-◌, ◌<◌, ◌≤◌, List, [], ◌∷◌, ◌++◌, length, get_or, sym, refl, ap, ◌∙◌, subst, arith, length-append}
use Rattle.std.specs.List.{All}
use Rattle.std.specs.Iterator.{Yields, YieldsFirst}
use Rattle.std.proofs.lemmas.List.{get_or_at}
use Rattle.schema.specs.declared.children.Children.{Children}
use Rattle.schema.specs.Children.{rest}
use Rattle.schema.specs.declared.kind.Kind.{Kind}
use Rattle.schema.specs.Tree.{Node, Fields, ◌⊕◌, kind_of, children_of, many, numbers, nodes, nodes_in}
use Rattle.schema.specs.Layout.{record_count, end_at}
use Rattle.schema.specs.Held.{count_of, many_for, Held, HeldIn}
use Rattle.schema.specs.Held.HeldIn.{nothing, more}
use Rattle.schema.specs.Siblings.{Siblings, siblings}
use Rattle.schema.specs.OneTree.{childed_many}
use Rattle.schema.proofs.Nodes.{held_written, held_childed, held_children, held_first, held_rest, held_ends, held_end, held_size}

-- the trees from the second on
pub record Front (rs ns : List ℕ) (i k : ℕ) : Type 0 where
  pub first : Node
  pub held : Held rs ns i first
  pub others : Siblings rs ns (end_at rs i) (k - 1)

pub siblings_front : {rs ns : List ℕ} {i k : ℕ} → Siblings rs ns i k → 0 < k → Front rs ns i k
siblings_front {rs} {ns} {i} {k} s h = go s.fields s.held s.counted
  where
    go : (cs : Fields) → HeldIn rs ns i cs → many cs ≡ k → Front rs ns i k
    go Fields.none x n = absurd (omega arith)
    go (c ⊕ cs) x n = record { first = c; held = held_first x; others = record { fields = cs; held = held_rest x; counted = omega arith } }

-- how many trees stand under a node
many_under : {rs ns : List ℕ} {i k n : ℕ} {t : Node} {d : Kind} → Held rs ns i t → d ≡ kind_of t → n ≡ count_of t → k ≡ many_for d n → many (children_of t) ≡ k
many_under {t = t} h d n k = rw (k, d, n) (childed_many t (held_childed h))

pub under : {rs ns : List ℕ} {i k n : ℕ} {t : Node} {d : Kind} → Held rs ns i t → d ≡ kind_of t → n ≡ count_of t → k ≡ many_for d n → Siblings rs ns (i + 1) k
under {t = t} h d n k = record { fields = children_of t; held = held_children h; counted = many_under h d n k }

-- and their numbers
numbers_in : {rs ns : List ℕ} {i : ℕ} {cs : Fields} → HeldIn rs ns i cs → siblings rs i (many cs) ≡ numbers cs
numbers_in nothing = refl
numbers_in {rs} (more {i = i} {c = c} {cs = cs} t ts) = rw (held_written t).number (ap (λ r. i ∷ r) (rw (held_written t).end (numbers_in ts)))

pub numbers_under : {rs ns : List ℕ} {i k n : ℕ} {t : Node} {d : Kind} → Held rs ns i t → d ≡ kind_of t → n ≡ count_of t → k ≡ many_for d n → siblings rs (i + 1) k ≡ numbers (children_of t)
numbers_under {rs} {i = i} {t = t} h d n k = ap (siblings rs (i + 1)) (sym (many_under h d n k)) ∙ numbers_in (held_children h)

-- each number is that of a node, and there are no more of them than nodes
pub numbers_size : (cs : Fields) → length (numbers cs) ≡ many cs
numbers_size Fields.none = refl
numbers_size (c ⊕ cs) = ap suc (numbers_size cs)

-- the child at place k, and those after it
pub record Placed (rs ns : List ℕ) (cs : Fields) (k x : ℕ) : Type 0 where
  pub child : Node
  pub held : Held rs ns x child
  pub after : Fields
  pub others : HeldIn rs ns (end_at rs x) after
  pub left : k + (1 + many after) ≡ many cs

pub placed : {rs ns : List ℕ} {i : ℕ} {cs : Fields} → HeldIn rs ns i cs → (k d : ℕ) → k < many cs → Placed rs ns cs k (get_or (numbers cs) k d)
placed nothing k d l = absurd (omega arith)
placed {rs} {ns} (more {i = i} {c = c} {cs = cs} t ts) zero d l =
    rw (held_written t).number (record { child = c; held = t; after = cs; others = held_rest (more t ts); left = omega arith })
placed (more {c = c} {cs = cs} t ts) (suc k) d l =
    let p = placed ts k d (omega arith) in
    record { child = p.child; held = p.held; after = p.after; others = p.others; left = omega (arith, p.left) }

-- the first is the node after the parent, and each other one is where the one before it ends
pub numbers_first : {rs ns : List ℕ} {i : ℕ} {cs : Fields} → HeldIn rs ns i cs → (d : ℕ) → 0 < many cs → get_or (numbers cs) 0 d ≡ i
numbers_first nothing d l = absurd (omega arith)
numbers_first (more t ts) d l = (held_written t).number

pub numbers_next : {rs ns : List ℕ} {i : ℕ} {cs : Fields} → HeldIn rs ns i cs → (k d : ℕ) → k + 1 < many cs → get_or (numbers cs) (k + 1) d ≡ end_at rs (get_or (numbers cs) k d)
numbers_next nothing k d l = absurd (omega arith)
numbers_next {rs} (more t ts) zero d l = rw (held_written t).number (numbers_first (held_rest (more t ts)) d (omega arith))
numbers_next (more t ts) (suc k) d l = let e : suc k + 1 ≡ suc (k + 1) = omega arith in rw e (numbers_next ts k d (omega arith))

numbers_few : {rs ns : List ℕ} {i : ℕ} {cs : Fields} → HeldIn rs ns i cs → many cs ≤ length (nodes_in cs)
numbers_few nothing = omega arith
numbers_few (more {c = c} {cs = cs} t ts) = omega (arith, length-append (nodes c) (nodes_in cs), numbers_few ts, held_ends t, (held_written t).end, held_end t)

pub few_under : {rs ns : List ℕ} {i : ℕ} {t : Node} → Held rs ns i t → length (numbers (children_of t)) < record_count rs
few_under {t = t} h = omega (arith, numbers_size (children_of t), numbers_few (held_children h), held_end h, held_size h)

pub within_under : {rs ns : List ℕ} {i : ℕ} {t : Node} → Held rs ns i t → All (λ c. c < record_count rs) (numbers (children_of t))
within_under {t = t} h = λ k d l. (held_written (placed (held_children h) k d (omega (arith, numbers_size (children_of t)))).held).within

-- A `for child in schema.children(node)` that began at s, has yielded xs and is at t: at each turn the child at that place, and in the end all.
pub yielded : (s : Children) (xs : List ℕ) (t : Children) → Yields (YieldsFirst rest) s xs t → rest s ≡ xs ++ rest t
yielded s [] t y = ap rest y
yielded s (x ∷ xs) t y = y.1 ∙ ap (λ l. x ∷ l) (yielded y.0 xs t y.2)

module _ {rs ns : List ℕ} {i : ℕ} {cs : Fields} (h : HeldIn rs ns i cs) (s : Children) (e : rest s ≡ numbers cs) (xs : List ℕ) (t : Children) (y : Yields (YieldsFirst rest) s xs t) where
  pub turn : {x : ℕ} {after : List ℕ} → rest t ≡ x ∷ after → (x ≡ get_or (numbers cs) (length xs) x) × Placed rs ns cs (length xs) x
  turn {x} {after} p =
      let all : numbers cs ≡ xs ++ x ∷ after = sym e ∙ yielded s xs t y ∙ ap (λ l. xs ++ l) p in
      let here : x ≡ get_or (numbers cs) (length xs) x = sym (ap (λ l. get_or l (length xs) x) all ∙ get_or_at xs x after x (length xs) refl) in
      let few : length xs < many cs = omega (arith, ap length all, length-append xs (x ∷ after), numbers_size cs) in
      (here, subst (λ z. Placed rs ns cs (length xs) z) (sym here) (placed h (length xs) x few))

  pub ended : rest t ≡ [] → length xs ≡ many cs
  ended p = omega (arith, ap length (sym e ∙ yielded s xs t y ∙ ap (λ l. xs ++ l) p), length-append xs [], numbers_size cs)
