-- Bytes are a tape in one way only.
use Rattle.std.proofs.Common.{◌≡◌, ℕ, ◌+◌, ◌-◌, ◌<◌, ◌≤◌, ◌⊎◌, List, sym, refl, ap, ◌∙◌, subst, inl, inr, arith}
use Rattle.std.proofs.Props.{props}
use mathlib.Core.Path.{subst_refl}
use native.Mathlib.Nat.{ℕ_set}
use native.Mathlib.Bridge.{le_prop}
use Rattle.tape.specs.Layout.{the, letter_at, number_at, next_at}
use Rattle.tape.specs.Grammar.{Text, Leaf, Partners, Value, Values, Pairs}
use Rattle.tape.specs.Grammar.Leaf.{string, number, i32, true', false', null}
use Rattle.tape.specs.Grammar.Value.{leaf, i64, list, object}
use Rattle.tape.specs.Grammar.Values.{none, more}
use Rattle.tape.specs.Grammar.Pairs.{no_pair, pair}
use Rattle.tape.specs.Opens.{Opens}

-- what a leaf's letter says of its number
abbrev pub LeafFacts : List ℕ → ℕ → ℕ → Type 0
LeafFacts es m p =
    ((letter_at es p ≡ 115) × (number_at es p + 1 < m))
    ⊎ ((letter_at es p ≡ 110) × (number_at es p + 1 < m))
    ⊎ (letter_at es p ≡ 105)
    ⊎ ((letter_at es p ≡ 116) × (number_at es p ≡ 0))
    ⊎ ((letter_at es p ≡ 102) × (number_at es p ≡ 0))
    ⊎ ((letter_at es p ≡ 122) × (number_at es p ≡ 0))

abbrev pub leaf_facts : {es : List ℕ} {m p : ℕ} → Leaf es m p → LeafFacts es m p
leaf_facts (string t) = inl (t.letter, t.held)
leaf_facts (number a h) = inr (inl (a, h))
leaf_facts (i32 a) = inr (inr (inl a))
leaf_facts (true' a z) = inr (inr (inr (inl (a, z))))
leaf_facts (false' a z) = inr (inr (inr (inr (inl (a, z)))))
leaf_facts (null a z) = inr (inr (inr (inr (inr (a, z)))))

leaf_next : {es : List ℕ} {m p : ℕ} → Leaf es m p → p + 1 ≡ next_at es p
leaf_next (string t) = rw t.letter refl
leaf_next (number a h) = rw a refl
leaf_next (i32 a) = rw a refl
leaf_next (true' a z) = rw a refl
leaf_next (false' a z) = rw a refl
leaf_next (null a z) = rw a refl

-- a value ends where its first element says
pub value_next : {es : List ℕ} {m d p q : ℕ} → Value es m d p q → q ≡ next_at es p
value_next (leaf l) = leaf_next l
value_next (i64 a b) = rw a refl
value_next (list h vs x) = rw (x.opens, x.to) refl
value_next (object h ps x) = rw (x.opens, x.to) refl

pub unique : {es : List ℕ} {m d p k q : ℕ} → Value es m d p k → Value es m d p q → k ≡ q
unique v w = value_next v ∙ sym (value_next w)

mutual
  pub value_forward : {es : List ℕ} {m d p q : ℕ} → Value es m d p q → p < q
  value_forward (leaf l) = omega arith
  value_forward (i64 a b) = omega arith
  value_forward (list h vs x) = omega (arith, values_forward vs)
  value_forward (object h ps x) = omega (arith, pairs_forward ps)

  pub values_forward : {es : List ℕ} {m d p q : ℕ} → Values es m d p q → p ≤ q
  values_forward none = omega arith
  values_forward (more v vs) = omega (arith, value_forward v, values_forward vs)

  pub pairs_forward : {es : List ℕ} {m d p q : ℕ} → Pairs es m d p q → p ≤ q
  pairs_forward no_pair = omega arith
  pairs_forward (pair t v ps) = omega (arith, value_forward v, pairs_forward ps)

-- what maps to equal things, and can be made again from them, is equal
retract : {A B : Type 0} (to : A → B) (from : B → A) → ((x : A) → from (to x) ≡ x) → (x y : A) → to x ≡ to y → x ≡ y
retract to from back x y e = sym (back x) ∙ ap from e ∙ back y

-- at most one of two holds, each in one way
either_prop : {A B : Type 0} → IsProp A → IsProp B → (A → B → ⊥) → IsProp (A ⊎ B)
either_prop a b n (inl x) (inl y) = ap inl (a x y)
either_prop a b n (inl x) (inr y) = absurd (n x y)
either_prop a b n (inr x) (inl y) = absurd (n y x)
either_prop a b n (inr x) (inr y) = ap inr (b x y)

-- of an index, what is there
abbrev there : {B : ℕ → Type 0} (a : ℕ) → B a → (a : ℕ) × B a
there a b = (a, b)

-- at equal indices stands the same, where nothing else can stand at the first
same_there : {B : ℕ → Type 0} {a c : ℕ} → a ≡ c → (b : B a) → ((w : B a) → b ≡ w) → (w : B c) → there {B = B} a b ≡ there {B = B} c w
same_there {B} {a} {c} i b h = subst (λ x. (w : B x) → there {B = B} a b ≡ there {B = B} x w) i (λ w. ap (there {B = B} a) (h w))

module _ (es : List ℕ) (m : ℕ) where
  abbrev leaf_back : {p : ℕ} → LeafFacts es m p → Leaf es m p
  leaf_back (inl a) = string (record { letter = a.0; held = a.1 })
  leaf_back (inr (inl a)) = number a.0 a.1
  leaf_back (inr (inr (inl a))) = i32 a
  leaf_back (inr (inr (inr (inl a)))) = true' a.0 a.1
  leaf_back (inr (inr (inr (inr (inl a))))) = false' a.0 a.1
  leaf_back (inr (inr (inr (inr (inr a))))) = null a.0 a.1

  leaf_again : {p : ℕ} (l : Leaf es m p) → leaf_back (leaf_facts l) ≡ l
  leaf_again (string t) = refl
  leaf_again (number a h) = refl
  leaf_again (i32 a) = refl
  leaf_again (true' a z) = refl
  leaf_again (false' a z) = refl
  leaf_again (null a z) = refl

  facts_prop : (p : ℕ) → IsProp (LeafFacts es m p)
  facts_prop p =
      either_prop (hlevel props) (either_prop (hlevel props) (either_prop (hlevel props) (either_prop (hlevel props)
      (either_prop (hlevel props) (hlevel props) (λ a b. omega arith)) (λ a b. omega arith)) (λ a b. omega arith)) (λ a b. omega arith)) (λ a b. omega arith)

  leaf_prop : {p : ℕ} → IsProp (Leaf es m p)
  leaf_prop x y = retract leaf_facts leaf_back leaf_again x y (facts_prop _ _ _)

  -- what a value is made of
  abbrev ListFrom : ℕ → ℕ → ℕ → ℕ → Type 0
  ListFrom d p q e = (0 < d) × Values es m (d - 1) (p + 1) e × Partners es (the "[") (the "]") p e × (e + 1 ≡ q)

  abbrev ObjectFrom : ℕ → ℕ → ℕ → ℕ → Type 0
  ObjectFrom d p q e = (0 < d) × Pairs es m (d - 1) (p + 1) e × Partners es (the "{") (the "}") p e × (e + 1 ≡ q)

  abbrev Pieces : ℕ → ℕ → ℕ → Type 0
  Pieces d p q =
      (Leaf es m p × (p + 1 ≡ q)) ⊎ ((letter_at es p ≡ the "j") × (letter_at es (p + 1) ≡ the "i") × (p + 2 ≡ q))
      ⊎ ((e : ℕ) × ListFrom d p q e) ⊎ ((e : ℕ) × ObjectFrom d p q e)

  abbrev pieces : {d p q : ℕ} → Value es m d p q → Pieces d p q
  pieces (leaf l) = inl (l, refl)
  pieces (i64 a b) = inr (inl (a, b, refl))
  pieces (list {q = e} h vs x) = inr (inr (inl (there {B = ListFrom _ _ _} e (h, vs, x, refl))))
  pieces (object {q = e} h ps x) = inr (inr (inr (there {B = ObjectFrom _ _ _} e (h, ps, x, refl))))

  abbrev whole : {d p q : ℕ} → Pieces d p q → Value es m d p q
  whole {d} {p} (inl a) = subst (Value es m d p) a.1 (leaf a.0)
  whole {d} {p} (inr (inl a)) = subst (Value es m d p) a.2 (i64 a.0 a.1)
  whole {d} {p} (inr (inr (inl a))) = subst (Value es m d p) a.1.3 (list a.1.0 a.1.1 a.1.2)
  whole {d} {p} (inr (inr (inr a))) = subst (Value es m d p) a.1.3 (object a.1.0 a.1.1 a.1.2)

  whole_pieces : {d p q : ℕ} (v : Value es m d p q) → whole (pieces v) ≡ v
  whole_pieces {d} {p} (leaf l) = subst_refl (Value es m d p) (leaf l)
  whole_pieces {d} {p} (i64 a b) = subst_refl (Value es m d p) (i64 a b)
  whole_pieces {d} {p} (list h vs x) = subst_refl (Value es m d p) (list h vs x)
  whole_pieces {d} {p} (object h ps x) = subst_refl (Value es m d p) (object h ps x)

  -- values are none, or one and the others
  abbrev More : ℕ → ℕ → ℕ → ℕ → Type 0
  More d p k q = Value es m d p q × Values es m d q k

  abbrev front : {d p k : ℕ} → Values es m d p k → (p ≡ k) ⊎ ((q : ℕ) × More d p k q)
  front none = inl refl
  front (more {q = q} v vs) = inr (there {B = More _ _ _} q (v, vs))

  abbrev back : {d p k : ℕ} → (p ≡ k) ⊎ ((q : ℕ) × More d p k q) → Values es m d p k
  back {d} {p} (inl e) = subst (Values es m d p) e none
  back (inr a) = more a.1.0 a.1.1

  back_front : {d p k : ℕ} (vs : Values es m d p k) → back (front vs) ≡ vs
  back_front {d} {p} none = subst_refl (Values es m d p) none
  back_front (more v vs) = refl

  -- so are pairs
  abbrev MorePairs : ℕ → ℕ → ℕ → ℕ → Type 0
  MorePairs d p k q = Text es m p × Value es m d (p + 1) q × Pairs es m d q k

  abbrev pair_front : {d p k : ℕ} → Pairs es m d p k → (p ≡ k) ⊎ ((q : ℕ) × MorePairs d p k q)
  pair_front no_pair = inl refl
  pair_front (pair {q = q} t v ps) = inr (there {B = MorePairs _ _ _} q (t, v, ps))

  abbrev pair_back : {d p k : ℕ} → (p ≡ k) ⊎ ((q : ℕ) × MorePairs d p k q) → Pairs es m d p k
  pair_back {d} {p} (inl e) = subst (Pairs es m d p) e no_pair
  pair_back (inr a) = pair a.1.0 a.1.1 a.1.2

  pair_back_front : {d p k : ℕ} (ps : Pairs es m d p k) → pair_back (pair_front ps) ≡ ps
  pair_back_front {d} {p} no_pair = subst_refl (Pairs es m d p) no_pair
  pair_back_front (pair t v ps) = refl

  partners_prop : (a b p q : ℕ) → IsProp (Partners es a b p q)
  partners_prop a b p q = hlevel props

  text_prop : {p : ℕ} → IsProp (Text es m p)
  text_prop = hlevel props

  -- the pieces of each kind are all that stands there
  leaf_only : {d p : ℕ} (l : Leaf es m p) (a : Pieces d p (p + 1)) → inl (l, refl) ≡ a
  leaf_only l (inl a) = ap inl (λ i. (leaf_prop l a.0 i, ℕ_set _ _ refl a.1 i))
  leaf_only l (inr (inl a)) = absurd (omega (arith, leaf_facts l, a.0))
  leaf_only l (inr (inr (inl a))) = absurd (omega (arith, leaf_facts l, a.1.2.opens))
  leaf_only l (inr (inr (inr a))) = absurd (omega (arith, leaf_facts l, a.1.2.opens))

  i64_only : {d p : ℕ} (h : letter_at es p ≡ the "j") (k : letter_at es (p + 1) ≡ the "i") (a : Pieces d p (p + 2)) → inr (inl (h, k, refl)) ≡ a
  i64_only h k (inl a) = absurd (omega (arith, leaf_facts a.0, h))
  i64_only h k (inr (inl a)) = ap (λ x. inr (inl x)) (λ i. (ℕ_set _ _ h a.0 i, ℕ_set _ _ k a.1 i, ℕ_set _ _ refl a.2 i))
  i64_only h k (inr (inr (inl a))) = absurd (omega (arith, h, a.1.2.opens))
  i64_only h k (inr (inr (inr a))) = absurd (omega (arith, h, a.1.2.opens))

  list_only : {d p e : ℕ} (h : 0 < d) (vs : Values es m (d - 1) (p + 1) e) (x : Partners es (the "[") (the "]") p e) → ((w : Values es m (d - 1) (p + 1) e) → vs ≡ w)
      → (a : Pieces d p (e + 1)) → inr (inr (inl (there {B = ListFrom d p (e + 1)} e (h, vs, x, refl)))) ≡ a
  list_only h vs x only (inl a) = absurd (omega (arith, leaf_facts a.0, x.opens))
  list_only h vs x only (inr (inl a)) = absurd (omega (arith, a.0, x.opens))
  list_only {d} {p} {e} h vs x only (inr (inr (inl a))) =
      ap (λ y. inr (inr (inl y)))
      (same_there {B = ListFrom d p (e + 1)} (sym x.to ∙ a.1.2.to) (h, vs, x, refl)
      (λ w i. (le_prop h w.0 i, only w.1 i, partners_prop _ _ _ _ x w.2 i, ℕ_set _ _ refl w.3 i)) a.1)
  list_only h vs x only (inr (inr (inr a))) = absurd (omega (arith, a.1.2.opens, x.opens))

  object_only : {d p e : ℕ} (h : 0 < d) (ps : Pairs es m (d - 1) (p + 1) e) (x : Partners es (the "{") (the "}") p e) → ((w : Pairs es m (d - 1) (p + 1) e) → ps ≡ w)
      → (a : Pieces d p (e + 1)) → inr (inr (inr (there {B = ObjectFrom d p (e + 1)} e (h, ps, x, refl)))) ≡ a
  object_only h ps x only (inl a) = absurd (omega (arith, leaf_facts a.0, x.opens))
  object_only h ps x only (inr (inl a)) = absurd (omega (arith, a.0, x.opens))
  object_only h ps x only (inr (inr (inl a))) = absurd (omega (arith, a.1.2.opens, x.opens))
  object_only {d} {p} {e} h ps x only (inr (inr (inr a))) =
      ap (λ y. inr (inr (inr y)))
      (same_there {B = ObjectFrom d p (e + 1)} (sym x.to ∙ a.1.2.to) (h, ps, x, refl)
      (λ w i. (le_prop h w.0 i, only w.1 i, partners_prop _ _ _ _ x w.2 i, ℕ_set _ _ refl w.3 i)) a.1)

  more_only : {d p q k : ℕ} (v : Value es m d p q) (vs : Values es m d q k) → ((w : Value es m d p q) → v ≡ w) → ((w : Values es m d q k) → vs ≡ w)
      → (a : (p ≡ k) ⊎ ((q : ℕ) × More d p k q)) → inr (there {B = More d p k} q (v, vs)) ≡ a
  more_only v vs one others (inl e) = absurd (omega (arith, value_forward v, values_forward vs))
  more_only {d} {p} {q} {k} v vs one others (inr a) =
      ap inr (same_there {B = More d p k} (unique v a.1.0) (v, vs) (λ w i. (one w.0 i, others w.1 i)) a.1)

  pair_only : {d p q k : ℕ} (t : Text es m p) (v : Value es m d (p + 1) q) (ps : Pairs es m d q k) → ((w : Value es m d (p + 1) q) → v ≡ w) → ((w : Pairs es m d q k) → ps ≡ w)
      → (a : (p ≡ k) ⊎ ((q : ℕ) × MorePairs d p k q)) → inr (there {B = MorePairs d p k} q (t, v, ps)) ≡ a
  pair_only t v ps one others (inl e) = absurd (omega (arith, value_forward v, pairs_forward ps))
  pair_only {d} {p} {q} {k} t v ps one others (inr a) =
      ap inr (same_there {B = MorePairs d p k} (unique v a.1.1) (t, v, ps) (λ w i. (text_prop t w.0 i, one w.1 i, others w.2 i)) a.1)

  none_only : {d p : ℕ} (a : (p ≡ p) ⊎ ((q : ℕ) × More d p p q)) → inl refl ≡ a
  none_only (inl e) = ap inl (ℕ_set _ _ refl e)
  none_only (inr a) = absurd (omega (arith, value_forward a.1.0, values_forward a.1.1))

  no_pair_only : {d p : ℕ} (a : (p ≡ p) ⊎ ((q : ℕ) × MorePairs d p p q)) → inl refl ≡ a
  no_pair_only (inl e) = ap inl (ℕ_set _ _ refl e)
  no_pair_only (inr a) = absurd (omega (arith, value_forward a.1.1, pairs_forward a.1.2))

  mutual
    pub value_same : {d p q : ℕ} (x y : Value es m d p q) → x ≡ y
    value_same (leaf l) y = retract pieces whole whole_pieces (leaf l) y (leaf_only l (pieces y))
    value_same (i64 a b) y = retract pieces whole whole_pieces (i64 a b) y (i64_only a b (pieces y))
    value_same (list h vs x) y = retract pieces whole whole_pieces (list h vs x) y (list_only h vs x (λ w. values_same vs w) (pieces y))
    value_same (object h ps x) y = retract pieces whole whole_pieces (object h ps x) y (object_only h ps x (λ w. pairs_same ps w) (pieces y))

    pub values_same : {d p q : ℕ} (x y : Values es m d p q) → x ≡ y
    values_same none y = retract front back back_front none y (none_only (front y))
    values_same (more v vs) y = retract front back back_front (more v vs) y (more_only v vs (λ w. value_same v w) (λ w. values_same vs w) (front y))

    pub pairs_same : {d p q : ℕ} (x y : Pairs es m d p q) → x ≡ y
    pairs_same no_pair y = retract pair_front pair_back pair_back_front no_pair y (no_pair_only (pair_front y))
    pairs_same (pair t v ps) y = retract pair_front pair_back pair_back_front (pair t v ps) y (pair_only t v ps (λ w. value_same v w) (λ w. pairs_same ps w) (pair_front y))

values-prop : {es : List ℕ} {m d p q : ℕ} → IsProp (Values es m d p q)
values-prop {es} {m} x y = values_same es m x y

pub Opens-prop : (es ts os : List ℕ) → IsProp (Opens es ts os)
Opens-prop es ts os = hlevel (values-prop, props)
