-- What a tape's letters say of its values.
use Rattle.std.proofs.Common.{◌≡◌, ℕ, ◌+◌, ◌-◌, ◌*◌, ◌%◌, ◌<◌, false, ◌⊎◌, List, length, Some, None, Decides, Option, sym, refl, ap, ◌∙◌, subst, inl, inr, arith}
use native.Mathlib.Decide.{dec_lt}
use Rattle.std.proofs.lemmas.List.{get_or_past}
use Rattle.std.proofs.lemmas.Bool.{false≢true}
use Rattle.tape.specs.Layout.{letter_at, number_at, element_count}
pub use Rattle.tape.specs.Unique.{LeafFacts, leaf_facts, value_next, unique, value_forward, values_forward, pairs_forward}
use Rattle.tape.specs.Grammar.{Text, Leaf, Partners, Value, Values, Pairs}
use Rattle.tape.specs.Grammar.Leaf.{string, number, true', false', null}
use Rattle.tape.specs.Grammar.Value.{leaf, i64, list, object}
use Rattle.tape.specs.Grammar.Values.{none, more}
use Rattle.tape.specs.Grammar.Pairs.{no_pair, pair}
use Rattle.tape.specs.Found.{Finds, Meets, ListTo, ObjectTo}

-- a test that failed, of what does not hold
pub never : {P : Type 0} → (P → ⊥) → Decides false P
never n = ((λ e. absurd (false≢true e)), (λ p. absurd (n p)))

-- what the first letter of a value says of the elements there
pub value_facts : {es : List ℕ} {m d p q : ℕ} → Value es m d p q
    → LeafFacts es m p ⊎ ((letter_at es p ≡ 106) × (letter_at es (p + 1) ≡ 105)) ⊎ ((letter_at es p ≡ 91) × (0 < d)) ⊎ ((letter_at es p ≡ 123) × (0 < d))
value_facts (leaf l) = inl (leaf_facts l)
value_facts (i64 a b) = inr (inl (a, b))
value_facts (list h vs x) = inr (inr (inl (x.opens, h)))
value_facts (object h ps x) = inr (inr (inr (x.opens, h)))

-- an element with a letter lies within
pub within : (es : List ℕ) (p : ℕ) → length es % 8 ≡ 0 → 0 < letter_at es p → p < element_count es
within es p w h = elim (dec_lt p (element_count es)) [ yes l ↦ l | no n ↦ absurd (omega (arith, get_or_past es (8 * p) 0 (omega arith))) ]

pub value_within : {es : List ℕ} {m d p q : ℕ} → length es % 8 ≡ 0 → Value es m d p q → p < element_count es
value_within {es} {p = p} w v = within es p w (omega (arith, value_facts v))

-- what stands at an opening bracket
pub record ListAt (es : List ℕ) (m d p q : ℕ) : Type 0 where
  pub end : ℕ
  pub deep : 0 < d
  pub values : Values es m (d - 1) (p + 1) end
  pub partners : Partners es 91 93 p end
  pub after : q ≡ end + 1

pub record ObjectAt (es : List ℕ) (m d p q : ℕ) : Type 0 where
  pub end : ℕ
  pub deep : 0 < d
  pub pairs : Pairs es m (d - 1) (p + 1) end
  pub partners : Partners es 123 125 p end
  pub after : q ≡ end + 1

pub value_list : {es : List ℕ} {m d p q : ℕ} → letter_at es p ≡ 91 → Value es m d p q → ListAt es m d p q
value_list a (leaf l) = absurd (omega (arith, leaf_facts l))
value_list a (i64 b e) = absurd (omega arith)
value_list a (list {q = q} h vs x) = record { end = q; deep = h; values = vs; partners = x; after = refl }
value_list a (object h ps x) = absurd (omega (arith, x.opens))

pub value_object : {es : List ℕ} {m d p q : ℕ} → letter_at es p ≡ 123 → Value es m d p q → ObjectAt es m d p q
value_object a (leaf l) = absurd (omega (arith, leaf_facts l))
value_object a (i64 b e) = absurd (omega arith)
value_object a (list h vs x) = absurd (omega (arith, x.opens))
value_object a (object {q = q} h ps x) = record { end = q; deep = h; pairs = ps; partners = x; after = refl }

-- one value or pair off the front
pub values_front : {es : List ℕ} {m d p k : ℕ} → Values es m d p k → (p ≡ k) ⊎ ((q : ℕ) × Value es m d p q × Values es m d q k)
values_front none = inl refl
values_front (more {q = q} v vs) = inr (q, v, vs)

pub pairs-front : {es : List ℕ} {m d p k : ℕ} → Pairs es m d p k → (p ≡ k) ⊎ ((q : ℕ) × Text es m p × Value es m d (p + 1) q × Pairs es m d q k)
pairs-front no_pair = inl refl
pairs-front (pair {q = q} t v ps) = inr (q, t, v, ps)

-- The steps of the loop over a list's values: q is where the value at p ends.
pub list_step : {es : List ℕ} {m d p q : ℕ} → (letter_at es p ≡ 93 → ⊥) → Value es m d p q → (k : ℕ) → ListTo es m d p k → ListTo es m d q k
list_step {es} {m} {d} {p} {q} n v k l =
    elim (values_front l.values) [
      | inl e ↦ absurd (n (ap (letter_at es) e ∙ l.closes))
      | inr r ↦ record { values = subst (λ x. Values es m d x k) (unique r.1 v) r.2; closes = l.closes; within = l.within }
    ]

pub list_stuck : {es : List ℕ} {m d p : ℕ} → (letter_at es p ≡ 93 → ⊥) → ((q : ℕ) → Value es m d p q → ⊥) → (k : ℕ) → ListTo es m d p k → ⊥
list_stuck {es} n no_value k l =
    elim (values_front l.values) [ inl e ↦ n (ap (letter_at es) e ∙ l.closes) | inr r ↦ no_value r.0 r.1 ]

pub list_stop : {es : List ℕ} {m d p : ℕ} → letter_at es p ≡ 93 → (k : ℕ) → ListTo es m d p k → k ≡ p
list_stop a k l = elim (values_front l.values) [ inl e ↦ sym e | inr r ↦ absurd (omega (arith, value_facts r.1)) ]

-- The same for an object's pairs, where the value stands at p + 1.
pub object_step : {es : List ℕ} {m d p q : ℕ} → (letter_at es p ≡ 125 → ⊥) → Value es m d (p + 1) q → (k : ℕ) → ObjectTo es m d p k → ObjectTo es m d q k
object_step {es} {m} {d} {p} {q} n v k l =
    elim (pairs-front l.pairs) [
      | inl e ↦ absurd (n (ap (letter_at es) e ∙ l.closes))
      | inr r ↦ record { pairs = subst (λ x. Pairs es m d x k) (unique r.2 v) r.3; closes = l.closes; within = l.within }
    ]

pub object_stuck : {es : List ℕ} {m d p : ℕ} → (letter_at es p ≡ 125 → ⊥) → (Text es m p → (q : ℕ) → Value es m d (p + 1) q → ⊥) → (k : ℕ) → ObjectTo es m d p k → ⊥
object_stuck {es} n no-pair k l =
    elim (pairs-front l.pairs) [ inl e ↦ n (ap (letter_at es) e ∙ l.closes) | inr r ↦ no-pair r.1 r.0 r.2 ]

pub object_stop : {es : List ℕ} {m d p : ℕ} → letter_at es p ≡ 125 → (k : ℕ) → ObjectTo es m d p k → k ≡ p
object_stop a k l = elim (pairs-front l.pairs) [ inl e ↦ sym e | inr r ↦ absurd (omega (arith, r.1.letter)) ]

-- what value answers
pub found : {es : List ℕ} {m d p q : ℕ} → Value es m d p q → Value es m d p q × ((k : ℕ) → Value es m d p k → k ≡ q)
found v = (v, λ k w. unique w v)

pub held : {es : List ℕ} {m p : ℕ} {l n : ℕ} → l ≡ letter_at es p → n ≡ number_at es p → (l ≡ 110) ⊎ (l ≡ 115) → n + 1 < m → Leaf es m p
held el en (inl a) h = number (sym el ∙ a) (omega arith)
held el en (inr a) h = string (record { letter = sym el ∙ a; held = omega arith })

pub plain : {es : List ℕ} {m p : ℕ} {l n : ℕ} → l ≡ letter_at es p → n ≡ number_at es p → (l ≡ 102) ⊎ (l ≡ 116) ⊎ (l ≡ 122) → n ≡ 0 → Leaf es m p
plain el en (inl a) h = false' (sym el ∙ a) (sym en ∙ h)
plain el en (inr (inl a)) h = true' (sym el ∙ a) (sym en ∙ h)
plain el en (inr (inr a)) h = null (sym el ∙ a) (sym en ∙ h)

pub list_to : {es : List ℕ} {m d p q : ℕ} → length es % 8 ≡ 0 → (x : ListAt es m d p q) → ListTo es m (d - 1) (p + 1) x.end
list_to {es} w x = record { values = x.values; closes = x.partners.closes; within = within es x.end w (omega (arith, x.partners.closes)) }

pub object_to : {es : List ℕ} {m d p q : ℕ} → length es % 8 ≡ 0 → (x : ObjectAt es m d p q) → ObjectTo es m (d - 1) (p + 1) x.end
object_to {es} w x = record { pairs = x.pairs; closes = x.partners.closes; within = within es x.end w (omega (arith, x.partners.closes)) }

finds_like : {P Q : ℕ → Type 0} (r : Option ℕ) → ((k : ℕ) → P k → Q k) → ((k : ℕ) → Q k → P k) → Finds P r → Finds Q r
finds_like None f g h = λ k q. h k (g k q)
finds_like (Some k) f g h = (f k h.0, λ j q. h.1 j (g j q))

-- a list or an object whose brackets meet is a value, and no other is
pub list_met : {es : List ℕ} {m q : ℕ} (d p : ℕ) → length es % 8 ≡ 0 → 0 < d → letter_at es p ≡ 91
    → ListTo es m (d - 1) (p + 1) q × ((k : ℕ) → ListTo es m (d - 1) (p + 1) k → k ≡ q) → (r : Option ℕ) → Finds (Meets es p q) r → Finds (Value es m d p) r
list_met {es} {m} d p w deep a l r h =
    finds_like r
    (λ k x. subst (Value es m d p) (sym x.next) (list deep l.0.values (record { opens = a; to = x.to; closes = l.0.closes; back = x.back })))
    (λ k v.
    let y = value_list a v in
    let e = l.1 y.end (list_to w y) in
    record { to = y.partners.to ∙ e; back = ap (number_at es) (sym e) ∙ y.partners.back; next = y.after ∙ ap (λ z. z + 1) e })
    h

pub object_met : {es : List ℕ} {m q : ℕ} (d p : ℕ) → length es % 8 ≡ 0 → 0 < d → letter_at es p ≡ 123
    → ObjectTo es m (d - 1) (p + 1) q × ((k : ℕ) → ObjectTo es m (d - 1) (p + 1) k → k ≡ q) → (r : Option ℕ) → Finds (Meets es p q) r → Finds (Value es m d p) r
object_met {es} {m} d p w deep a l r h =
    finds_like r
    (λ k x. subst (Value es m d p) (sym x.next) (object deep l.0.pairs (record { opens = a; to = x.to; closes = l.0.closes; back = x.back })))
    (λ k v.
    let y = value_object a v in
    let e = l.1 y.end (object_to w y) in
    record { to = y.partners.to ∙ e; back = ap (number_at es) (sym e) ∙ y.partners.back; next = y.after ∙ ap (λ z. z + 1) e })
    h

-- The steps of the loop over the values of the whole tape, which end at e.
pub values_step : {es : List ℕ} {m d p q e : ℕ} → p < e → Value es m d p q → Values es m d p e → Values es m d q e
values_step {es} {m} {d} {e = e} h v vs =
    elim (values_front vs) [ inl i ↦ absurd (omega arith) | inr r ↦ subst (λ x. Values es m d x e) (unique r.1 v) r.2 ]

pub values_stuck : {es : List ℕ} {m d p e : ℕ} → p < e → ((q : ℕ) → Value es m d p q → ⊥) → Values es m d p e → ⊥
values_stuck h no_value vs = elim (values_front vs) [ inl i ↦ omega arith | inr r ↦ no_value r.0 r.1 ]
