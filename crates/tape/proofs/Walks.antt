-- The ways over an opened tape, from position to position.
use Rattle.std.proofs.Common.{◌≡◌, ℕ, zero, suc, ◌+◌, ◌-◌, ◌%◌, ◌<◌, ◌≤◌, Bool, true, ◌||◌, List, [], ◌∷◌, length, get_or, sym, refl, ap, ◌∙◌, subst, inl, inr, arith, length-drop, length-take}
use Rattle.std.proofs.lemmas.Bool.{lt-ltb, le-ltb, eqb-true, eq-eqb, and_parts, and_from, cases_Bool}
use Rattle.std.proofs.lemmas.Str.{IsUtf8-between}
use Rattle.std.proofs.lemmas.Bool.Decides.{nat_tests}
use Rattle.octets.specs.Lists.{all}
use Rattle.tape.specs.Layout.{the, letter_at, number_at, offset_at, next_at, element_count, offset_count}
use Rattle.tape.specs.Grammar.{Value, Values, Pairs}
use Rattle.tape.specs.Grammar.Leaf.{string}
use Rattle.tape.specs.Grammar.Value.{leaf, i64, list, object}
use Rattle.tape.specs.Grammar.Values.{none, more}
use Rattle.tape.specs.Grammar.Pairs.{no_pair, pair}
use Rattle.tape.specs.Opens.{Untorn}
use Rattle.tape.specs.View.{TapeView, is_at, steps, entries, is_position}
use Rattle.tape.specs.Walk.{Steps, PairSteps, InTurn, Bracketed, Held, onward, ListLaw, ObjectLaw, RowsLaw, NextLaw, FirstLaw, TextLaw}
use Rattle.tape.specs.Walk.Steps.{here, step}
use Rattle.tape.specs.Walk.PairSteps.{there, turn}
use Rattle.tape.proofs.Cover.{Covered, covered, text_within}
use Rattle.tape.proofs.Cover.Covered.{starts, ends, second}
use Rattle.tape.proofs.Reading.{leaf_facts, value_facts, value_within, value_forward, value_next, value_list, value_object, within}

-- p is not the second half of a 'j'
abbrev NotSecond : List ℕ → ℕ → Type 0
NotSecond es p = (y : ℕ) → p ≡ y + 1 → letter_at es y ≡ the "j" → ⊥

-- a position, fact by fact
pub record Valid (es : List ℕ) (p : ℕ) : Type 0 where
  pub below : p < element_count es
  pub no_list_end : letter_at es p ≡ the "]" → ⊥
  pub no_object_end : letter_at es p ≡ the "}" → ⊥
  pub no_second : NotSecond es p

module _ (t : TapeView) where
  pub valid_position : (p : ℕ) → Valid t.elements p → is_position t p ≡ true
  valid_position p v =
      let a = v.below in
      let b = v.no_list_end in
      let c = v.no_object_end in
      let d = v.no_second (p - 1) in
      grind (arith, nat_tests)

  pub position_valid : (p : ℕ) → is_position t p ≡ true → Valid t.elements p
  position_valid p h = record {
    below = grind (arith, nat_tests);
    no_list_end = λ a. grind (arith, nat_tests);
    no_object_end = λ a. grind (arith, nat_tests);
    no_second = λ y i a. let e : p - 1 ≡ y = omega arith in let b = ap (letter_at t.elements) e in grind (arith, nat_tests);
  }

  pub position_below : (p : ℕ) → is_position t p ≡ true → p < element_count t.elements
  position_below p h = (position_valid p h).below

  -- a way leads forward
  pub steps_forward : {p q : ℕ} → Steps t p q → p ≤ q
  steps_forward here = omega arith
  steps_forward (step v h s) = omega (arith, steps_forward s)

  -- one step of a way
  pub record Ahead (p q : ℕ) : Type 0 where
    pub position : is_position t p ≡ true
    pub forward : p < next_at t.elements p
    pub rest : Steps t (next_at t.elements p) q

  pub steps_ahead : {p q : ℕ} → p < q → Steps t p q → Ahead p q
  steps_ahead l here = absurd (omega arith)
  steps_ahead l (step v h s) = record { position = v; forward = h; rest = s }

  -- the positions on a way, whatever the fuel
  pub steps_none : (fuel from to : ℕ) → to ≤ from → steps t fuel from to ≡ []
  steps_none zero from to h = refl
  steps_none (suc fuel) from to h = rw (le-ltb from to h) refl

  steps-one : (fuel from to : ℕ) → from < to → steps t (suc fuel) from to ≡ from ∷ steps t fuel (next_at t.elements from) to
  steps-one fuel from to h = rw (lt-ltb from to h) refl

  pub steps-same : {from to : ℕ} (f g : ℕ) → to - from ≤ f → to - from ≤ g → Steps t from to → steps t f from to ≡ steps t g from to
  steps-same {from} {to} f g a b here = steps_none f from to (omega arith) ∙ sym (steps_none g from to (omega arith))
  steps-same {from} {to} zero g a b (step v h s) = absurd (omega (arith, steps_forward s))
  steps-same {from} {to} (suc f) zero a b (step v h s) = absurd (omega (arith, steps_forward s))
  steps-same {from} {to} (suc f) (suc g) a b (step v h s) =
      let l : from < to = omega (arith, steps_forward s) in
      steps-one f from to l ∙ ap (λ ps. from ∷ ps) (steps-same f g (omega arith) (omega arith) s) ∙ sym (steps-one g from to l)

  pub onward_none : (from to : ℕ) → to ≤ from → onward t from to ≡ []
  onward_none from to h = steps_none (to - from) from to h

  pub onward_more : {from to : ℕ} → from < to → Steps t from to → onward t from to ≡ from ∷ onward t (next_at t.elements from) to
  onward_more {from} {to} h s =
      let a = steps_ahead h s in
      let k = to - from - 1 in
      let e : to - from ≡ suc k = omega arith in
      ap (λ f. steps t f from to) e ∙ steps-one k from to h
      ∙ ap (λ ps. from ∷ ps) (steps-same k (to - next_at t.elements from) (omega (arith, a.forward)) (omega arith) a.rest)

  -- all of them are positions
  pub onward_positions : {from to : ℕ} → Steps t from to → all (is_position t) (onward t from to) ≡ true
  onward_positions {from} {to} here = ap (all (is_position t)) (onward_none from to (omega arith))
  onward_positions {from} {to} (step v h s) =
      let l : from < to = omega (arith, steps_forward s) in
      ap (all (is_position t)) (onward_more l (step v h s)) ∙ and_from (is_position t from) _ v (onward_positions s)

  -- no more than there are elements on the way
  pub onward_few : {from to : ℕ} → Steps t from to → length (onward t from to) ≤ to - from
  onward_few {from} {to} here = rw (onward_none from to (omega arith)) (omega arith)
  onward_few {from} {to} (step v h s) =
      let l : from < to = omega (arith, steps_forward s) in
      rw (onward_more l (step v h s)) (omega (arith, onward_few s, steps_forward s))

  -- a string is one element long
  text_next : (p : ℕ) → letter_at t.elements p ≡ the "s" → next_at t.elements p ≡ p + 1
  text_next p a = rw a refl

  -- one pair of a way
  pub record PairAhead (p q : ℕ) : Type 0 where
    pub name : is_position t p ≡ true
    pub letter : letter_at t.elements p ≡ the "s"
    pub next : next_at t.elements p ≡ p + 1
    pub position : is_position t (p + 1) ≡ true
    pub forward : p + 1 < next_at t.elements (p + 1)
    pub rest : PairSteps t (next_at t.elements (p + 1)) q

  pub pairs_ahead : {p q : ℕ} → p < q → PairSteps t p q → PairAhead p q
  pairs_ahead l there = absurd (omega arith)
  pairs_ahead {p} l (turn v a w h s) = record { name = v; letter = a; next = text_next p a; position = w; forward = h; rest = s }

  pub pairs-steps : {p q : ℕ} → PairSteps t p q → Steps t p q
  pairs-steps there = here
  pairs-steps {p} {q} (turn v a w h s) =
      let n = text_next p a in
      step v (omega arith) (subst (λ x. Steps t x q) (sym n) (step w h (pairs-steps s)))

  pub onward_pair : {from to : ℕ} → from < to → PairSteps t from to → onward t from to ≡ from ∷ ((from + 1) ∷ onward t (next_at t.elements (from + 1)) to)
  onward_pair {from} {to} h s =
      let a = pairs_ahead h s in
      let r = pairs-steps a.rest in
      onward_more h (pairs-steps s) ∙ ap (λ ps. from ∷ ps) (ap (λ x. onward t x to) a.next ∙ onward_more (omega (arith, a.forward, steps_forward r)) (step a.position a.forward r))

  pub onward_turns : {from to : ℕ} → PairSteps t from to → InTurn t (onward t from to)
  onward_turns {from} {to} there = rw (onward_none from to (omega arith)) tt
  onward_turns {from} {to} (turn v a w h s) =
      let l : from < to = omega (arith, steps_forward (pairs-steps s)) in
      rw (onward_pair l (turn v a w h s)) (eq-eqb (letter_at t.elements from) (the "s") a, onward_turns s)

-- a value begins at each position
pub value-at : {t : TapeView} → Untorn t → (p : ℕ) → Valid t.elements p → (d : ℕ) × (q : ℕ) × Value t.elements (offset_count t.offsets) d p q × (q ≤ element_count t.elements)
value-at {t = t} o p v = go (covered o p v.below)
  where
    go : Covered t.elements (offset_count t.offsets) (element_count t.elements) p → (d : ℕ) × (q : ℕ) × Value t.elements (offset_count t.offsets) d p q × (q ≤ element_count t.elements)
    go (starts d q w h) = (d, q, w, h)
    go (ends (inl a)) = absurd (v.no_list_end a)
    go (ends (inr a)) = absurd (v.no_object_end a)
    go (second y i a b) = absurd (v.no_second y i a)

-- no value ends right after a 'j'
value_last : {es : List ℕ} {m d p q : ℕ} → Value es m d p q → NotSecond es q
value_last {es} (leaf {d = d} {p = p} l) y i a = let j : p ≡ y = omega arith in omega (arith, leaf_facts l, ap (letter_at es) j)
value_last {es} (i64 {p = p} k b) y i a = let j : p + 1 ≡ y = omega arith in omega (arith, ap (letter_at es) j)
value_last {es} (list {q = q} g vs t) y i a = let j : q ≡ y = omega arith in omega (arith, ap (letter_at es) j, t.closes)
value_last {es} (object {q = q} g ps t) y i a = let j : q ≡ y = omega arith in omega (arith, ap (letter_at es) j, t.closes)

after : (es : List ℕ) (p : ℕ) {l : ℕ} → letter_at es p ≡ l → (l ≡ 106 → ⊥) → NotSecond es (p + 1)
after es p a n y i b = let j : p ≡ y = omega arith in n (sym a ∙ ap (letter_at es) j ∙ b)

module _ (t : TapeView) (w : length t.elements % 8 ≡ 0) where
  value_position : {m d p q : ℕ} → NotSecond t.elements p → Value t.elements m d p q → is_position t p ≡ true
  value_position {p = p} n v =
      valid_position t p (record {
        below = value_within w v;
        no_list_end = λ a. omega (arith, value_facts v);
        no_object_end = λ a. omega (arith, value_facts v);
        no_second = n;
      })

  values_steps : {m d p q : ℕ} → NotSecond t.elements p → Values t.elements m d p q → Steps t p q
  values_steps n none = here
  values_steps {q = q} n (more v vs) =
      step (value_position n v) (omega (arith, value_forward v, value_next v)) (subst (λ x. Steps t x q) (value_next v) (values_steps (value_last v) vs))

  pairs_turns : {m d p q : ℕ} → NotSecond t.elements p → Pairs t.elements m d p q → PairSteps t p q
  pairs_turns n no_pair = there
  pairs_turns {m} {q = q} n (pair {d = d} {p = p} x v ps) =
      turn (value_position {m = m} {d = 0} n (leaf (string x))) x.letter (value_position (after t.elements p x.letter (λ i. omega arith)) v)
      (omega (arith, value_forward v, value_next v)) (subst (λ y. PairSteps t y q) (value_next v) (pairs_turns (value_last v) ps))

  -- what a value between brackets has
  bracketed : {c p q : ℕ} → next_at t.elements p ≡ q + 1 → q < element_count t.elements → number_at t.elements p ≡ q → letter_at t.elements q ≡ c → number_at t.elements q ≡ p
      → Steps t (p + 1) q → Bracketed t c p
  bracketed {c = c} {p = p} n b to closes back s =
      let es = t.elements in
      let way : Steps t (p + 1) (number_at es p) = subst (λ e. Steps t (p + 1) e) (sym to) s in
      let f = steps_forward t way in
      let all_steps : entries t p ≡ onward t (p + 1) (number_at es p) = steps-same t (number_at es p - p) (number_at es p - (p + 1)) (omega arith) (omega arith) way in
      record {
        forward = omega arith;
        below = omega arith;
        closes = ap (letter_at es) to ∙ closes;
        back = ap (number_at es) to ∙ back;
        next = omega arith;
        way = way;
        all_steps = all_steps;
        positions = ap (all (is_position t)) all_steps ∙ onward_positions t way;
        few = rw all_steps (omega (arith, onward_few t way));
      }

pub list_law : ListLaw
list_law t o p h i =
    let es = t.elements in
    let a = eqb-true (letter_at es p) (the "[") i in
    let f = value-at {t = t} o p (position_valid t p h) in
    let x = value_list a f.2 in
    let r = x.partners in
    bracketed t o.whole_elements (sym (value_next f.2) ∙ x.after) (omega (arith, x.after, f.3)) r.to r.closes r.back
    (values_steps t o.whole_elements (after es p a (λ i. omega arith)) x.values)

pub object_law : ObjectLaw
object_law t o p h i =
    let es = t.elements in
    let a = eqb-true (letter_at es p) (the "{") i in
    let f = value-at {t = t} o p (position_valid t p h) in
    let x = value_object a f.2 in
    let r = x.partners in
    let turns = pairs_turns t o.whole_elements (after es p a (λ i. omega arith)) x.pairs in
    let b = bracketed t o.whole_elements (sym (value_next f.2) ∙ x.after) (omega (arith, x.after, f.3)) r.to r.closes r.back (pairs-steps t turns) in
    let pairs : PairSteps t (p + 1) (number_at es p) = subst (λ e. PairSteps t (p + 1) e) (sym r.to) turns in
    record { bracketed = b; pairs = pairs; turns = rw b.all_steps (onward_turns t pairs) }

-- a list or an object, whichever
pub bracket_law : (t : TapeView) → Untorn t → (p : ℕ) → is_position t p ≡ true → (is_at t (the "{") p || is_at t (the "[") p) ≡ true → (c : ℕ) × Bracketed t c p
bracket_law t o p h b =
    elim (cases_Bool (is_at t (the "{") p)) [
      | inl a ↦ (the "}", (object_law t o p h a).bracketed)
      | inr n ↦ (the "]", list_law t o p h (rw n at b))
    ]

pub rows_law : RowsLaw
rows_law t o =
    values_steps t o.whole_elements (λ y i a. let j : y ≡ 0 = omega arith in omega (arith, o.first, ap (letter_at t.elements) j)) o.values

pub next_law : NextLaw
next_law t o p h =
    let f = value-at {t = t} o p (position_valid t p h) in
    (omega (arith, value_forward f.2, value_next f.2), omega (arith, f.3, value_next f.2))

pub first_law : FirstLaw
first_law t o =
    let es = t.elements in (
      valid_position t 0 (record {
        below = within es 0 o.whole_elements (omega (arith, o.first));
        no_list_end = λ a. omega (arith, o.first);
        no_object_end = λ a. omega (arith, o.first);
        no_second = λ y i a. omega arith;
      }),
      rw o.first refl,
    )

-- the text k, of which there are both offsets
pub held_text : (t : TapeView) → Untorn t → (k : ℕ) → k + 1 < offset_count t.offsets → Held t k
held_text t o k h =
    let r = o.texts.rise in
    let up = r.rising k h in
    let low = r.uncut k (omega arith) in
    let high = r.uncut (k + 1) h in
    record {
      number = h;
      rising = up;
      within = high.0;
      size = simp (length-take, length-drop) (omega arith);
      utf8 = IsUtf8-between t.texts (offset_at t.offsets k) (offset_at t.offsets (k + 1)) o.texts.utf8 up low high;
    }

pub text_law : TextLaw
text_law t o p h (inl a) = held_text t o (number_at t.elements p) (text_within o p h (inl (eqb-true (letter_at t.elements p) (the "s") a)))
text_law t o p h (inr a) = held_text t o (number_at t.elements p) (text_within o p h (inr (eqb-true (letter_at t.elements p) (the "n") a)))

-- a test of all, at one place
pub all-at : {A : Type 0} (f : A → Bool) (xs : List A) (k : ℕ) (d : A) → all f xs ≡ true → k < length xs → f (get_or xs k d) ≡ true
all-at f [] k d h l = absurd (omega arith)
all-at f (x ∷ xs) zero d h l = (and_parts (f x) (all f xs) h).0
all-at f (x ∷ xs) (suc k) d h l = all-at f xs k d (and_parts (f x) (all f xs) h).1 (omega arith)

-- pairs are two entries each
pub turns_even : (t : TapeView) (ps : List ℕ) → InTurn t ps → length ps % 2 ≡ 0
turns_even t [] h = refl
turns_even t (n ∷ []) h = absurd h
turns_even t (n ∷ (v ∷ ps)) h = omega (arith, turns_even t ps h.1)
