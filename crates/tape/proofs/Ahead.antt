-- What an iterator over a tape gives.
use Rattle.std.proofs.Common.{◌≡◌, ℕ, ◌+◌, ◌<◌, ◌≤◌, Bool, true, ◌||◌, List, [], ◌∷◌, ◌++◌, length, get_or, sym, refl, ap, ◌∙◌, subst, append-nil, length-append, arith}
use Rattle.std.proofs.Math.Logic.{∥∥₁_elim}
use Rattle.std.proofs.Props.{props}
use Rattle.std.proofs.lemmas.Bool.{and_parts, eq-eqb}
use Rattle.std.specs.Iterator.{Yields, YieldsFirst}
use Rattle.std.specs.List.{AllByRecursion, enumerate_from}
use Rattle.std.proofs.lemmas.List.FromFn.{length-enumerate_from, get_or-enumerate_from}
use Rattle.octets.specs.Lists.{all}
use Rattle.tape.specs.Ahead.{by_twos}
use Rattle.tape.specs.Layout.{the, next_at, element_count}
use Rattle.tape.specs.Opens.{Untorn}
use Rattle.tape.specs.View.{TapeView, is_at, entries, is_position}
use Rattle.tape.specs.Walk.{Steps, PairSteps, onward}
use Rattle.tape.specs.Walk.PairSteps.{there, turn}
use Rattle.tape.proofs.Walks.{steps_ahead, pairs_ahead, onward_more, onward_none, onward_pair, steps_forward, pairs-steps, onward_positions, onward_few, bracket_law, object_law, rows_law}

module _ (t : TapeView) where
  -- one step of a way, and what is ahead before and after it
  pub record Turn (p q : ℕ) : Type 0 where
    pub position : is_position t p ≡ true
    pub forward : p < next_at t.elements p
    pub way : ∥ Steps t (next_at t.elements p) q ∥₁
    pub more : onward t p q ≡ p ∷ onward t (next_at t.elements p) q

  pub turn_ahead : {p q : ℕ} → p < q → ∥ Steps t p q ∥₁ → Turn p q
  turn_ahead l w =
      ∥∥₁_elim w (hlevel props) (λ s. let a = steps_ahead t l s in
      record { position = a.position; forward = a.forward; way = ∣ a.rest ∣₁; more = onward_more t l s })

  -- a name and its value
  pub record Pair (n v : ℕ) : Type 0 where
    pub name : is_position t n ≡ true
    pub letter : is_at t (the "s") n ≡ true
    pub behind : v ≡ n + 1
    pub value : is_position t v ≡ true

  -- one pair of a way, and what is ahead before and after it
  pub record PairTurn (p q : ℕ) : Type 0 where
    pub pair : Pair p (p + 1)
    pub forward : p + 1 < next_at t.elements (p + 1)
    pub way : ∥ PairSteps t (next_at t.elements (p + 1)) q ∥₁
    pub more : by_twos (onward t p q) ≡ (p, p + 1) ∷ by_twos (onward t (next_at t.elements (p + 1)) q)

  pub pair_turn : {p q : ℕ} → p < q → ∥ PairSteps t p q ∥₁ → PairTurn p q
  pair_turn {p} l w =
      ∥∥₁_elim w (hlevel props) (λ s. let a = pairs_ahead t l s in
      record {
        pair = record { name = a.name; letter = eq-eqb _ _ a.letter; behind = refl; value = a.position };
        forward = a.forward;
        way = ∣ a.rest ∣₁;
        more = ap by_twos (onward_pair t l s);
      })

  -- every pair of a way is a name and its value
  pairs_on : {p q : ℕ} → PairSteps t p q → AllByRecursion (λ x. Pair x.0 x.1) (by_twos (onward t p q))
  pairs_on {p} {q} there = subst (λ l. AllByRecursion (λ x. Pair x.0 x.1) (by_twos l)) (sym (onward_none t p q (omega arith))) tt
  pairs_on {p} {q} (turn n s v h w) =
      let l : p < q = omega (arith, steps_forward t (pairs-steps t w)) in
      let a = pair_turn l (∣ turn n s v h w ∣₁) in
      subst (AllByRecursion (λ x. Pair x.0 x.1)) (sym a.more) (a.pair, pairs_on w)

-- what holds of all holds of the one between
each_at : {A : Type 0} (P : A → Type 0) (xs ys : List A) (x : A) → AllByRecursion P (xs ++ (x ∷ ys)) → P x
each_at P [] ys x h = h.0
each_at P (y ∷ xs) ys x h = each_at P xs ys x h.1

tested_at : {A : Type 0} (f : A → Bool) (xs ys : List A) (x : A) → all f (xs ++ (x ∷ ys)) ≡ true → f x ≡ true
tested_at f [] ys x h = (and_parts (f x) (all f ys) h).0
tested_at f (y ∷ xs) ys x h = tested_at f xs ys x (and_parts (f y) (all f (xs ++ (x ∷ ys))) h).1

by_twos_few : (xs : List ℕ) → length (by_twos xs) ≤ length xs
by_twos_few [] = omega arith
by_twos_few (n ∷ []) = omega arith
by_twos_few (n ∷ (v ∷ ps)) = omega (arith, by_twos_few ps)

module _ {S A : Type 0} (rest : S → List A) where
  went : (xs : List A) (s u : S) → Yields (YieldsFirst rest) s xs u → rest s ≡ xs ++ rest u
  went [] s u y = ap rest y
  went (x ∷ xs) s u y = y.1 ∙ ap (λ l. x ∷ l) (went xs y.0 u y.2)

-- Of a loop over an iterator s, which had all ahead: it has had xs, and has come to u.
module _ {S A : Type 0} (rest : S → List A) {all : List A} (xs : List A) (s u : S) (e : rest s ≡ all) (y : Yields (YieldsFirst rest) s xs u) where
  -- what is ahead
  pub so_far : all ≡ xs ++ rest u
  so_far = sym e ∙ went rest xs s u y

  -- what it has now, and what is ahead
  pub in_turn : {ys : List A} {x : A} → rest u ≡ x ∷ ys → all ≡ xs ++ (x ∷ ys)
  in_turn f = so_far ∙ ap (λ l. xs ++ l) f

  -- it has had all
  pub at_end : rest u ≡ [] → all ≡ xs
  at_end f = so_far ∙ ap (λ l. xs ++ l) f ∙ append-nil xs

module _ (t : TapeView) (o : Untorn t) where
  -- a loop over the entries of a list or an object has xs behind it, and is at x: a position, and not as many are behind it as there are elements
  pub entry_at : (p : ℕ) → is_position t p ≡ true → (is_at t (the "{") p || is_at t (the "[") p) ≡ true → (xs ys : List ℕ) (x : ℕ) → entries t p ≡ xs ++ (x ∷ ys)
      → (is_position t x ≡ true) × (length xs < element_count t.elements)
  entry_at p h b xs ys x e =
      let l = (bracket_law t o p h b).1 in
      (tested_at (is_position t) xs ys x (subst (λ l. all (is_position t) l ≡ true) e l.positions), omega (arith, l.few, ap length e, length-append xs (x ∷ ys)))

  -- the same for the rows
  pub row_at : (xs ys : List ℕ) (x : ℕ) → onward t 1 (element_count t.elements) ≡ xs ++ (x ∷ ys) → (is_position t x ≡ true) × (length xs < element_count t.elements)
  row_at xs ys x e =
      let w = rows_law t o in
      (tested_at (is_position t) xs ys x (subst (λ l. all (is_position t) l ≡ true) e (onward_positions t w)), omega (arith, onward_few t w, ap length e, length-append xs (x ∷ ys)))

  -- the same for the pairs of an object, each a name and its value
  pub pair_at : (p : ℕ) → is_position t p ≡ true → is_at t (the "{") p ≡ true → (xs ys : List (ℕ × ℕ)) (x : ℕ × ℕ) → by_twos (entries t p) ≡ xs ++ (x ∷ ys)
      → Pair t x.0 x.1 × (length xs < element_count t.elements)
  pair_at p h b xs ys x e =
      let l = object_law t o p h b in
      let way = subst (λ l. AllByRecursion (λ x. Pair t x.0 x.1) (by_twos l)) (sym l.bracketed.all_steps) (pairs_on t l.pairs) in (
        each_at _ xs ys x (subst (AllByRecursion (λ x. Pair t x.0 x.1)) e way),
        omega (arith, l.bracketed.few, by_twos_few (entries t p), ap length e, length-append xs (x ∷ ys)),
      )

-- a loop over `enumerate` has, at turn k, k and the element k
pub enumerated : {A : Type 0} (xs : List A) (k : ℕ) (x : ℕ × A) → k < length (enumerate_from 0 xs) → x ≡ get_or (enumerate_from 0 xs) k x → (k < length xs) × (x.0 ≡ k) × (x.1 ≡ get_or xs k x.1)
enumerated xs k x l e =
    let n : k < length xs = omega (arith, length-enumerate_from 0 xs) in
    let f = e ∙ get_or-enumerate_from 0 xs k x n in
    (n, omega (arith, ap (λ y. y.0) f), ap (λ y. y.1) f)
