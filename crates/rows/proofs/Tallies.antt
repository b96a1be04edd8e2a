-- Rows read in order, counted and gathered.
use Rattle.std.proofs.Common.{◌≡◌, ℕ, zero, suc, ◌+◌, ◌<◌, ◌≤◌, Bool, true, false, not, List, [], ◌∷◌, ◌++◌, map, length, get_or, take, drop, sym, refl, ap, ◌∙◌, subst, arith}
use mathlib.Core.Option.{Option, none, some}
use mir.Val.{bool_byte}
use Rattle.std.proofs.lemmas.List.{at_drop_more, at_drop_all, map_more, append-nil, take-append-drop, map-append, length-append}
use Rattle.octets.specs.Lists.{joined, is_some}
use Rattle.octets.proofs.Pieces.{joined-append}
use Rattle.schema.specs.Tree.{Fields}
use Rattle.schema.specs.declared.kind.Branch.{Branch}
use Rattle.slip.specs.Slips.{Slip, Got, refuse, got, then, each, is_got, accepted}
use Rattle.batch.specs.Values.{taken, zeros}
use Rattle.batch.specs.Batch.{nulls}
use Rattle.rows.specs.declared.kind.Row.{Row}
use Rattle.rows.specs.declared.passes.Counted.{Counted}
use Rattle.rows.specs.Entering.{items_of}
use Rattle.rows.specs.Kinds.{row_size, counts_of}

abbrev Rows : Type 0
Rows = List (Option (List (List ℕ)))

-- what goes on where something was got
pub then_same : {A B : Type 0} (x : Got A) (k l : A → Got B) → ((a : A) → k a ≡ l a) → then x k ≡ then x l
then_same (refuse s) k l e = refl
then_same (got a) k l e = e a

pub then-then : {A B C : Type 0} (x : Got A) (k : A → Got B) (l : B → Got C) → then (then x k) l ≡ then x (λ a. then (k a) l)
then-then (refuse s) k l = refl
then-then (got a) k l = refl

pub refused_then : {A B : Type 0} (x : Got A) (k : A → B) (s : Slip) → refuse s ≡ then x (λ a. got (k a)) → x ≡ refuse s
refused_then (refuse r) k s e = cc
refused_then (got a) k s e = absurd (let z : ◌≡◌ {A = ℕ} 0 1 = cc in omega arith)

pub got_then : {A B : Type 0} (x : Got A) (k : A → B) (y : B) → got y ≡ then x (λ a. got (k a)) → (a : A) × (x ≡ got a) × (y ≡ k a)
got_then (refuse r) k y e = absurd (let z : ◌≡◌ {A = ℕ} 0 1 = cc in omega arith)
got_then (got a) k y e = (a, refl, cc)

pub one-null : (b : Bool) → bool_byte b ≤ 1
one-null true = omega arith
one-null false = omega arith

-- a null row counts as one
pub nulls_more : (o : Option (List (List ℕ))) (os : Rows) (n : ℕ) → n + nulls (o ∷ os) ≡ (n + bool_byte (not (is_some o))) + nulls os
nulls_more none os n = omega arith
nulls_more (some x) os n = omega arith

abbrev counting : ℕ → ℕ → Counted
counting m n = record { items = m; nulls = n }

module _ (b : Branch) (cs : Fields) where
  abbrev pub counted : ℕ → ℕ → Rows → Counted
  counted items empty os = record { items = items + length (items_of b cs os); nulls = empty + nulls os }

  counted_more : (items empty : ℕ) (o : Option (List (List ℕ))) (os : Rows) → counted items empty (o ∷ os) ≡ counted (items + (row_size b cs o).items) (empty + bool_byte (row_size b cs o).null) os
  counted_more items empty o os =
      let i : items + length (items_of b cs (o ∷ os)) ≡ (items + length (taken b (zeros cs) o)) + length (items_of b cs os) = omega (arith, length-append (taken b (zeros cs) o) (items_of b cs os)) in
      ap (λ m. counting m (empty + nulls (o ∷ os))) i ∙ ap (counting ((items + length (taken b (zeros cs) o)) + length (items_of b cs os))) (nulls_more o os empty)

  module _ (g : ℕ → Got (Option (List (List ℕ)))) (ps : List ℕ) where
    abbrev pub whole : Got Counted
    whole = then (each g ps) (λ os. got (counts_of b cs os))

    -- what is left gives the whole
    abbrev pub Left : (i items empty : ℕ) → Type 0
    Left i items empty = then (each g (drop i ps)) (λ os. got (counted items empty os)) ≡ whole

    pub left-first : Left 0 0 0
    left-first = then_same (each g ps) (λ os. got (counted 0 0 os)) (λ os. got (counts_of b cs os)) (λ os. ap got (ap (λ n. counting n (0 + nulls os)) (let q : 0 + length (items_of b cs os) ≡ length (items_of b cs os) = omega arith in q) ∙ ap (counting (length (items_of b cs os))) (let q : 0 + nulls os ≡ nulls os = omega arith in q)))

    module _ (i items empty : ℕ) (h : i < length ps) (w : Left i items empty) where
      front : each g (drop i ps) ≡ then (g (get_or ps i 0)) (λ x. then (each g (drop (i + 1) ps)) (λ xs. got (x ∷ xs)))
      front = at_drop_more (each g) ps i 0 h

      pub left_next : (o : Option (List (List ℕ))) → g (get_or ps i 0) ≡ got o → Left (i + 1) (items + (row_size b cs o).items) (empty + bool_byte (row_size b cs o).null)
      left_next o e =
          let F : Rows → Got Counted = λ os. got (counted items empty os) in
          let step : each g (drop i ps) ≡ then (each g (drop (i + 1) ps)) (λ xs. got (o ∷ xs)) = front ∙ ap (λ x. then x (λ y. then (each g (drop (i + 1) ps)) (λ xs. got (y ∷ xs)))) e in
          then_same (each g (drop (i + 1) ps)) (λ os. got (counted (items + (row_size b cs o).items) (empty + bool_byte (row_size b cs o).null) os)) (λ os. F (o ∷ os)) (λ os. ap got (sym (counted_more items empty o os)))
          ∙ sym (then-then (each g (drop (i + 1) ps)) (λ xs. got (o ∷ xs)) F) ∙ ap (λ x. then x F) (sym step) ∙ w

      pub left_step : (row : Row) → got row ≡ then (g (get_or ps i 0)) (λ o. got (row_size b cs o)) → Left (i + 1) (items + row.items) (empty + bool_byte row.null)
      left_step row said =
          let f = got_then (g (get_or ps i 0)) (row_size b cs) row said in
          subst (λ q. Left (i + 1) (items + q.items) (empty + bool_byte q.null)) (sym f.2) (left_next f.0 f.1)

      pub left_refused : (s : Slip) → g (get_or ps i 0) ≡ refuse s → refuse s ≡ whole
      left_refused s e =
          let step : each g (drop i ps) ≡ refuse s = front ∙ ap (λ x. then x (λ y. then (each g (drop (i + 1) ps)) (λ xs. got (y ∷ xs)))) e in
          ap (λ x. then x (λ os. got (counted items empty os))) (sym step) ∙ w

    pub left_last : (i items empty : ℕ) → length ps ≤ i → Left i items empty → got (record { items = items; nulls = empty }) ≡ whole
    left_last i items empty h w =
        ap got (ap (λ n. counting n empty) (let q : items ≡ items + 0 = omega arith in q) ∙ ap (counting (items + 0)) (let q : empty ≡ empty + 0 = omega arith in q))
        ∙ sym (ap (λ x. then x (λ os. got (counted items empty os))) (at_drop_all (each g) ps i h)) ∙ w

-- rows none of which is refused
module _ {A : Type 0} (g : ℕ → Got (Option A)) where
  first_got : (x : Got (Option A)) (y : Got (List (Option A))) → is_got (then x (λ o. then y (λ os. got (o ∷ os)))) ≡ true → (is_got x ≡ true) × (is_got y ≡ true)
  first_got (refuse s) y e = absurd (let z : ◌≡◌ {A = ℕ} 0 1 = cc in omega arith)
  first_got (got o) (refuse s) e = absurd (let z : ◌≡◌ {A = ℕ} 0 1 = cc in omega arith)
  first_got (got o) (got os) e = (refl, refl)

  pub all_got : (ps : List ℕ) → is_got (each g ps) ≡ true → (i : ℕ) → i < length ps → is_got (g (get_or ps i 0)) ≡ true
  all_got [] e i h = absurd (omega arith)
  all_got (p ∷ ps) e zero h = (first_got (g p) (each g ps) e).0
  all_got (p ∷ ps) e (suc i) h = all_got ps (first_got (g p) (each g ps) e).1 i (omega arith)

  got_accepted : (x : Got (Option A)) → is_got x ≡ true → x ≡ got (accepted x)
  got_accepted (refuse s) e = absurd (let z : ◌≡◌ {A = ℕ} 0 1 = cc in omega arith)
  got_accepted (got o) e = refl

  pub each-accepted : (ps : List ℕ) → is_got (each g ps) ≡ true → each g ps ≡ got (map (λ p. accepted (g p)) ps)
  each-accepted [] e = refl
  each-accepted (p ∷ ps) e =
      let f = first_got (g p) (each g ps) e in
      ap (λ x. then x (λ o. then (each g ps) (λ os. got (o ∷ os)))) (got_accepted (g p) f.0)
      ∙ ap (λ x. then x (λ os. got (accepted (g p) ∷ os))) (each-accepted ps f.1)

-- what is gathered of the first rows
module _ {A : Type 0} (G : ℕ → List A) (ps : List ℕ) where
  abbrev pub gathered : ℕ → List A
  gathered i = joined (map G (take i ps))

  pub gathered_more : (i : ℕ) → i < length ps → gathered (i + 1) ≡ gathered i ++ G (get_or ps i 0)
  gathered_more i h = ap joined (map_more G ps i 0 h) ∙ joined-append (map G (take i ps)) (G (get_or ps i 0) ∷ []) ∙ ap (λ r. gathered i ++ r) (append-nil (G (get_or ps i 0)))

  pub gathered-room : (i : ℕ) → length (gathered i) ≤ length (joined (map G ps))
  gathered-room i =
      let e : joined (map G ps) ≡ gathered i ++ joined (map G (drop i ps)) = ap (λ r. joined (map G r)) (sym (take-append-drop i ps)) ∙ ap joined (map-append G (take i ps) (drop i ps)) ∙ joined-append (map G (take i ps)) (map G (drop i ps)) in
      omega (arith, ap length e, length-append (gathered i) (joined (map G (drop i ps))))

pub joined_through : {A B : Type 0} (f : A → List B) (g : ℕ → A) (ps : List ℕ) → joined (map f (map g ps)) ≡ joined (map (λ p. f (g p)) ps)
joined_through f g [] = refl
joined_through f g (p ∷ ps) = ap (λ r. f (g p) ++ r) (joined_through f g ps)
