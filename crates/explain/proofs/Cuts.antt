-- The text of an element does not depend on the depth that is allowed, where that is enough.
use Rattle.std.proofs.Common.{◌≡◌, ℕ, zero, suc, ◌+◌, ◌-◌, ◌<◌, ◌≤◌, true, List, [], ◌∷◌, map, sym, refl, ap, ◌∙◌, subst, arith}
use Rattle.std.proofs.lemmas.Bool.{eq-eqb}
use Rattle.std.proofs.lemmas.Bool.Decides.{nat_tests}
use Rattle.tape.specs.Layout.{the, letter_at, number_at, offset_count}
use Rattle.tape.specs.Grammar.{Value, Values, Pairs}
use Rattle.tape.specs.Grammar.Value.{leaf, i64, list, object}
use Rattle.tape.specs.Grammar.Values.{none, more}
use Rattle.tape.specs.Grammar.Pairs.{no_pair, pair}
use Rattle.tape.specs.Opens.{Untorn}
use Rattle.tape.specs.View.{TapeView, Elem, element_at, entries, is_position}
use Rattle.tape.specs.Walk.{Steps, PairSteps, onward}
use Rattle.tape.proofs.Reading.{leaf_facts, value_forward, values_forward, pairs_forward, value_next}
use Rattle.tape.proofs.Walks.{steps_ahead, pairs_ahead, onward_none, onward_more, onward_pair, list_law, object_law}
use Rattle.explain.specs.Laws.{NeverCut}
use Rattle.explain.specs.Nested.{nested, element_text}
use Rattle.explain.proofs.Depths.{begins}
use Rattle.explain.proofs.Elements.{text_at}

-- an element with no brackets has no entries to show
nested-plain : (e : Elem) (xs ys : List (List ℕ)) → (e ≡ Elem.object → ⊥) → (e ≡ Elem.list → ⊥) → nested e xs ≡ nested e ys
nested-plain Elem.object xs ys a b = absurd (a refl)
nested-plain Elem.list xs ys a b = absurd (b refl)
nested-plain (Elem.string s) xs ys a b = refl
nested-plain (Elem.number s) xs ys a b = refl
nested-plain (Elem.i64 z) xs ys a b = refl
nested-plain (Elem.i32 z) xs ys a b = refl
nested-plain (Elem.bool v) xs ys a b = refl
nested-plain Elem.null xs ys a b = refl

module _ (t : TapeView) (p : ℕ) (a : letter_at t.elements p ≡ the "{" → ⊥) (b : letter_at t.elements p ≡ the "[" → ⊥) where
  plain-entries : (xs ys : List (List ℕ)) → nested (element_at t p) xs ≡ nested (element_at t p) ys
  plain-entries xs ys = nested-plain (element_at t p) xs ys (λ e. a (grind (arith, nat_tests))) (λ e. b (grind (arith, nat_tests)))

  plain_text : (d : ℕ) (xs : List (List ℕ)) → element_text t d p ≡ nested (element_at t p) xs
  unfolding element_text
  plain_text zero xs = plain-entries [] xs
  plain_text (suc d) xs = plain-entries (map (element_text t d) (entries t p)) xs

  plain-same : (d e : ℕ) → element_text t d p ≡ element_text t e p
  plain-same d e = plain_text d [] ∙ sym (plain_text e [])

module _ (t : TapeView) (o : Untorn t) where
  -- the texts of these positions are the same at two depths
  abbrev Same : (d e : ℕ) → List ℕ → Type 0
  Same d e ps = map (element_text t d) ps ≡ map (element_text t e) ps

  same_items : (d e p : ℕ) (ps : List ℕ) → element_text t d p ≡ element_text t e p → Same d e ps → Same d e (p ∷ ps)
  same_items d e p ps x h = cc

  same_over : (d e : ℕ) {ps qs : List ℕ} → ps ≡ qs → Same d e qs → Same d e ps
  same_over d e x h = ap (map (element_text t d)) x ∙ h ∙ sym (ap (map (element_text t e)) x)

  -- from the way over the entries to the entries themselves
  list_over : {q : ℕ} (d e p : ℕ) → is_position t p ≡ true → letter_at t.elements p ≡ the "[" → number_at t.elements p ≡ q → (Steps t (p + 1) q → Same d e (onward t (p + 1) q)) → Same d e (entries t p)
  list_over d e p h a n f =
      let w = list_law t o p h (eq-eqb (letter_at t.elements p) (the "[") a) in
      same_over d e (w.all_steps ∙ ap (onward t (p + 1)) n) (f (subst (λ z. Steps t (p + 1) z) n w.way))

  object_over : {q : ℕ} (d e p : ℕ) → is_position t p ≡ true → letter_at t.elements p ≡ the "{" → number_at t.elements p ≡ q → (PairSteps t (p + 1) q → Same d e (onward t (p + 1) q)) → Same d e (entries t p)
  object_over d e p h a n f =
      let w = object_law t o p h (eq-eqb (letter_at t.elements p) (the "{") a) in
      same_over d e (w.bracketed.all_steps ∙ ap (onward t (p + 1)) n) (f (subst (λ z. PairSteps t (p + 1) z) n w.pairs))

  mutual
    value_same : {d p q : ℕ} → Value t.elements (offset_count t.offsets) d p q → is_position t p ≡ true → (e : ℕ) → d ≤ e → element_text t d p ≡ element_text t e p
    value_same (leaf {d = d} {p = p} l) h e k = plain-same t p (λ a. omega (arith, leaf_facts l)) (λ a. omega (arith, leaf_facts l)) d e
    value_same (i64 {d = d} {p = p} x y) h e k = plain-same t p (λ a. omega arith) (λ a. omega arith) d e
    value_same (list {d = d} {p = p} g vs x) h e k =
        let i : element_at t p ≡ Elem.list = rw x.opens refl in
        text_at t d p Elem.list g i ∙ ap (nested Elem.list) (list_over (d - 1) (e - 1) p h x.opens x.to (λ s. values_same vs s (e - 1) (omega arith))) ∙ sym (text_at t e p Elem.list (omega arith) i)
    value_same (object {d = d} {p = p} g ps x) h e k =
        let i : element_at t p ≡ Elem.object = rw x.opens refl in
        text_at t d p Elem.object g i ∙ ap (nested Elem.object) (object_over (d - 1) (e - 1) p h x.opens x.to (λ s. pairs-same ps s (e - 1) (omega arith))) ∙ sym (text_at t e p Elem.object (omega arith) i)

    values_same : {d p q : ℕ} → Values t.elements (offset_count t.offsets) d p q → Steps t p q → (e : ℕ) → d ≤ e → Same d e (onward t p q)
    values_same (none {d = d} {p = p}) s e k = same_over d e (onward_none t p p (omega arith)) refl
    values_same (more {d = d} {p = p} {q = q} {r = r} v vs) s e k =
        let l : p < r = omega (arith, value_forward v, values_forward vs) in
        let a = steps_ahead t l s in
        let n = value_next v in
        same_over d e (onward_more t l s ∙ ap (λ z. p ∷ onward t z r) (sym n))
        (same_items d e p (onward t q r) (value_same v a.position e k) (values_same vs (subst (λ z. Steps t z r) (sym n) a.rest) e k))

    pairs-same : {d p q : ℕ} → Pairs t.elements (offset_count t.offsets) d p q → PairSteps t p q → (e : ℕ) → d ≤ e → Same d e (onward t p q)
    pairs-same (no_pair {d = d} {p = p}) s e k = same_over d e (onward_none t p p (omega arith)) refl
    pairs-same (pair {d = d} {p = p} {q = q} {r = r} x v ps) s e k =
        let l : p < r = omega (arith, value_forward v, pairs_forward ps) in
        let a = pairs_ahead t l s in
        let n = value_next v in
        same_over d e (onward_pair t l s ∙ ap (λ z. p ∷ ((p + 1) ∷ onward t z r)) (sym n))
        (same_items d e p ((p + 1) ∷ onward t q r) (plain-same t p (λ c. omega (arith, x.letter)) (λ c. omega (arith, x.letter)) d e)
        (same_items d e (p + 1) (onward t q r) (value_same v a.position e k) (pairs-same ps (subst (λ z. PairSteps t z r) (sym n) a.rest) e k)))

  uncut : {p q : ℕ} → Value t.elements (offset_count t.offsets) 64 p q → is_position t p ≡ true → element_text t 64 p ≡ nested (element_at t p) (map (element_text t 64) (entries t p))
  uncut (leaf {p = p} l) h = plain_text t p (λ a. omega (arith, leaf_facts l)) (λ a. omega (arith, leaf_facts l)) 64 (map (element_text t 64) (entries t p))
  uncut (i64 {p = p} x y) h = plain_text t p (λ a. omega arith) (λ a. omega arith) 64 (map (element_text t 64) (entries t p))
  uncut (list {p = p} g vs x) h =
      text_at t 64 p (element_at t p) g refl ∙ ap (nested (element_at t p)) (list_over 63 64 p h x.opens x.to (λ s. values_same vs s 64 (omega arith)))
  uncut (object {p = p} g ps x) h =
      text_at t 64 p (element_at t p) g refl ∙ ap (nested (element_at t p)) (object_over 63 64 p h x.opens x.to (λ s. pairs-same ps s 64 (omega arith)))

pub never_cut_lem : NeverCut
never_cut_lem t o p h = uncut t o (begins {t = t} o p h).1 h
