-- What stands at each index of an opened tape.
use Rattle.std.proofs.Common.{◌≡◌, ℕ, zero, suc, ◌+◌, ◌<◌, ◌≤◌, ◌⊎◌, List, sym, subst, inl, inr, ⊎_elim, arith}
use native.Mathlib.Decide.{dec_lt}
use Rattle.tape.specs.Layout.{letter_at, number_at, element_count, offset_count}
use Rattle.tape.specs.Grammar.{Value, Values, Pairs}
use Rattle.tape.specs.Grammar.Leaf.{string, null}
use Rattle.tape.specs.Grammar.Value.{leaf, i64, list, object}
use Rattle.tape.specs.Grammar.Values.{none, more}
use Rattle.tape.specs.Grammar.Pairs.{no_pair, pair}
use Rattle.tape.specs.Opens.{Opens}
use Rattle.tape.proofs.Reading.{LeafFacts, value_facts, values_forward, pairs_forward, value_list, value_object, within}

-- what stands at x: a value or a key, which ends by e, a closing bracket, or the second element of a 'j'
pub data Covered (es : List ℕ) (m e x : ℕ) : Type 0 where
  starts : (d q : ℕ) → Value es m d x q → q ≤ e → Covered es m e x
  ends : (letter_at es x ≡ 93) ⊎ (letter_at es x ≡ 125) → Covered es m e x
  second : (y : ℕ) → x ≡ y + 1 → letter_at es y ≡ 106 → letter_at es x ≡ 105 → Covered es m e x

mutual
  pub cover_value : {es : List ℕ} {m d p q : ℕ} → Value es m d p q → (e x : ℕ) → q ≤ e → p ≤ x → x < q → Covered es m e x
  cover_value {es} {m} (leaf {d = d} {p = p} l) e x h a b =
      let i : p ≡ x = omega arith in starts d (x + 1) (subst (λ y. Value es m d y (y + 1)) i (leaf l)) (omega arith)
  cover_value {es} {m} (i64 {d = d} {p = p} k i) e x h a b =
      elim (dec_lt p x) [
        | yes l ↦ (let j : p + 1 ≡ x = omega arith in second p (sym j) k (subst (λ y. letter_at es y ≡ 105) j i))
        | no n ↦ (let j : p ≡ x = omega arith in starts d (x + 2) (subst (λ y. Value es m d y (y + 2)) j (i64 k i)) (omega arith))
      ]
  cover_value {es} {m} (list {d = d} {p = p} {q = q} g vs t) e x h a b =
      elim (dec_lt p x) [
        | no n ↦ (let j : p ≡ x = omega arith in starts d (q + 1) (subst (λ y. Value es m d y (q + 1)) j (list g vs t)) h)
        | yes l ↦ elim (dec_lt x q) [
          | yes k ↦ cover_values vs e x (omega arith) (omega arith) k
          | no n ↦ (let j : q ≡ x = omega arith in ends (inl (subst (λ y. letter_at es y ≡ 93) j t.closes)))
        ]
      ]
  cover_value {es} {m} (object {d = d} {p = p} {q = q} g ps t) e x h a b =
      elim (dec_lt p x) [
        | no n ↦ (let j : p ≡ x = omega arith in starts d (q + 1) (subst (λ y. Value es m d y (q + 1)) j (object g ps t)) h)
        | yes l ↦ elim (dec_lt x q) [
          | yes k ↦ cover_pairs ps e x (omega arith) (omega arith) k
          | no n ↦ (let j : q ≡ x = omega arith in ends (inr (subst (λ y. letter_at es y ≡ 125) j t.closes)))
        ]
      ]

  pub cover_values : {es : List ℕ} {m d p q : ℕ} → Values es m d p q → (e x : ℕ) → q ≤ e → p ≤ x → x < q → Covered es m e x
  cover_values none e x h a b = absurd (omega arith)
  cover_values (more {q = q} v vs) e x h a b =
      elim (dec_lt x q) [
        | yes l ↦ cover_value v e x (omega (arith, values_forward vs)) a l
        | no n ↦ cover_values vs e x h (omega arith) b
      ]

  pub cover_pairs : {es : List ℕ} {m d p q : ℕ} → Pairs es m d p q → (e x : ℕ) → q ≤ e → p ≤ x → x < q → Covered es m e x
  cover_pairs no_pair e x h a b = absurd (omega arith)
  cover_pairs {es} {m} (pair {d = d} {p = p} {q = q} t v ps) e x h a b =
      elim (dec_lt p x) [
        | no n ↦ (let j : p ≡ x = omega arith in starts d (x + 1) (subst (λ y. Value es m d y (y + 1)) j (leaf (string t))) (omega arith))
        | yes l ↦ elim (dec_lt x q) [
          | yes k ↦ cover_value v e x (omega (arith, pairs_forward ps)) (omega arith) k
          | no n ↦ cover_pairs ps e x h (omega arith) b
        ]
      ]

-- each element of an opened tape stands somewhere in its values
pub covered : {es ts os : List ℕ} → Opens es ts os → (p : ℕ) → p < element_count es → Covered es (offset_count os) (element_count es) p
covered o zero h = starts 64 1 (leaf (null o.first o.first_number)) (omega arith)
covered {es} o (suc p) h = cover_values o.values (element_count es) (suc p) (omega arith) (omega arith) h

-- every element has one of the eleven letters
pub letters : {es ts os : List ℕ} → Opens es ts os → (p : ℕ) → p < element_count es
    → LeafFacts es (offset_count os) p ⊎ (letter_at es p ≡ 106) ⊎ (letter_at es p ≡ 91) ⊎ (letter_at es p ≡ 123) ⊎ (letter_at es p ≡ 93) ⊎ (letter_at es p ≡ 125)
letters {es} {os = os} o p h = go (covered o p h)
  where
    go : Covered es (offset_count os) (element_count es) p
        → LeafFacts es (offset_count os) p ⊎ (letter_at es p ≡ 106) ⊎ (letter_at es p ≡ 91) ⊎ (letter_at es p ≡ 123) ⊎ (letter_at es p ≡ 93) ⊎ (letter_at es p ≡ 125)
    go (starts d q w h) = ⊎_elim (λ l. inl l) (⊎_elim (λ j. inr (inl j.0)) (⊎_elim (λ a. inr (inr (inl a.0))) (λ a. inr (inr (inr (inl a.0)))))) (value_facts w)
    go (ends (inl a)) = inr (inr (inr (inr (inl a))))
    go (ends (inr a)) = inr (inr (inr (inr (inr a))))
    go (second y i a b) = inl (inr (inr (inl b)))

-- an opening bracket's partner lies on the tape
pub partner_within : {es ts os : List ℕ} → Opens es ts os → (p : ℕ) → p < element_count es → (letter_at es p ≡ 91) ⊎ (letter_at es p ≡ 123) → number_at es p < element_count es
partner_within {es} {os = os} o p h b = go (covered o p h) b
  where
    go : Covered es (offset_count os) (element_count es) p → (letter_at es p ≡ 91) ⊎ (letter_at es p ≡ 123) → number_at es p < element_count es
    go (starts d q w k) (inl a) = let x = value_list a w in omega (arith, x.partners.to, x.after)
    go (starts d q w k) (inr a) = let x = value_object a w in omega (arith, x.partners.to, x.after)
    go (ends e) a = absurd (omega arith)
    go (second y i c e) a = absurd (omega arith)

-- a 'j' is followed by its 'i'
pub low_within : {es ts os : List ℕ} → Opens es ts os → (p : ℕ) → p < element_count es → letter_at es p ≡ 106 → p + 1 < element_count es
low_within {es} {os = os} o p h a = go (covered o p h)
  where
    go : Covered es (offset_count os) (element_count es) p → p + 1 < element_count es
    go (starts d q w k) = within es (p + 1) o.whole_elements (omega (arith, value_facts w))
    go (ends e) = absurd (omega arith)
    go (second y i c e) = absurd (omega arith)

-- a string and a number have both offsets
pub text_within : {es ts os : List ℕ} → Opens es ts os → (p : ℕ) → p < element_count es → (letter_at es p ≡ 115) ⊎ (letter_at es p ≡ 110) → number_at es p + 1 < offset_count os
text_within o p h a = omega (arith, letters o p h)
