-- The lowest place of a name.
use Rattle.std.proofs.Common.{◌≡◌, ℕ, zero, suc, ◌+◌, ◌<◌, Bool, true, false, cond, List, [], ◌∷◌, length, get_or, Some, None, Option, sym, refl, ap, ◌∙◌, add-one, arith, rules, ◌≢◌, ◌≤◌}
use Rattle.std.specs.Option.{MatchOption}
use native.Mathlib.Decide.{dec_lt}
use Rattle.std.proofs.lemmas.Bool.{false≢true}
use Rattle.std.specs.Bool.{Decides}
use Rattle.std.proofs.lemmas.Slice.Eq.{compares_Decides}
use Rattle.octets.specs.Lists.{same}
use Rattle.names.specs.Lowest.{onward, lowest, Lowest, AlwaysLowest}

same_decides : (a b : List ℕ) → Decides (same a b) (a ≡ b)
same_decides = compares_Decides same (search rules)

pub always_lowest : AlwaysLowest
always_lowest [] s = λ j h e. omega arith
always_lowest (n ∷ ns) s = go (same n s) refl (lowest ns s) (always_lowest ns s)
  where
    other : same n s ≡ false → n ≡ s → ⊥
    other e q = false≢true (sym e ∙ (same_decides n s).1 q)

    go : (b : Bool) → same n s ≡ b → (o : Option ℕ) → Lowest ns s o → Lowest (n ∷ ns) s (cond b (Some 0) (onward o))
    go true e o h = (omega arith, (same_decides n s).0 e, λ j l q. omega arith)
    go false e None h = none
      where
        none : (j : ℕ) → j < length (n ∷ ns) → get_or (n ∷ ns) j [] ≡ s → ⊥
        none zero l q = other e q
        none (suc j) l q = h j (omega arith) q
    go false e (Some k) h = (omega arith, rw (add-one k) h.1, before)
      where
        before : (j : ℕ) → j < k + 1 → get_or (n ∷ ns) j [] ≡ s → ⊥
        before zero l q = other e q
        before (suc j) l q = h.2 j (omega arith) q

one-lowest : (ns : List (List ℕ)) (s : List ℕ) (a b : Option ℕ) → Lowest ns s a → Lowest ns s b → a ≡ b
one-lowest ns s None None h k = refl
one-lowest ns s None (Some j) h k = absurd (h j k.0 k.1)
one-lowest ns s (Some i) None h k = absurd (k i h.0 h.1)
one-lowest ns s (Some i) (Some j) h k =
    elim (dec_lt i j) [
      | yes l ↦ absurd (k.2 i l h.1)
      | no l ↦ elim (dec_lt j i) [ yes m ↦ absurd (h.2 j m k.1) | no m ↦ ap Some (omega arith) ]
    ]

-- an answer with the properties is the answer
pub lowest_is : (ns : List (List ℕ)) (s : List ℕ) (r : Option ℕ) → Lowest ns s r → r ≡ lowest ns s
lowest_is ns s r h = one-lowest ns s r (lowest ns s) h (always_lowest ns s)

-- a look at one place after another, up to the first that has the name, gives the answer
pub lowest_from : (ns : List (List ℕ)) (s : List ℕ) (n : ℕ) (r : Option ℕ) → n ≡ length ns
    → MatchOption r ((k : ℕ) → 0 ≤ k → k < n → get_or ns k [] ≢ s) (λ i. (0 ≤ i) × (i < n) × (get_or ns i [] ≡ s) × ((k : ℕ) → 0 ≤ k → k < i → get_or ns k [] ≢ s)) → r ≡ lowest ns s
lowest_from ns s n None e h = lowest_is ns s None (λ j l. h j (omega arith) (omega arith))
lowest_from ns s n (Some i) e h = lowest_is ns s (Some i) (omega (arith, h.1), h.2, λ j l. h.3 j (omega arith) l)

-- a name stands at no place below p
abbrev pub Before : List (List ℕ) → List ℕ → ℕ → Type 0
Before all n p = (j : ℕ) → j < p → get_or all j [] ≡ n → ⊥
