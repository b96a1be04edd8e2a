-- A test of every number of a range.
use Rattle.std.proofs.Common.{◌≡◌, ℕ, ◌+◌, ◌-◌, ◌<◌, ◌≤◌, Bool, true, false, List, length, Option, Decides, refl, sym, ◌∙◌, subst, arith}
use denote.Param.Members.{Mut}
use Rattle.std.specs.Bool.{MatchBool}
use Rattle.std.specs.Option.{MatchOption}
use Rattle.std.specs.Fn.{Called}
use Rattle.std.specs.Iterator.{YieldsThen}
use Rattle.std.specs.List.{FoldsTo, AllWithin, HoldsAt, range_with_len}
use Rattle.std.proofs.lemmas.Bool.{false≢true}
use Rattle.std.proofs.lemmas.Iterator.{YieldsList, cases_from_all}
use Rattle.std.proofs.lemmas.List.FromFn.{get_or-range_with_len, length-range_with_len}

-- `all` over the numbers from a up to b, where the closure tests P
pub all_of_range : {S F : Type 0} {steps : S → Option ℕ → S → Type 0} {g : Mut F (ℕ × Unit {0}) Bool} {s : S} (a b : ℕ) (u : S) (f : F) (r : Bool) (P : ℕ → Type 0)
    → (xs : List ℕ) × (o : Option ℕ) × (j : F) × YieldsThen steps s xs o u × FoldsTo (λ p x q. Called g p (x, tt) true q) f xs j × MatchOption o (r ≡ true) (λ x. (r ≡ false) × ((h : F) × Called g j (x, tt) false h))
    → YieldsList steps (λ x. x) s (range_with_len a (b - a))
    → ((x : ℕ) (q : F) → Called g f (x, tt) true q → (q ≡ f) × P x) → ((x : ℕ) (q : F) → Called g f (x, tt) false q → P x → ⊥)
    → Decides r ((k : ℕ) → a ≤ k → k < b → P k)
all_of_range {g = g} a b u f r P ran road holds fails = go r (cases_from_all {g = g} u f r P (λ x. P x → ⊥) ran road holds fails)
  where
    go : (r : Bool) → MatchBool r (AllWithin P (range_with_len a (b - a)) 0 (length (range_with_len a (b - a)))) ((k : ℕ) × (k < length (range_with_len a (b - a))) × HoldsAt (λ x. P x → ⊥) (range_with_len a (b - a)) k)
        → Decides r ((k : ℕ) → a ≤ k → k < b → P k)
    go true h = (
      (λ _ k i l.
          subst P (get_or-range_with_len a (b - a) (k - a) 0 (omega arith) ∙ omega arith) (h (k - a) 0 (omega arith) (omega (arith, length-range_with_len a (b - a))))),
      (λ _. refl),
    )
    go false h = (
      (λ e. absurd (false≢true e)),
      (λ p.
          let l : h.0 < b - a = omega (arith, length-range_with_len a (b - a)) in
          absurd (h.2 0 (subst P (sym (get_or-range_with_len a (b - a) h.0 0 l)) (p (a + h.0) (omega arith) (omega arith))))),
    )
