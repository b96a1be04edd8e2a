use Rattle.std.proofs.Common.{◌-◌, ◌≤◌, ◌<◌, ◌+◌, ◌≡◌, ◌⊎◌, ℕ, zero, suc, List, refl, sym, subst, inl, inr, add-one, rules, tests, arith}
use Rattle.std.specs.Str.{IsCharBoundary}
use Rattle.std.proofs.lemmas.Iterator.{YieldsList-from_range}
use Rattle.tape.specs.Layout.{offset_at, offset_count}
use Rattle.tape.specs.Opens.{Rise}
use Rattle.tape.proofs.Ranges.{all_of_range}
use Rattle.tape.proofs.layout.Offsets.rise.Goals as goal

-- an offset is the first, or not below the one before it
onward : (ts os : List ℕ) → Rise ts os → (k : ℕ) → k < offset_count os → (k ≡ 0) ⊎ (offset_at os (k - 1) ≤ offset_at os k)
onward ts os r zero l = inl refl
onward ts os r (suc k) l =
    let i : suc k - 1 ≡ k = omega arith in
    let up : offset_at os k ≤ offset_at os (suc k) = rw (add-one k) at (r.rising k (omega arith)) in
    inr (subst (λ j. offset_at os j ≤ offset_at os (suc k)) (sym i) up)

-- and so none is below the one before it
rising : (os : List ℕ) (k : ℕ) → (k + 1 ≡ 0) ⊎ (offset_at os (k + 1 - 1) ≤ offset_at os (k + 1)) → offset_at os k ≤ offset_at os (k + 1)
rising os k (inl z) = absurd (omega arith)
rising os k (inr h) = let i : k + 1 - 1 ≡ k = omega arith in subst (λ j. offset_at os j ≤ offset_at os (k + 1)) i h

pub returns : goal.returns
returns c =
    let ts = c.args.text.now in
    let os = c.args.self.bytes.now in
    let P : ℕ → Type 0 = λ k. ((k ≡ 0) ⊎ (offset_at os (k - 1) ≤ offset_at os k)) × IsCharBoundary ts (offset_at os k) in
    let d = all_of_range _ _ _ _ c.all.result P c.all.ensures.ran (YieldsList-from_range _ _ _ refl refl) (λ x q k. search (rules, tests)) (λ x q k. search (rules, tests)) in (
      (λ e. record {
        rising = λ k l. rising os k (d.0 e (k + 1) (omega arith) (omega arith)).0;
        uncut = λ k l. (d.0 e k (omega arith) (omega arith)).1;
      }),
      (λ r. d.1 (λ k a l. (onward ts os r k (omega arith), r.uncut k (omega arith)))),
    )
