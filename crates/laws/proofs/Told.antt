-- What an answer tells of a test: a refusal other than 4 that it fails, and no refusal that it passes.
use Rattle.std.proofs.Common.{◌≡◌, ℕ, Bool, true, false, cond, ◌&&◌, List, [], ◌∷◌, map, refl}
use mathlib.Core.Option.{Option}
use Rattle.std.proofs.lemmas.Bool.{and_parts, both_ways}
use Rattle.octets.specs.Lists.{all}
use Rattle.slip.specs.Slips.{Slip, Got, refuse, got, slip, then, each, is_got, accepted}

pub data Told {A : Type 0} : Bool → Got A → Type 0 where
  refused : {b : Bool} {r : Slip} → (b ≡ true → r.number ≡ 4) → Told b (refuse r)
  passed : {x : A} → Told true (got x)

-- a refusal that no test passes
pub told_false : {A : Type 0} {r : Slip} → Told {A = A} false (refuse r)
told_false = refused (λ e. absurd (both_ways false refl e))

pub retold : {A : Type 0} {a b : Bool} {m : Got A} → Told b m → a ≡ b → Told a m
retold h e = rw e h

pub told-then : {A B : Type 0} {a b : Bool} {m : Got A} {k : A → Got B} → Told a m → ((x : A) → Told b (k x)) → Told (a && b) (then m k)
told-then {a} {b} (refused h) l = refused (λ e. h (and_parts a b e).0)
told-then (passed {x}) l = l x

-- with an answer that is not used, at the end
pub told_end : {A B : Type 0} {a : Bool} {m : Got A} (y : B) → Told a m → Told a (then m (λ _. got y))
told_end y (refused h) = refused h
told_end y passed = passed

pub told_as : {A B : Type 0} {a : Bool} {m : Got A} (k : A → B) → Told a m → Told a (then m (λ x. got (k x)))
told_as k (refused h) = refused h
told_as k passed = passed

pub told_got : {A : Type 0} {b : Bool} {x : A} → Told b (got x) → b ≡ true
told_got passed = refl

-- a refusal 4 tells nothing
pub told-space : {A : Type 0} {b : Bool} {k : Got A} (a : Bool) (n : ℕ) → Told b k → Told b (cond a (refuse (slip 4 n 0)) k)
told-space true n h = refused (λ _. refl)
told-space false n h = h

pub told-room : {A B : Type 0} {b : Bool} {k : A → Got B} (a : Bool) (n : ℕ) (x : A) → ((y : A) → Told b (k y)) → Told b (then (cond a (refuse (slip 4 n 0)) (got x)) k)
told-room true n x h = refused (λ _. refl)
told-room false n x h = h x

pub told-each : {A B : Type 0} {b : Bool} (f : ℕ → Got (Option A)) (ps : List ℕ) (k : List (Option A) → Got B)
    → Told b (k (map (λ p. accepted (f p)) ps)) → Told (all (λ p. is_got (f p)) ps && b) (then (each f ps) k)
told-each f [] k h = h
told-each {A} {b} f (p ∷ ps) k h = go (f p) (each f ps) h (λ x. told-each f ps (λ xs. k (x ∷ xs)))
  where
    go : (m : Got (Option A)) (n : Got (List (Option A))) → Told b (k (accepted m ∷ map (λ p. accepted (f p)) ps))
        → ((x : Option A) → Told b (k (x ∷ map (λ p. accepted (f p)) ps)) → Told (all (λ p. is_got (f p)) ps && b) (then n (λ xs. k (x ∷ xs))))
        → Told ((is_got m && all (λ p. is_got (f p)) ps) && b) (then (then m (λ x. then n (λ xs. got (x ∷ xs)))) k)
    go (refuse r) n h l = told_false
    go (got x) (refuse r) h l = l x h
    go (got x) (got xs) h l = l x h
