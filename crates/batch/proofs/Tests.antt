-- Tests of all elements of a list.
use Rattle.std.proofs.Common.{◌≡◌, ℕ, zero, suc, ◌<◌, Bool, true, false, ◌&&◌, List, [], ◌∷◌, ◌++◌, map, length, get_or, replicate, sym, refl, ap, ◌∙◌, le_of_suc-le-suc, not-suc-le-zero, arith}
use mathlib.Core.Path.{fun_ext}
use Rattle.std.proofs.lemmas.Bool.{and_left, and_right, both_ways}
use Rattle.octets.specs.Lists.{joined, all}

pub and_true : (a : Bool) → (a && true) ≡ a
and_true true = refl
and_true false = refl

and_assoc : (a b c : Bool) → ((a && b) && c) ≡ (a && (b && c))
and_assoc true b c = refl
and_assoc false b c = refl

and_swap : (a b c d : Bool) → ((a && b) && (c && d)) ≡ ((a && c) && (b && d))
and_swap true true c d = refl
and_swap true false true d = refl
and_swap true false false d = refl
and_swap false b c d = refl

pub all_both : {A : Type 0} (f g : A → Bool) (xs : List A) → all (λ x. f x && g x) xs ≡ (all f xs && all g xs)
all_both f g [] = refl
all_both f g (x ∷ xs) = ap (λ b. (f x && g x) && b) (all_both f g xs) ∙ and_swap (f x) (g x) (all f xs) (all g xs)

all_append : {A : Type 0} (f : A → Bool) (xs ys : List A) → all f (xs ++ ys) ≡ (all f xs && all f ys)
all_append f [] ys = refl
all_append f (x ∷ xs) ys = ap (λ b. f x && b) (all_append f xs ys) ∙ sym (and_assoc (f x) (all f xs) (all f ys))

pub all-joined : {A : Type 0} (f : A → Bool) (xss : List (List A)) → all f (joined xss) ≡ all (all f) xss
all-joined f [] = refl
all-joined f (xs ∷ xss) = all_append f xs (joined xss) ∙ ap (λ b. all f xs && b) (all-joined f xss)

pub all_map : {A B : Type 0} (f : B → Bool) (g : A → B) (xs : List A) → all f (map g xs) ≡ all (λ x. f (g x)) xs
all_map f g [] = refl
all_map f g (x ∷ xs) = ap (λ b. f (g x) && b) (all_map f g xs)

pub all_same : {A : Type 0} (f g : A → Bool) → ((x : A) → f x ≡ g x) → (xs : List A) → all f xs ≡ all g xs
all_same {A} f g h xs = ap (λ (k : A → Bool). all k xs) (fun_ext h)

pub all_true : {A : Type 0} (xs : List A) → all (λ x. true) xs ≡ true
all_true [] = refl
all_true (x ∷ xs) = all_true xs

pub all_replicate : {A : Type 0} (f : A → Bool) (n : ℕ) (x : A) → f x ≡ true → all f (replicate n x) ≡ true
all_replicate f zero x e = refl
all_replicate f (suc n) x e = rw e (all_replicate f n x e)

-- one that fails, and from one that fails
pub all_false : (f : ℕ → Bool) (xs : List ℕ) → all f xs ≡ false → (i : ℕ) × (i < length xs) × (f (get_or xs i 0) ≡ false)
all_false f [] e = absurd (both_ways true e refl)
all_false f (x ∷ xs) e = go (f x) refl e (all_false f xs)
  where
    go : (b : Bool) → f x ≡ b → (b && all f xs) ≡ false → (all f xs ≡ false → (i : ℕ) × (i < length xs) × (f (get_or xs i 0) ≡ false))
        → (i : ℕ) × (i < length (x ∷ xs)) × (f (get_or (x ∷ xs) i 0) ≡ false)
    go true p q k = let r = k q in (suc r.0, omega (arith, r.1), r.2)
    go false p q k = (0, omega arith, p)

pub false_all : (f : ℕ → Bool) (xs : List ℕ) (i : ℕ) → i < length xs → f (get_or xs i 0) ≡ false → all f xs ≡ false
false_all f [] i h e = absurd (not-suc-le-zero h)
false_all f (x ∷ xs) zero h e = and_left (f x) (all f xs) e
false_all f (x ∷ xs) (suc i) h e = and_right (f x) (all f xs) (false_all f xs i (le_of_suc-le-suc h) e)
