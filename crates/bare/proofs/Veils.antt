-- Slots under a veil: those of mapped, joined and hidden lists.
use Rattle.std.proofs.Common.{◌≡◌, ℕ, suc, ◌+◌, ◌<◌, Bool, true, false, cond, List, [], ◌∷◌, ◌++◌, map, length, replicate, sym, refl, ap, ◌∙◌, add-zero, arith}
use mathlib.Core.Option.{none, some}
use Rattle.octets.specs.Lists.{via}
use Rattle.bare.specs.Slots.{veiled}

via-cond : {A B : Type 0} (g : A → B) (b : Bool) (x : A) → via g (cond b none (some x)) ≡ cond b none (some (g x))
via-cond g true x = refl
via-cond g false x = refl

pub veiled-map : {A B : Type 0} (g : A → B) (hid : ℕ → Bool) (i : ℕ) (xs : List A) → map (via g) (veiled hid i xs) ≡ veiled hid i (map g xs)
veiled-map g hid i [] = refl
veiled-map g hid i (x ∷ xs) =
    ap (λ o. o ∷ map (via g) (veiled hid (i + 1) xs)) (via-cond g (hid i) x)
    ∙ ap (λ r. cond (hid i) none (some (g x)) ∷ r) (veiled-map g hid (i + 1) xs)

-- the same veil
pub veiled_by : {A : Type 0} (f g : ℕ → Bool) (i j : ℕ) (xs : List A) → ((k : ℕ) → k < length xs → f (i + k) ≡ g (j + k)) → veiled f i xs ≡ veiled g j xs
veiled_by f g i j [] h = refl
veiled_by f g i j (x ∷ xs) h =
    let e : f i ≡ g j = ap f (sym (add-zero i)) ∙ h 0 (omega arith) ∙ ap g (add-zero j) in
    let more : (k : ℕ) → k < length xs → f (i + 1 + k) ≡ g (j + 1 + k) = λ k l.
    let a : i + 1 + k ≡ i + suc k = omega arith in
    let b : j + suc k ≡ j + 1 + k = omega arith in
    ap f a ∙ h (suc k) (omega arith) ∙ ap g b in
    ap (λ b. cond b none (some x) ∷ veiled f (i + 1) xs) e ∙ ap (λ r. cond (g j) none (some x) ∷ r) (veiled_by f g (i + 1) (j + 1) xs more)

pub veiled-append : {A : Type 0} (f : ℕ → Bool) (i : ℕ) (xs ys : List A) → veiled f i (xs ++ ys) ≡ veiled f i xs ++ veiled f (i + length xs) ys
veiled-append f i [] ys = ap (λ n. veiled f n ys) (sym (add-zero i))
veiled-append f i (x ∷ xs) ys =
    let e : i + 1 + length xs ≡ i + suc (length xs) = omega arith in
    ap (λ r. cond (f i) none (some x) ∷ r) (veiled-append f (i + 1) xs ys ∙ ap (λ n. veiled f (i + 1) xs ++ veiled f n ys) e)

-- all hidden, and none
always : {A : Type 0} (i : ℕ) (xs : List A) → veiled (λ _. true) i xs ≡ replicate (length xs) none
always i [] = refl
always i (x ∷ xs) = ap (λ r. none ∷ r) (always (i + 1) xs)

never : {A : Type 0} (i : ℕ) (xs : List A) → veiled (λ _. false) i xs ≡ map some xs
never i [] = refl
never i (x ∷ xs) = ap (λ r. some x ∷ r) (never (i + 1) xs)

pub veiled_none : {A : Type 0} (f : ℕ → Bool) (i : ℕ) (xs : List A) → ((k : ℕ) → k < length xs → f (i + k) ≡ true) → veiled f i xs ≡ replicate (length xs) none
veiled_none f i xs h = veiled_by f (λ _. true) i 0 xs h ∙ always 0 xs

pub veiled-all : {A : Type 0} (f : ℕ → Bool) (i : ℕ) (xs : List A) → ((k : ℕ) → k < length xs → f (i + k) ≡ false) → veiled f i xs ≡ map some xs
veiled-all f i xs h = veiled_by f (λ _. false) i 0 xs h ∙ never 0 xs
