-- Lists and what may be absent.
use Rattle.std.specs.Prelude.{ℕ, zero, suc, ◌+◌, Bool, true, false, ◌&&◌, List, [], ◌∷◌, ◌++◌, length, take, drop, ◌==◌}
use Rattle.std.proofs.Math.Option.{Option, none, some}

-- so many elements from a place on
abbrev pub part : {A : Type 0} → List A → ℕ → ℕ → List A
part xs place size = take size (drop place xs)

-- xs with ys written over it from a place on
abbrev pub splice : {A : Type 0} → List A → ℕ → List A → List A
splice xs place ys = take place xs ++ (ys ++ drop (place + length ys) xs)

-- lists end to end
abbrev pub joined : {A : Type 0} → List (List A) → List A
joined [] = []
joined (xs ∷ xss) = xs ++ joined xss

-- a test of every element
abbrev pub all : {A : Type 0} → (A → Bool) → List A → Bool
all f [] = true
all f (x ∷ xs) = f x && all f xs

-- equal numbers in equal order
abbrev pub same : List ℕ → List ℕ → Bool
same [] [] = true
same [] (b ∷ bs) = false
same (a ∷ r) [] = false
same (a ∷ r) (b ∷ bs) = a == b && same r bs

-- the first of some positions, or 0, and those behind it
abbrev pub first : List ℕ → ℕ
first [] = 0
first (p ∷ ps) = p

abbrev pub rest : List ℕ → List ℕ
rest [] = []
rest (p ∷ ps) = ps

abbrev pub sum : List ℕ → ℕ
sum [] = 0
sum (n ∷ ns) = n + sum ns

-- n numbers, each one more than the one before
abbrev pub between : ℕ → ℕ → List ℕ
between from zero = []
between from (suc n) = from ∷ between (from + 1) n

-- the sum of those before each number
abbrev pub starts : ℕ → List ℕ → List ℕ
starts n [] = []
starts n (k ∷ ks) = n ∷ starts (n + k) ks

-- the same, and the sum of all at the end
abbrev pub running : ℕ → List ℕ → List ℕ
running n [] = n ∷ []
running n (k ∷ ks) = n ∷ running (n + k) ks

abbrev pub is_some : {A : Type 0} → Option A → Bool
is_some none = false
is_some (some x) = true

abbrev pub or_else : {A : Type 0} → A → Option A → A
or_else d none = d
or_else d (some x) = x

abbrev pub via : {A B : Type 0} → (A → B) → Option A → Option B
via f none = none
via f (some x) = some (f x)
