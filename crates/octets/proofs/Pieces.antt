-- Parts of lists, numbers in bytes, joined lists, running sums.
use Rattle.std.proofs.Common.{◌≡◌, ℕ, zero, suc, ◌+◌, ◌-◌, ◌*◌, ◌/◌, ◌^◌, ◌<◌, ◌≤◌, List, [], ◌∷◌, ◌++◌, map, length, get_or, take, drop, replicate, sym, refl, ap, ◌∙◌, append_assoc, le_of_suc-le-suc, not-suc-le-zero, add-zero, add_assoc, div-lt_iff_lt-mul, pow-suc, mul-zero, mul-suc, arith, length-append, take-take, drop-drop, take_at, drop_at}
use native.Mathlib.Nat.{mod-add-div}
use lib.ListN.{length-replicate}
use lib.Seq.{drop-append-add, take-append_seam}
use Rattle.std.specs.List.{AllByRecursion}
use Rattle.std.proofs.lemmas.List.{drop-take}
use Rattle.octets.specs.Numbers.{le, number, padded, pad}
use Rattle.octets.specs.Lists.{part, joined, sum, between, running, starts}

-- numbers
pub length-le : (w n : ℕ) → length (le w n) ≡ w
length-le zero n = refl
length-le (suc w) n = ap suc (length-le w (n / 256))

pub number-le : (w n : ℕ) → n < 256 ^ w → number (le w n) ≡ n
number-le zero n h = omega arith
number-le (suc w) n h =
    let e : number (le w (n / 256)) ≡ n / 256 = number-le w (n / 256) ((div-lt_iff_lt-mul (omega arith)).1 (rw (← pow-suc 256 w) h)) in
    rw e (mod-add-div n 256)

pub length-pad : (bs : List ℕ) → length (pad bs) ≡ padded (length bs)
length-pad bs = length-append bs (replicate (padded (length bs) - length bs) 0) ∙ omega (arith, length-replicate {A = ℕ} (padded (length bs) - length bs) 0)

-- a part of a part
pub part_in : {A : Type 0} (xs ys : List A) (place more from n : ℕ) → part xs place more ≡ ys → from + n ≤ more → part xs (place + from) n ≡ part ys from n
part_in xs ys place more from n e h =
    let k : more ≡ from + (more - from) = omega arith in
    rw (← e, ← drop-drop from place xs, k, drop-take from (more - from) (drop place xs)) (sym (take-take n (more - from) (drop from (drop place xs)) (omega arith)))

take_again : {A : Type 0} (n : ℕ) (zs : List A) → take (length (take n zs)) zs ≡ take n zs
take_again zero zs = refl
take_again (suc n) [] = refl
take_again (suc n) (z ∷ zs) = ap (λ r. z ∷ r) (take_again n zs)

pub take_own : {A : Type 0} (n : ℕ) (zs ys : List A) → take n zs ≡ ys → take (length ys) zs ≡ ys
take_own n zs ys e = rw (← e) (take_again n zs)

-- lists of one length, joined
pub length_even : {A : Type 0} (n : ℕ) (xss : List (List A)) → AllByRecursion (λ xs. length xs ≡ n) xss → length (joined xss) ≡ n * length xss
length_even n [] h = sym (mul-zero n)
length_even n (xs ∷ xss) h = length-append xs (joined xss) ∙ omega (arith, h.0, length_even n xss h.1, mul-suc n (length xss))

pub even_at : {A : Type 0} (n : ℕ) (xss : List (List A)) (k : ℕ) (d : List A) → AllByRecursion (λ xs. length xs ≡ n) xss → k < length xss → part (joined xss) (n * k) n ≡ get_or xss k d
even_at n [] k d a h = absurd (not-suc-le-zero h)
even_at n (xs ∷ xss) zero d a h = rw mul-zero (take_at xs (joined xss) n a.0)
even_at n (xs ∷ xss) (suc k) d a h =
    let e : n * suc k ≡ n + n * k = omega (arith, mul-suc n k) in
    rw (e, ← drop-drop (n * k) n (xs ++ joined xss), drop_at xs (joined xss) n a.0) (even_at n xss k d a.1 (le_of_suc-le-suc h))

-- lists of any length, joined
pub length-joined : {A : Type 0} (xss : List (List A)) → length (joined xss) ≡ sum (map length xss)
length-joined [] = refl
length-joined (xs ∷ xss) = length-append xs (joined xss) ∙ ap (λ n. length xs + n) (length-joined xss)

pub joined_at : {A : Type 0} (xss : List (List A)) (k : ℕ) (d : List A) → k < length xss → part (joined xss) (sum (take k (map length xss))) (length (get_or xss k d)) ≡ get_or xss k d
joined_at [] k d h = absurd (not-suc-le-zero h)
joined_at (xs ∷ xss) zero d h = take-append_seam xs (joined xss)
joined_at (xs ∷ xss) (suc k) d h = rw (drop-append-add xs (joined xss)) (joined_at xss k d (le_of_suc-le-suc h))

pub joined-append : {A : Type 0} (xss yss : List (List A)) → joined (xss ++ yss) ≡ joined xss ++ joined yss
joined-append [] yss = refl
joined-append (xs ∷ xss) yss = ap (λ r. xs ++ r) (joined-append xss yss) ∙ sym (append_assoc xs (joined xss) (joined yss))

-- running sums
pub length-running : (m : ℕ) (ns : List ℕ) → length (running m ns) ≡ length ns + 1
length-running m [] = refl
length-running m (n ∷ ns) = omega (arith, length-running (m + n) ns)

pub length-starts : (m : ℕ) (ns : List ℕ) → length (starts m ns) ≡ length ns
length-starts m [] = refl
length-starts m (n ∷ ns) = ap suc (length-starts (m + n) ns)

pub running-at : (m : ℕ) (ns : List ℕ) (k d : ℕ) → k ≤ length ns → get_or (running m ns) k d ≡ m + sum (take k ns)
running-at m [] zero d h = sym (add-zero m)
running-at m [] (suc k) d h = absurd (not-suc-le-zero h)
running-at m (n ∷ ns) zero d h = sym (add-zero m)
running-at m (n ∷ ns) (suc k) d h = running-at (m + n) ns k d (le_of_suc-le-suc h) ∙ add_assoc m n (sum (take k ns))

pub starts-at : (m : ℕ) (ns : List ℕ) (k d : ℕ) → k < length ns → get_or (starts m ns) k d ≡ m + sum (take k ns)
starts-at m [] k d h = absurd (not-suc-le-zero h)
starts-at m (n ∷ ns) zero d h = sym (add-zero m)
starts-at m (n ∷ ns) (suc k) d h = starts-at (m + n) ns k d (le_of_suc-le-suc h) ∙ add_assoc m n (sum (take k ns))

pub sum_more : (ns : List ℕ) (k d : ℕ) → k < length ns → sum (take (k + 1) ns) ≡ sum (take k ns) + get_or ns k d
sum_more [] k d h = absurd (not-suc-le-zero h)
sum_more (n ∷ ns) zero d h = omega arith
sum_more (n ∷ ns) (suc k) d h = let e : suc k + 1 ≡ suc (k + 1) = omega arith in rw e (omega (arith, sum_more ns k d (le_of_suc-le-suc h)))

pub sum-take-le : (ns : List ℕ) (k : ℕ) → sum (take k ns) ≤ sum ns
sum-take-le ns zero = omega arith
sum-take-le [] (suc k) = omega arith
sum-take-le (n ∷ ns) (suc k) = omega (arith, sum-take-le ns k)

-- numbers in a row
pub length-between : (from n : ℕ) → length (between from n) ≡ n
length-between from zero = refl
length-between from (suc n) = ap suc (length-between (from + 1) n)

pub between-at : (from n k d : ℕ) → k < n → get_or (between from n) k d ≡ from + k
between-at from zero k d h = absurd (not-suc-le-zero h)
between-at from (suc n) zero d h = sym (add-zero from)
between-at from (suc n) (suc k) d h = between-at (from + 1) n k d (le_of_suc-le-suc h) ∙ omega arith

-- the bytes of one, cut from all
module _ {A B : Type 0} (f : A → List B) (d : A) where
  pub split_at : (xs : List A) (i : ℕ) (z : List B) → i < length xs
      → joined (map f xs) ++ z ≡ joined (map f (take i xs)) ++ (f (get_or xs i d) ++ (joined (map f (drop (suc i) xs)) ++ z))
  split_at [] i z h = absurd (not-suc-le-zero h)
  split_at (x ∷ xs) zero z h = append_assoc (f x) (joined (map f xs)) z
  split_at (x ∷ xs) (suc i) z h =
      append_assoc (f x) (joined (map f xs)) z ∙ ap (λ r. f x ++ r) (split_at xs i z (le_of_suc-le-suc h))
      ∙ sym (append_assoc (f x) (joined (map f (take i xs))) _)

  pub cut_out : (xs : List A) (i : ℕ) (z : List B) → i < length xs
      → part (joined (map f xs) ++ z) (length (joined (map f (take i xs)))) (length (f (get_or xs i d))) ≡ f (get_or xs i d)
  cut_out xs i z h =
      rw (split_at xs i z h)
      (ap (take (length (f (get_or xs i d)))) (drop_at (joined (map f (take i xs))) _ (length (joined (map f (take i xs)))) refl)
      ∙ take-append_seam (f (get_or xs i d)) (joined (map f (drop (suc i) xs)) ++ z))
