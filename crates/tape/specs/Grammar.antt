-- The grammar of a tape. es are the bytes of its elements, and m is how many offsets it has.
use Rattle.std.specs.Prelude.{◌≡◌, ℕ, ◌+◌, ◌-◌, ◌<◌, List}
use Rattle.tape.specs.Layout.{the, letter_at, number_at}

-- element p is an 's', and its text has both offsets
pub record Text (es : List ℕ) (m p : ℕ) : Type 0 where
  pub letter : letter_at es p ≡ the "s"
  pub held : number_at es p + 1 < m

-- element p is a value by itself: s, n, i, t, f or z
pub data Leaf (es : List ℕ) (m p : ℕ) : Type 0 where
  string : Text es m p → Leaf es m p
  number : letter_at es p ≡ the "n" → number_at es p + 1 < m → Leaf es m p
  i32 : letter_at es p ≡ the "i" → Leaf es m p
  true' : letter_at es p ≡ the "t" → number_at es p ≡ 0 → Leaf es m p
  false' : letter_at es p ≡ the "f" → number_at es p ≡ 0 → Leaf es m p
  null : letter_at es p ≡ the "z" → number_at es p ≡ 0 → Leaf es m p

-- elements p and q are partners, with the letters a and b
pub record Partners (es : List ℕ) (a b p q : ℕ) : Type 0 where
  pub opens : letter_at es p ≡ a
  pub to : number_at es p ≡ q
  pub closes : letter_at es q ≡ b
  pub back : number_at es q ≡ p

mutual
  -- the elements from p up to q are one value, in which at most d brackets are open together
  pub data Value (es : List ℕ) (m : ℕ) : ℕ → ℕ → ℕ → Type 0 where
    leaf : {d p : ℕ} → Leaf es m p → Value es m d p (p + 1)
    i64 : {d p : ℕ} → letter_at es p ≡ the "j" → letter_at es (p + 1) ≡ the "i" → Value es m d p (p + 2)
    list : {d p q : ℕ} → 0 < d → Values es m (d - 1) (p + 1) q → Partners es (the "[") (the "]") p q → Value es m d p (q + 1)
    object : {d p q : ℕ} → 0 < d → Pairs es m (d - 1) (p + 1) q → Partners es (the "{") (the "}") p q → Value es m d p (q + 1)

  -- they are values, one after another
  pub data Values (es : List ℕ) (m : ℕ) : ℕ → ℕ → ℕ → Type 0 where
    none : {d p : ℕ} → Values es m d p p
    more : {d p q r : ℕ} → Value es m d p q → Values es m d q r → Values es m d p r

  -- they are pairs of an 's' and a value
  pub data Pairs (es : List ℕ) (m : ℕ) : ℕ → ℕ → ℕ → Type 0 where
    no_pair : {d p : ℕ} → Pairs es m d p p
    pair : {d p q r : ℕ} → Text es m p → Value es m d (p + 1) q → Pairs es m d q r → Pairs es m d p r
