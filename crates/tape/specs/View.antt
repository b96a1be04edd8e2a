-- What a tape says: its elements, their texts, and the positions of a list's or an object's entries.
use Rattle.std.specs.Prelude.{ℕ, zero, suc, ◌+◌, ◌-◌, ◌*◌, ◌^◌, Bool, true, false, cond, not, ◌&&◌, List, [], ◌∷◌, ℤ, pos, negsuc, ◌==◌, nat_lt}
use Rattle.octets.specs.Lists.{part}
use Rattle.tape.specs.Layout.{the, letter_at, number_at, offset_at, element_count, next_at}

-- the bytes of the elements, of all texts, and of the offsets at which the texts begin
pub record TapeView : Type 0 where
  pub elements : List ℕ
  pub texts : List ℕ
  pub offsets : List ℕ

-- the view of these bytes
abbrev pub view : (elements texts offsets : List ℕ) → TapeView
view es ts os = record { elements = es; texts = ts; offsets = os }

-- an element's value; what a list or an object holds does not count
pub data Elem : Type 0 where
  object : Elem
  list : Elem
  string : List ℕ → Elem
  number : List ℕ → Elem
  i64 : ℤ → Elem
  i32 : ℤ → Elem
  bool : Bool → Elem
  null : Elem

-- the number that n stands for in two's complement
abbrev pub twos : (half n : ℕ) → ℤ
twos half n = cond (nat_lt n half) (pos n) (negsuc (half + half - 1 - n))

module _ (t : TapeView) where
  -- whether element i has this letter
  abbrev pub is_at : (letter : ℕ) → ℕ → Bool
  is_at letter i = letter_at t.elements i == letter

  -- text k
  abbrev pub text_at : ℕ → List ℕ
  text_at k = part t.texts (offset_at t.offsets k) (offset_at t.offsets (k + 1) - offset_at t.offsets k)

  -- the text of the string or number at i
  abbrev pub words_at : ℕ → List ℕ
  words_at i = text_at (number_at t.elements i)

  -- the value of element i, by its letter
  abbrev pub element_at : ℕ → Elem
  element_at i =
      cond (is_at (the "{") i) object (cond (is_at (the "[") i) list
      (cond (is_at (the "s") i) (string (words_at i)) (cond (is_at (the "n") i) (number (words_at i))
      (cond (is_at (the "j") i) (i64 (twos (2 ^ 63) (number_at t.elements i * 2 ^ 32 + number_at t.elements (i + 1))))
      (cond (is_at (the "i") i) (i32 (twos (2 ^ 31) (number_at t.elements i)))
      (cond (is_at (the "t") i) (bool true) (cond (is_at (the "f") i) (bool false) null)))))))

  -- the positions of the values from one index up to another
  abbrev pub steps : ℕ → ℕ → ℕ → List ℕ
  steps zero from to = []
  steps (suc fuel) from to = cond (nat_lt from to) (from ∷ steps fuel (next_at t.elements from) to) []

  -- the positions of the entries of the list or object at i; an object's names and values take turns
  abbrev pub entries : ℕ → List ℕ
  entries i = steps (number_at t.elements i - i) (i + 1) (number_at t.elements i)

  -- a position is the index of an element that is no closing bracket and not the second half of a 'j'
  abbrev pub is_position : ℕ → Bool
  is_position i =
      nat_lt i (element_count t.elements) && (not (is_at (the "}") i) && (not (is_at (the "]") i) && not (nat_lt 0 i && is_at (the "j") (i - 1))))
