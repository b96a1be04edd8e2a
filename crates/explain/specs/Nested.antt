-- An element as text, with the elements inside it.
use Rattle.std.specs.Prelude.{ℕ, zero, suc, cond, List, [], ◌∷◌, ◌++◌, map, codes}
use Rattle.std.specs.Fmt.{signed_decimal}
use Rattle.tape.specs.View.{TapeView, Elem, object, list, string, number, i64, i32, bool, null, element_at, entries}

-- what stands between an item and those behind it
abbrev pub comma : List (List ℕ) → List ℕ
comma [] = []
comma (x ∷ xs) = codes ", "

-- the items of a list
abbrev pub listed : List (List ℕ) → List ℕ
listed [] = []
listed (x ∷ xs) = x ++ (comma xs ++ listed xs)

-- the names and values of an object, which take turns; nothing stands between two pairs
abbrev pub paired : List (List ℕ) → List ℕ
paired [] = []
paired (name ∷ []) = name
paired (name ∷ (value ∷ xs)) = name ++ (codes ": " ++ (value ++ paired xs))

-- an element whose entries have these texts; the text of a string stands as it is
abbrev pub nested : Elem → List (List ℕ) → List ℕ
nested object entries = codes "{" ++ (paired entries ++ codes "}")
nested list entries = codes "[" ++ (listed entries ++ codes "]")
nested (string bytes) entries = codes "\"" ++ (bytes ++ codes "\"")
nested (number bytes) entries = bytes
nested (i64 z) entries = signed_decimal z
nested (i32 z) entries = signed_decimal z
nested (bool b) entries = cond b (codes "true") (codes "false")
nested null entries = codes "null"

-- the element at i, in which at most so many brackets are open together
unfoldable pub element_text : TapeView → (depth : ℕ) → ℕ → List ℕ
element_text t zero i = nested (element_at t i) []
element_text t (suc depth) i = nested (element_at t i) (map (element_text t depth) (entries t i))

-- with all that it holds: no more than 64 brackets are open together on a tape
abbrev pub whole_text : TapeView → ℕ → List ℕ
whole_text t i = element_text t 64 i
