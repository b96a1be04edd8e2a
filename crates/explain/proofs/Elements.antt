-- The text of an element, item by item.
use Rattle.std.proofs.Common.{◌≡◌, ℕ, zero, suc, ◌-◌, ◌<◌, ◌≤◌, true, List, [], ◌∷◌, ◌++◌, map, codes, sym, refl, ap, ◌∙◌, subst, append_assoc, arith}
use Rattle.std.proofs.lemmas.Bool.{eqb-true}
use Rattle.tape.specs.Ahead.{by_twos}
use Rattle.tape.specs.Layout.{the, letter_at}
use Rattle.tape.specs.Opened.{view_of}
use Rattle.tape.specs.View.{TapeView, Elem, object, list, string, is_at, words_at, element_at, entries}
use Rattle.tape.specs.Walk.{InTurn}
use Rattle.tape.proofs.Walks.{object_law}
use Rattle.explain.specs.declared.element.Shown.{Shown}
use Rattle.explain.specs.declared.writer.Writer.{Writer}
use Rattle.explain.specs.Nested.{comma, listed, paired, nested, element_text}
use Rattle.explain.specs.Puts.{Puts}
use Rattle.explain.specs.Said.{shown}
use Rattle.explain.proofs.Joins.{puts_as, puts_join, Leads}

-- the text of an element, where a bracket may open, and where none may
pub text_at : (t : TapeView) (d p : ℕ) (x : Elem) → 0 < d → element_at t p ≡ x → element_text t d p ≡ nested x (map (element_text t (d - 1)) (entries t p))
unfolding element_text
text_at t zero p x h i = absurd (omega arith)
text_at t (suc d) p x h i = let k : suc d - 1 ≡ d = omega arith in rw (k, i) refl

text_bare : (t : TapeView) (d p : ℕ) (x : Elem) → d ≤ 0 → element_at t p ≡ x → element_text t d p ≡ nested x []
unfolding element_text
text_bare t zero p x h i = ap (λ y. nested y []) i
text_bare t (suc d) p x h i = absurd (omega arith)

-- and of one that has no entries
text_flat : (t : TapeView) (d p : ℕ) (x : Elem) → x ≡ element_at t p → ((xs ys : List (List ℕ)) → nested x xs ≡ nested x ys) → nested x [] ≡ element_text t d p
unfolding element_text
text_flat t zero p x i f = ap (λ y. nested y []) i
text_flat t (suc d) p x i f = let xs = map (element_text t d) (entries t p) in f [] xs ∙ ap (λ y. nested y xs) i

-- the texts of items, the first behind what stands between, and each other behind a comma
abbrev pub behind : (between : List ℕ) → List (List ℕ) → List ℕ
behind between [] = []
behind between (x ∷ xs) = between ++ (x ++ behind (codes ", ") xs)

comma_behind : (xs : List (List ℕ)) → comma xs ++ listed xs ≡ behind (codes ", ") xs
comma_behind [] = refl
comma_behind (x ∷ xs) = ap (λ z. codes ", " ++ (x ++ z)) (comma_behind xs)

listed_behind : (xs : List (List ℕ)) → listed xs ≡ behind [] xs
listed_behind [] = refl
listed_behind (x ∷ xs) = ap (λ z. x ++ z) (comma_behind xs)

-- the texts of pairs
abbrev pub members : (ℕ → List ℕ) → List (ℕ × ℕ) → List ℕ
members f [] = []
members f (x ∷ xs) = f x.0 ++ (codes ": " ++ (f x.1 ++ members f xs))

paired_members : (t : TapeView) (f : ℕ → List ℕ) (ps : List ℕ) → InTurn t ps → paired (map f ps) ≡ members f (by_twos ps)
paired_members t f [] h = refl
paired_members t f (n ∷ []) h = absurd h
paired_members t f (n ∷ (v ∷ ps)) h = ap (λ z. f n ++ (codes ": " ++ (f v ++ z))) (paired_members t f ps h.1)

-- An element of the code.
module _ (e : Shown) where
  -- the texts of what it holds, and its end
  abbrev pub items_text : (between : List ℕ) → List ℕ → List ℕ
  items_text between ps = behind between (map (element_text (view_of e.tape) (e.depth - 1)) ps) ++ codes "]"

  abbrev pub members_text : List (ℕ × ℕ) → List ℕ
  members_text ps = members (element_text (view_of e.tape) (e.depth - 1)) ps ++ codes "}"

  is_list : is_at (view_of e.tape) (the "[") e.p ≡ true → element_at (view_of e.tape) e.p ≡ list
  is_list i = rw (eqb-true (letter_at (view_of e.tape).elements e.p) (the "[") i) refl

  is_object : is_at (view_of e.tape) (the "{") e.p ≡ true → element_at (view_of e.tape) e.p ≡ object
  is_object i = rw (eqb-true (letter_at (view_of e.tape).elements e.p) (the "{") i) refl

  pub list_text : {ps : List ℕ} → is_at (view_of e.tape) (the "[") e.p ≡ true → 0 < e.depth → ps ≡ entries (view_of e.tape) e.p → shown e ≡ codes "[" ++ items_text [] ps
  list_text i h a =
      text_at (view_of e.tape) e.depth e.p list h (is_list i) ∙ ap (λ x. codes "[" ++ (x ++ codes "]")) (listed_behind _) ∙ ap (λ ps. codes "[" ++ items_text [] ps) (sym a)

  pub object_text : {ps : List (ℕ × ℕ)} → is_at (view_of e.tape) (the "{") e.p ≡ true → 0 < e.depth → ps ≡ by_twos (entries (view_of e.tape) e.p) → shown e ≡ codes "{" ++ members_text ps
  object_text i h a =
      let l = object_law (view_of e.tape) e.tape.opened e.p e.position i in
      text_at (view_of e.tape) e.depth e.p object h (is_object i) ∙ ap (λ x. codes "{" ++ (x ++ codes "}")) (paired_members (view_of e.tape) _ _ l.turns) ∙ ap (λ ps. codes "{" ++ members_text ps) (sym a)

  pub list_bare : is_at (view_of e.tape) (the "[") e.p ≡ true → e.depth ≤ 0 → shown e ≡ codes "[" ++ codes "]"
  list_bare i h = text_bare (view_of e.tape) e.depth e.p list h (is_list i)

  pub object_bare : is_at (view_of e.tape) (the "{") e.p ≡ true → e.depth ≤ 0 → shown e ≡ codes "{" ++ codes "}"
  object_bare i h = text_bare (view_of e.tape) e.depth e.p object h (is_object i)

  -- one item more, and one pair more
  pub items_more : (between : List ℕ) {ps qs : List ℕ} {x : ℕ} → ps ≡ x ∷ qs → items_text between ps ≡ between ++ (element_text (view_of e.tape) (e.depth - 1) x ++ items_text (codes ", ") qs)
  items_more between a = rw a (simp append_assoc)

  pub members_more : {ps qs : List (ℕ × ℕ)} {n v : ℕ} → ps ≡ (n, v) ∷ qs
      → members_text ps ≡ element_text (view_of e.tape) (e.depth - 1) n ++ (codes ": " ++ (element_text (view_of e.tape) (e.depth - 1) v ++ members_text qs))
  members_more a = rw a (simp append_assoc)

  -- an element with no entries, and a name in it
  pub puts_leaf : {v w : Writer} (x : Elem) → x ≡ element_at (view_of e.tape) e.p → ((xs ys : List (List ℕ)) → nested x xs ≡ nested x ys) → Puts (nested x []) v w → Puts (shown e) v w
  puts_leaf x i f h = puts_as (text_flat (view_of e.tape) e.depth e.p x i f) h

  pub puts_name : {v w : Writer} {s : List ℕ} (n : ℕ) → is_at (view_of e.tape) (the "s") n ≡ true → s ≡ words_at (view_of e.tape) n → Puts (codes "\"" ++ (s ++ codes "\"")) v w
      → Puts (element_text (view_of e.tape) (e.depth - 1) n) v w
  puts_name n i a h =
      let x : string (words_at (view_of e.tape) n) ≡ element_at (view_of e.tape) n = rw (eqb-true (letter_at (view_of e.tape).elements n) (the "s") i) refl in
      puts_as (ap (λ s. codes "\"" ++ (s ++ codes "\"")) a ∙ text_flat (view_of e.tape) (e.depth - 1) n _ x (λ xs ys. refl)) h

-- what is opened, shows what it holds, and is closed
pub puts_within : {whole opens inner left closes : List ℕ} {u v x y z : Writer} → whole ≡ opens ++ inner → left ≡ closes → Puts opens u v → Leads inner v left x → y ≡ x → Puts closes y z → Puts whole u z
puts_within {closes = closes} {z = z} a n f l e g = puts_as (sym a) (puts_join f (l.ends (puts_as (sym n) (subst (λ w. Puts closes w z) e g))))
