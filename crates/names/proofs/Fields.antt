-- The names of a struct's fields, by their records.
use Rattle.std.proofs.Common.{◌≡◌, ℕ, zero, suc, ◌+◌, ◌<◌, ◌≤◌, List, [], ◌∷◌, ◌++◌, map, length, get_or, take, set, sym, refl, ap, ◌∙◌, Some, subst, arith, length-append, length-take-le, get_or-take}
use Rattle.std.specs.List.{All}
use Rattle.std.proofs.lemmas.List.{append-nil, length-map, map-append, take_more_set}
use Rattle.octets.specs.Lists.{between}
use Rattle.octets.proofs.Pieces.{between-at}
use Rattle.schema.specs.Tree.{Node, Fields, field_of, children_of, many, names, numbers}
use Rattle.std.specs.Iterator.{Yields, YieldsFirst}
use Rattle.std.specs.Iterator.Adapters.{enumerate_source, enumerate_count, enumerate_steps}
use Rattle.std.specs.declared.iter.Enumerate.{Enumerate}
use Rattle.schema.specs.declared.children.Children.{Children}
use Rattle.schema.specs.Children.{rest}
use Rattle.schema.proofs.Siblings.{yielded, turn, ended}
use Rattle.schema.specs.Layout.{the, record_count, letter_at, start_at, size_at, name_at, count_at}
use Rattle.schema.specs.Held.{letter_of, count_of, Limited, Held, HeldIn}
use Rattle.schema.specs.Held.HeldIn.{nothing, more}
use Rattle.schema.specs.Opens.{Opens}
use Rattle.schema.proofs.Letters.{by_letter}
use Rattle.schema.proofs.Nodes.{held_written, held_limited, held_children, held_at, between_more}
use Rattle.names.specs.declared.scan.Scan.{Scan}
use Rattle.names.specs.Readable.{Readable}
use Rattle.names.specs.Scans.{scan_names}

-- a struct counts its fields, and they are at most 64
record Counted (t : Node) : Type 0 where
  pub fields : count_of t ≡ many (children_of t)
  pub few : count_of t ≤ 64

counted : (t : Node) → letter_of t ≡ the "S" → Limited t → Counted t
counted t e = subst (λ x. Limited x → Counted x) (sym (by_letter t (the "S") e)) (λ l. record { fields = refl; few = l })

-- the children that are held can be read by their numbers, and have these names
record Chained (rs ns : List ℕ) (cs : Fields) : Type 0 where
  pub readable : All (Readable rs ns) (numbers cs)
  pub same : map (name_at rs ns) (numbers cs) ≡ names cs

chained : {rs ns : List ℕ} {i : ℕ} {cs : Fields} → HeldIn rs ns i cs → Chained rs ns cs
chained nothing = record { readable = λ q d l. absurd (omega arith); same = refl }
chained {rs} {ns} {i} (more {c = c} {cs = cs} h r) =
    let w = held_written h in
    let b = chained r in
    record {
      readable = λ q d l. go q d l (subst (Readable rs ns) (sym w.number) (record { within = w.within; inside = w.named.inside })) b.readable;
      same = ap (λ x. name_at rs ns x ∷ map (name_at rs ns) (numbers cs)) w.number ∙ rw (← w.name) (ap (λ x. (field_of c).name ∷ x) b.same);
    }
  where
    go : (q d : ℕ) → q < suc (length (numbers cs)) → Readable rs ns (field_of c).number → All (Readable rs ns) (numbers cs) → Readable rs ns (get_or ((field_of c).number ∷ numbers cs) q d)
    go zero d l x f = x
    go (suc q) d l x f = f q d (omega arith)

-- the first so many heads can be read, as those that are taken can
read_from : {rs ns : List ℕ} (heads : List ℕ) (count : ℕ) → count ≤ length heads → All (Readable rs ns) (take count heads) → (q : ℕ) → q < count → Readable rs ns (get_or heads q 0)
read_from {rs} {ns} heads count h all q l = subst (Readable rs ns) (get_or-take count heads q 0 l) (all q 0 (omega (arith, length-take-le count heads h)))

-- how many children a struct has
pub few_fields : {rs ns : List ℕ} {i : ℕ} {t : Node} → Held rs ns i t → letter_at rs i ≡ the "S" → (count_at rs i ≡ many (children_of t)) × (many (children_of t) ≤ 64)
few_fields {t = t} h e =
    let w = held_written h in
    let n = counted t (sym w.letter ∙ e) (held_limited h) in
    (w.count ∙ n.fields, omega (arith, n.fields, n.few))

-- heads whose names can be read, and are those of a struct's fields
pub record Made (rs ns : List ℕ) (i : ℕ) (heads : List ℕ) (count : ℕ) : Type 0 where
  pub few : count ≤ 64
  pub readable : (q : ℕ) → q < count → Readable rs ns (get_or heads q 0)
  pub counted : length (map (name_at rs ns) (take count heads)) ≡ count_at rs i
  pub named : (t : Node) → Held rs ns i t → map (name_at rs ns) (take count heads) ≡ names (children_of t)

pub fields_made : {rs ns : List ℕ} {root : Node} {heads : List ℕ} {count : ℕ} (i : ℕ) → Opens rs ns root → i < record_count rs → letter_at rs i ≡ the "S" → count ≡ count_at rs i → count ≤ length heads → ((t : Node) → Held rs ns i t → take (many (children_of t)) heads ≡ numbers (children_of t)) → Made rs ns i heads count
fields_made {rs} {ns} {root} {heads} {count} i o w e n long all =
    let h = held_at o i w in
    let f = few_fields h e in
    let few : count ≤ 64 = omega (arith, f.0, f.1) in
    let same : (t : Node) → Held rs ns i t → take count heads ≡ numbers (children_of t) = λ t k. ap (λ c. take c heads) (n ∙ (few_fields k e).0) ∙ all t k in
    record {
      few = few;
      readable = read_from heads count long (rw (same _ h) (chained (held_children h)).readable);
      counted = length-map (take count heads) (name_at rs ns) ∙ length-take-le count heads long ∙ n;
      named = λ t k. rw (same t k) (chained (held_children k)).same;
    }

-- A `for (place, child) in schema.children(node).enumerate()` that began at s, has yielded xs and is at t: the numbers count up, and the children are yielded as they are without them.
record Numbered (s : Enumerate Children) (xs : List (ℕ × ℕ)) (t : Enumerate Children) : Type 0 where
  pub count : enumerate_count t ≡ enumerate_count s + length xs
  pub taken : Yields (YieldsFirst rest) (enumerate_source s) (map (λ p. p.1) xs) (enumerate_source t)

numbered : (s : Enumerate Children) (xs : List (ℕ × ℕ)) (t : Enumerate Children) → Yields (enumerate_steps (YieldsFirst rest)) s xs t → Numbered s xs t
numbered s [] t y = record { count = ap enumerate_count (sym y) ∙ omega arith; taken = ap enumerate_source y }
numbered s (x ∷ xs) t y =
    let r = numbered y.0 xs t y.2 in
    record { count = omega (arith, r.count, y.1.2); taken = (enumerate_source y.0, y.1.0, r.taken) }

-- the next child goes to the next place
pub record Turn (xs : List (ℕ × ℕ)) (place : ℕ) : Type 0 where
  pub here : place ≡ length xs
  pub below : place < 64

module _ {rs ns : List ℕ} {root : Node} (i : ℕ) (o : Opens rs ns root) (w : i < record_count rs) (e : letter_at rs i ≡ the "S") {k : Children} (all : (x : Node) → Held rs ns i x → rest k ≡ numbers (children_of x))
    {s a : Enumerate Children} (b : s ≡ a) (g : enumerate_source a ≡ k) (z : enumerate_count a ≡ 0) (xs : List (ℕ × ℕ)) (t : Enumerate Children) (y : Yields (enumerate_steps (YieldsFirst rest)) s xs t) where
  begins : (x : Node) → Held rs ns i x → rest (enumerate_source s) ≡ numbers (children_of x)
  begins x h = ap (λ c. rest (enumerate_source c)) b ∙ ap rest g ∙ all x h

  pub turn_made : {place child : ℕ} (u : Enumerate Children) → enumerate_steps (YieldsFirst rest) t (Some (place, child)) u → Turn xs place
  turn_made {place} {child} u y' =
      let h = held_at o i w in
      let n = numbered s xs t y in
      let p = (turn (held_children h) (enumerate_source s) (begins _ h) (map (λ p. p.1) xs) (enumerate_source t) n.taken y'.0).1 in
      let here : place ≡ length xs = omega (arith, n.count, y'.1, ap enumerate_count b, z) in
      record { here = here; below = omega (arith, p.left, length-map xs (λ p. p.1), (few_fields h e).1) }

  -- and in the end the heads are the fields
  pub taken_made : {heads : List ℕ} {count : ℕ} → rest (enumerate_source t) ≡ [] → take (length xs) heads ≡ map (λ p. p.1) xs → length heads ≡ 64 → count ≡ count_at rs i → Made rs ns i heads count
  taken_made {heads} {count} none f long n =
      let ys : List ℕ = map (λ p. p.1) xs in
      let taken = (numbered s xs t y).taken in
      fields_made i o w e n (omega (arith, n, (few_fields (held_at o i w) e).0, (few_fields (held_at o i w) e).1, long)) (λ x h.
      let m : many (children_of x) ≡ length xs = sym (ended (held_children h) (enumerate_source s) (begins x h) ys (enumerate_source t) taken none) ∙ length-map xs (λ p. p.1) in
      ap (λ c. take c heads) m ∙ f ∙ sym (append-nil ys) ∙ ap (λ l. ys ++ l) (sym none) ∙ sym (yielded (enumerate_source s) ys (enumerate_source t) taken) ∙ begins x h)

-- one more head
pub heads_more : (heads : List ℕ) (xs : List (ℕ × ℕ)) {place : ℕ} (child head : ℕ) → head ≡ child → place ≡ length xs → place < length heads → take (length xs) heads ≡ map (λ p. p.1) xs
    → take (length (xs ++ ((place, child) ∷ []))) (set heads place head) ≡ map (λ p. p.1) (xs ++ ((place, child) ∷ []))
heads_more heads xs {place} child head v e l h =
    ap (λ n. take n (set heads place head)) (length-append xs ((place, child) ∷ []) ∙ ap (λ n. n + 1) (sym e)) ∙ take_more_set heads place head l ∙ ap (λ n. take n heads ++ (head ∷ [])) e ∙ ap (λ ys. ys ++ (head ∷ [])) h
    ∙ ap (λ x. map (λ p. p.1) xs ++ (x ∷ [])) v ∙ sym (map-append (λ p. p.1) xs ((place, child) ∷ []))

-- the records in a row
pub between_next : (p : ℕ) → between 0 (p + 1) ≡ between 0 p ++ (p ∷ [])
between_next p = let e : 0 + p ≡ p = omega arith in between_more 0 p 1 ∙ rw e refl

pub row_more : (heads : List ℕ) (place head : ℕ) → head ≡ place → place < length heads → take place heads ≡ between 0 place → take (place + 1) (set heads place head) ≡ between 0 (place + 1)
row_more heads place head v l h = take_more_set heads place head l ∙ ap (λ ys. ys ++ (head ∷ [])) h ∙ ap (λ x. between 0 place ++ (x ∷ [])) v ∙ sym (between_next place)

pub row_read : {rs ns : List ℕ} (heads : List ℕ) {count : ℕ} → take count heads ≡ between 0 count → count ≤ length heads → count ≡ record_count rs → ((i : ℕ) → i < record_count rs → start_at rs i + size_at rs i ≤ length ns) → (q : ℕ) → q < count → Readable rs ns (get_or heads q 0)
row_read {rs} {ns} heads {count} h long e inside = read_from heads count long (λ q d l.
    let few : q < count = omega (arith, length-take-le count heads long) in
    let k : get_or (take count heads) q d ≡ q = ap (λ x. get_or x q d) h ∙ between-at 0 count q d few ∙ omega arith in
    rw k (record { within = omega arith; inside = inside q (omega arith) }))

-- a scan has as many names as it counts
pub names_long : (s : Scan) → length (scan_names s) ≡ s.count
names_long s = length-map (take s.count s.heads) (name_at s.records.bytes.now s.records.names.now) ∙ length-take-le s.count s.heads (omega (arith, s.few, s.long))

pub names_few : (s : Scan) → length (scan_names s) ≤ 64
names_few s = omega (arith, names_long s, s.few)
