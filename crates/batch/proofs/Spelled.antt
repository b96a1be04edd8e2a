-- The texts of an opened tape, and of what the text leaf makes of it, are UTF-8; so are the texts of a batch.
use Rattle.std.proofs.Common.{◌≡◌, ℕ, zero, suc, ◌+◌, ◌*◌, ◌/◌, ◌%◌, ◌^◌, ◌<◌, Bool, true, false, cond, ◌||◌, eqb, ◌⊎◌, List, [], ◌∷◌, ◌++◌, map, length, get_or, drop, ℤ, pos, negsuc, codes, IsUtf8, IsAscii, decimal, sym, refl, ap, ◌∙◌, subst, inl, inr, arith, length-drop, length-take}
use mathlib.Core.Option.{Option, none, some}
use lib.ListN.{get_or-eq_default}
use Rattle.std.specs.Fmt.{signed_decimal, digits_onto, digit_glyph, digits}
use Rattle.std.specs.List.{AllByRecursion}
use Rattle.std.proofs.lemmas.Str.{IsUtf8-from_ascii}
use Rattle.std.proofs.lemmas.Bool.{lt-ltb, cond-true, eqb-true, cases_lt}
use Rattle.std.proofs.ByRecursion.{All-map, All-weaker, All-get_or}
use Rattle.octets.specs.Lists.{joined, via, first, rest}
use Rattle.schema.specs.Tree.{Node, Fields, branch, leaf, ◌⊕◌, field_of, nodes, nodes_in, WellFormed}
use Rattle.schema.specs.declared.kind.LeafKind.{LeafKind}
use Rattle.tape.specs.Layout.{the, letter_at, number_at, element_count}
use Rattle.tape.specs.Opens.{Untorn}
use Rattle.tape.specs.View.{TapeView, Elem, object, list, string, number, i64, i32, bool, null, is_at, words_at, element_at, twos}
use Rattle.tape.proofs.Walks.{text_law}
use Rattle.leaf.specs.Bytes.{Valued}
use Rattle.leaf.specs.Meaning.{Answer, nothing, conflict, misfit, value, forgiven, lenient, written, coerce, when, of_text, text_leaf, shown}
use Rattle.slip.specs.Slips.{accepted}
use Rattle.batch.specs.Rows.{row_at}
use Rattle.batch.specs.Values.{Setup, Value, Item, meaning, taken, below}
use Rattle.batch.specs.Suited.{Present, Lettered, Worded, WordedItem, Sized, SizedItem, Counted}
use Rattle.batch.specs.Format.{text_width, leaf_in, Spelled, SpelledIn}
use Rattle.batch.specs.Batch.{hidden, hidden_item, columns, columns_in, leaf_column, word_in, column_in, bytes_of}
use Rattle.batch.specs.Laws.{BatchesSpelled, TapesWorded}
use Rattle.batch.proofs.Worth.{worth, worth_item, value_worth}
use Rattle.batch.proofs.Sized.{shown_of, leaf_value, all_mapped, hidden_sized_item}
use Rattle.batch.proofs.Records.{AllStored, stored_append}
use Rattle.batch.proofs.Columns.{leaf_slots, length-columns}
use Rattle.batch.proofs.Slots.{leaf_is}
use Rattle.batch.proofs.Back.{all-taken, all_present, stands, stands_in}
use Rattle.batch.proofs.Whole.{stored, at_root}

-- decimals are ASCII
digit_below : (n : ℕ) → digit_glyph false (n % 10) < 128
digit_below n =
    let small : n % 10 < 10 = omega arith in
    let is = cond-true _ (48 + n % 10) (87 + n % 10) (lt-ltb (n % 10) 10 small) in
    omega arith

ascii_more : (b : ℕ) (bs : List ℕ) → b < 128 → IsAscii bs → IsAscii (b ∷ bs)
ascii_more b bs h p zero = h
ascii_more b bs h p (suc i) = p i

ascii_none : IsAscii []
ascii_none zero = omega arith
ascii_none (suc i) = omega arith

spelled_ascii : (k n : ℕ) (acc : List ℕ) → IsAscii acc → IsAscii (digits_onto k 10 false n acc)
spelled_ascii zero n acc p = p
spelled_ascii (suc k) n acc p =
    let q = ascii_more (digit_glyph false (n % 10)) acc (digit_below n) p in
    go (eqb (n / 10) 0) q (spelled_ascii k (n / 10) (digit_glyph false (n % 10) ∷ acc) q)
  where
    go : (b : Bool) → IsAscii (digit_glyph false (n % 10) ∷ acc) → IsAscii (digits_onto k 10 false (n / 10) (digit_glyph false (n % 10) ∷ acc))
        → IsAscii (cond b (digit_glyph false (n % 10) ∷ acc) (digits_onto k 10 false (n / 10) (digit_glyph false (n % 10) ∷ acc)))
    go true p q = p
    go false p q = q

decimal_ascii : (n : ℕ) → IsAscii (decimal n)
unfolding digits
decimal_ascii n = spelled_ascii 64 n [] ascii_none

signed_utf8 : (z : ℤ) → IsUtf8 (signed_decimal z)
signed_utf8 (pos n) = IsUtf8-from_ascii (decimal n) (decimal_ascii n)
signed_utf8 (negsuc n) = IsUtf8-from_ascii (signed_decimal (negsuc n)) (ascii_more 45 (decimal (suc n)) (omega arith) (decimal_ascii (suc n)))

all_ascii : (bs : List ℕ) → AllByRecursion (λ b. b < 128) bs → IsAscii bs
all_ascii [] p = ascii_none
all_ascii (b ∷ bs) p = ascii_more b bs p.0 (all_ascii bs p.1)

truth_utf8 : (b : Bool) → IsUtf8 (cond b (codes "true") (codes "false"))
truth_utf8 true = IsUtf8-from_ascii (codes "true") (all_ascii (codes "true") (search arith))
truth_utf8 false = IsUtf8-from_ascii (codes "false") (all_ascii (codes "false") (search arith))

-- the text of an element, if it has one, is UTF-8
abbrev Told : Elem → Type 0
Told object = Unit {0}
Told list = Unit {0}
Told (string bs) = IsUtf8 bs
Told (number bs) = IsUtf8 bs
Told (i64 z) = Unit {0}
Told (i32 z) = Unit {0}
Told (bool b) = Unit {0}
Told null = Unit {0}

-- a letter that is not 0 stands on the tape
within : (t : TapeView) → Untorn t → (p l : ℕ) → is_at t l p ≡ true → 0 < l → p < element_count t.elements
within t u p l e h = elim (cases_lt (8 * p) (length t.elements)) [
  | inl g ↦ omega (arith, u.whole_elements)
  | inr g ↦ absurd (omega (arith, eqb-true (letter_at t.elements p) l e, get_or-eq_default t.elements 0 g))
]

element_told : (t : TapeView) → Untorn t → (p : ℕ) → Told (element_at t p)
element_told t u p = go (is_at t (the "{") p) (is_at t (the "[") p) (is_at t (the "s") p) (is_at t (the "n") p) refl refl
  where
    words : (l : ℕ) → 0 < l → is_at t l p ≡ true → (is_at t (the "s") p ≡ true) ⊎ (is_at t (the "n") p ≡ true) → IsUtf8 (words_at t p)
    words l h e w = (text_law t u p (within t u p l e h) w).utf8

    rest : (j i r f : Bool) (x y : ℤ) → Told (cond j (i64 x) (cond i (i32 y) (cond r (bool true) (cond f (bool false) null))))
    rest true i r f x y = tt
    rest false true r f x y = tt
    rest false false true f x y = tt
    rest false false false true x y = tt
    rest false false false false x y = tt

    go : (a b s n : Bool) → is_at t (the "s") p ≡ s → is_at t (the "n") p ≡ n
        → Told (cond a object (cond b list (cond s (string (words_at t p)) (cond n (number (words_at t p))
        (cond (is_at t (the "j") p) (i64 (twos (2 ^ 63) (number_at t.elements p * 2 ^ 32 + number_at t.elements (p + 1))))
        (cond (is_at t (the "i") p) (i32 (twos (2 ^ 31) (number_at t.elements p))) (cond (is_at t (the "t") p) (bool true) (cond (is_at t (the "f") p) (bool false) null))))))))
    go true b s n e f = tt
    go false true s n e f = tt
    go false false true n e f = words (the "s") (omega arith) e (inl e)
    go false false false true e f = words (the "n") (omega arith) f (inr f)
    go false false false false e f = rest (is_at t (the "j") p) (is_at t (the "i") p) (is_at t (the "t") p) (is_at t (the "f") p) _ _

-- what the text pile makes of it
text_told : (e : Elem) → Told e → Valued IsUtf8 (of_text e)
text_told object h = tt
text_told list h = tt
text_told (string bs) h = h
text_told (number bs) h = tt
text_told (i64 z) h = tt
text_told (i32 z) h = tt
text_told (bool b) h = tt
text_told null h = tt

written-told : (e : Elem) → Told e → Valued IsUtf8 (written e (of_text e))
written-told object h = tt
written-told list h = tt
written-told (string bs) h = h
written-told (number bs) h = h
written-told (i64 z) h = signed_utf8 z
written-told (i32 z) h = signed_utf8 z
written-told (bool b) h = truth_utf8 b
written-told null h = tt

forgiven-told : (a : Answer) → Valued IsUtf8 a → Valued IsUtf8 (forgiven a)
forgiven-told nothing p = tt
forgiven-told conflict p = tt
forgiven-told misfit p = tt
forgiven-told (value bs) p = p

pile-told : (l c : Bool) (e : Elem) → Told e → Valued IsUtf8 ((when l lenient (when c coerce text_leaf)).answer e)
pile-told true true e h = forgiven-told (written e (of_text e)) (written-told e h)
pile-told true false e h = forgiven-told (of_text e) (text_told e h)
pile-told false true e h = written-told e h
pile-told false false e h = text_told e h

module _ (st : Setup) where
  leaf_lettered : (k : LeafKind) (e : Elem) → Told e → Lettered k (shown ((meaning st k).answer e))
  leaf_lettered (LeafKind.Text wide) e h =
      shown_of IsUtf8 ((meaning st (LeafKind.Text wide)).answer e) (pile-told st.settings.lenient st.settings.coerce e h)
  leaf_lettered LeafKind.Boolean e h = tt
  leaf_lettered LeafKind.Null e h = tt
  leaf_lettered LeafKind.Custom e h = tt

  hidden_worded : (c : Node) → Worded c (hidden st c)
  hidden_worded (branch f b cs) = tt
  hidden_worded (leaf f k) = leaf_lettered k null tt

  hidden_worded_item : (cs : Fields) → WordedItem cs (hidden_item st cs)
  hidden_worded_item Fields.none = tt
  hidden_worded_item (c ⊕ cs) = (hidden_worded c, hidden_worded_item cs)

  -- the values of a tape's positions
  module _ (t : TapeView) (u : Untorn t) where
    mutual
      pub worded : (c : Node) (force : Bool) (p : ℕ) → Worded c (worth st t c force p)
      worded (branch f b cs) force p = rows (worth_item st t cs (below b force)) (worded_item cs (below b force)) (accepted (row_at st.settings t f b cs force p))
        where
          rows : (g : List ℕ → Item cs) → ((ps : List ℕ) → WordedItem cs (g ps)) → (o : Option (List (List ℕ))) → Present (AllByRecursion (WordedItem cs)) (via (map g) o)
          rows g h none = tt
          rows g h (some is) = all_mapped (WordedItem cs) g h is
      worded (leaf f k) force p = rw (leaf_value st t f k p) (leaf_lettered k (element_at t p) (element_told t u p))

      worded_item : (cs : Fields) (force : Bool) (ps : List ℕ) → WordedItem cs (worth_item st t cs force ps)
      worded_item Fields.none force ps = tt
      worded_item (c ⊕ cs) force ps = (worded c (force || (field_of c).nullable) (first ps), worded_item cs force (rest ps))

pub tapes_worded : TapesWorded
tapes_worded st t u c force p v e = subst (Worded c) (sym (value_worth st t c force p v e)) (worded st t u c force p)

-- the texts of a batch
module _ (st : Setup) (well : WellFormed st.root) (all : List ℕ) (short : length all < 2 ^ 31) where
  mutual
    spelled_is : (c : Node) (i : ℕ) (more : List Node) → drop i (nodes st.root) ≡ nodes c ++ more → (os : List (Value c)) → AllByRecursion (Sized st c) os → AllByRecursion (Worded c) os → AllStored all i (columns st c os)
        → Spelled st (column_in all) c
    spelled_is (branch f b cs) i more e os z w s =
        let c = stands st.root well (branch f b cs) i (nodes_in cs ++ more) e in
        spelled_in cs (i + 1) more c.next (joined (map (taken b (hidden_item st cs)) os))
        (all-taken b (SizedItem st cs) (Counted b) (hidden_item st cs) (hidden_sized_item st cs) os z)
        (all_present b (WordedItem cs) (hidden_item st cs) (hidden_worded_item st cs) os w) s.1
    spelled_is (leaf f k) i more e os z w s =
        let c = stands st.root well (leaf f k) i more e in
        let l = (meaning st k).layout in
        let col = leaf_column l (text_width k) os in
        let is : column_in all f.number ≡ col = ap (column_in all) c.number ∙ s.0.is in
        let small : length col.bytes < 2 ^ 31 =
        omega (arith, ap (λ c. length c.bytes) s.0.is, length-take (word_in all i 7) (drop (word_in all i 6) all), length-drop (word_in all i 6) all) in
        λ j h.
        let g : j < length os = omega (arith, ap (λ c. c.slots) is, leaf_slots l (text_width k) os) in
        let v : leaf_in l (text_width k) (column_in all f.number) j ≡ get_or os j none = ap (λ c. leaf_in l (text_width k) c j) is ∙ leaf_is os l k z small j none g in
        subst (Lettered k) (sym v) (All-get_or (Lettered k) os j none g w)

    spelled_in : (cs : Fields) (i : ℕ) (more : List Node) → drop i (nodes st.root) ≡ nodes_in cs ++ more → (is : List (Item cs)) → AllByRecursion (SizedItem st cs) is → AllByRecursion (WordedItem cs) is → AllStored all i (columns_in st cs is)
        → SpelledIn st (column_in all) cs
    spelled_in Fields.none i more e is z w s = tt
    spelled_in (c ⊕ cs) i more e is z w s =
        let xs = map (λ i. i.0) is in
        let ys = map (λ i. i.1) is in
        let parts = stored_append all (columns st c xs) (columns_in st cs ys) i s in
        let at = stands_in st.root c cs i more e in (
          spelled_is c i (nodes_in cs ++ more) at.0 xs (All-map (Sized st c) (λ i. i.0) is (All-weaker (SizedItem st (c ⊕ cs)) (λ i. Sized st c i.0) (λ i h. h.0) is z))
              (All-map (Worded c) (λ i. i.0) is (All-weaker (WordedItem (c ⊕ cs)) (λ i. Worded c i.0) (λ i h. h.0) is w)) parts.0,
          spelled_in cs (i + length (nodes c)) more at.1 ys (All-map (SizedItem st cs) (λ i. i.1) is (All-weaker (SizedItem st (c ⊕ cs)) (λ i. SizedItem st cs i.1) (λ i h. h.1) is z))
              (All-map (WordedItem cs) (λ i. i.1) is (All-weaker (WordedItem (c ⊕ cs)) (λ i. WordedItem cs i.1) (λ i h. h.1) is w))
              (subst (λ m. AllStored all (i + m) (columns_in st cs ys)) (length-columns st c xs) parts.1),
        )

pub batches_spelled : BatchesSpelled
batches_spelled st well rows h w =
    spelled_is st well (bytes_of st rows) (omega (arith, h.short)) st.root 0 [] (at_root st.root) rows h.sized w (stored st rows h)
