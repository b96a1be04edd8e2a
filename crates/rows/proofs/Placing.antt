-- The values of a struct's row, by field.
use Rattle.std.proofs.Common.{◌≡◌, ℕ, ◌+◌, ◌*◌, ◌<◌, ◌≤◌, Bool, true, false, cond, not, List, [], ◌∷◌, length, get_or, set, replicate, Some, None, Option as Maybe, sym, refl, ap, ◌∙◌, subst, inl, inr, ⊎_elim, arith, length-set}
use mathlib.Core.Option.{some}
use lib.ListN.{length-replicate}
use Rattle.std.proofs.lemmas.List.{same_lists, get_or-map, length-map, get_or-set_same, get_or-set_other, get_or_default, set_past}
use Rattle.std.specs.Prelude.{is_some}
use Rattle.std.proofs.lemmas.Bool.{cases_eq, cases_lt, cases_order, cases_Bool, lt-ltb, le-ltb, and_parts}
use Rattle.octets.specs.Lists.{between, all}
use Rattle.octets.proofs.Pieces.{length-between, between-at}
use Rattle.slip.specs.Slips.{Slip, slip, Got, refuse, got, then, is_got}
use Rattle.tape.specs.Opens.{Untorn}
use Rattle.tape.specs.Opened.{view_of}
use Rattle.tape.specs.Ahead.{by_twos}
use Rattle.tape.specs.Layout.{the}
use Rattle.tape.specs.Walk.{InTurn}
use Rattle.tape.proofs.Walks.{object_law}
use Rattle.tape.specs.View.{TapeView, is_at, is_position, entries, words_at}
use Rattle.schema.specs.Tree.{Field, many, names}
use Rattle.schema.specs.declared.settings.Settings.{Settings}
use Rattle.names.specs.Lowest.{lowest, Lowest}
use Rattle.names.proofs.Lowests.{always_lowest}
use Rattle.batch.specs.Rows.{letter, listed, placed}
use Rattle.rows.specs.declared.Reading.{Reading}
use Rattle.rows.specs.Filling.{Spread}
use Rattle.rows.specs.Kinds.{numbered, named, row_in}
use Rattle.rows.specs.Structs.{fieldwise, item_in, column, with_value}
use Rattle.rows.proofs.Alike.{many-named, names-named}
use Rattle.rows.proofs.Cells.{further, inside}
use Rattle.rows.proofs.Sizes.{position_at, zeros_position}
use Rattle.rows.proofs.Starts.{bracket-there}
use Rattle.rows.proofs.Tallies.{then-then}

-- whether something was got
abbrev pub accepts : {A : Type 0} → Got A → Got (Unit {0})
accepts x = then x (λ _. got tt)

pub got_of : {A : Type 0} (x : Got A) → is_got x ≡ true → (a : A) × (x ≡ got a)
got_of (refuse s) e = absurd (let z : ◌≡◌ {A = ℕ} 0 1 = cc in omega arith)
got_of (got a) e = (a, refl)

pub got_through : {A B : Type 0} (x : Got A) (k : A → B) → is_got (then x (λ a. got (k a))) ≡ is_got x
got_through (refuse s) k = refl
got_through (got a) k = refl

-- a field that is found is one of them
pub lowest_within : (ns : List (List ℕ)) (s : List ℕ) (k : ℕ) → Some k ≡ lowest ns s → k < length ns
lowest_within ns s k e = (subst (Lowest ns s) (sym e) (always_lowest ns s)).0

-- a list of values
module _ (f : Field) (n p : ℕ) (es : List ℕ) where
  pub listed_extra : n < length es → listed f n p es ≡ refuse (slip 7 f.number (get_or es n 0))
  listed_extra h = rw (lt-ltb n (length es) h) refl

  pub listed_few : length es < n → listed f n p es ≡ refuse (slip 8 f.number p)
  listed_few h = rw (le-ltb n (length es) (omega arith), lt-ltb (length es) n h) refl

  pub listed-all : length es ≡ n → listed f n p es ≡ got es
  listed-all h = rw (le-ltb n (length es) (omega arith), le-ltb (length es) n (omega arith)) refl

  pub listed-count : is_got (listed f n p es) ≡ true → length es ≡ n
  listed-count g =
      ⊎_elim
      (λ h. absurd (let e = ap is_got (listed_extra h) in let z : ◌≡◌ {A = ℕ} 0 1 = cc in omega arith))
      (λ h. ⊎_elim (λ k. absurd (let e = ap is_got (listed_few k) in let z : ◌≡◌ {A = ℕ} 0 1 = cc in omega arith)) (λ k. omega arith) (cases_lt (length es) n))
      (cases_lt n (length es))

-- what was looked for is found, or it is not
pub some_found : (x : Maybe ℕ) (b : Bool) → is_some x ≡ not b → b ≡ false → (i : ℕ) × (x ≡ Some i)
some_found (Some i) b e f = (i, refl)
some_found None b e f = let z : ◌≡◌ {A = ℕ} 0 1 = ap (λ b. cond b 1 0) (e ∙ ap not f) in absurd (omega arith)

pub none_found : (x : Maybe ℕ) (b : Bool) → is_some x ≡ not b → b ≡ true → x ≡ None
none_found (Some i) b e f = let z : ◌≡◌ {A = ℕ} 0 1 = ap (λ b. cond b 0 1) (e ∙ ap not f) in absurd (omega arith)
none_found None b e f = refl

-- the elements of some pairs, and those of an object's pairs
abbrev pub elements_of : List (ℕ × ℕ) → List ℕ
elements_of [] = []
elements_of (x ∷ xs) = x.0 ∷ (x.1 ∷ elements_of xs)

elements-twos : (t : TapeView) (es : List ℕ) → InTurn t es → elements_of (by_twos es) ≡ es
elements-twos t [] w = refl
elements-twos t (k ∷ []) w = absurd w
elements-twos t (k ∷ (v ∷ es)) w = ap (λ r. k ∷ (v ∷ r)) (elements-twos t es w.1)

pub elements-pairs : (t : TapeView) (o : Untorn t) (p : ℕ) → is_position t p ≡ true → is_at t (the "{") p ≡ true → {ps : List (ℕ × ℕ)} → ps ≡ by_twos (entries t p) → elements_of ps ≡ entries t p
elements-pairs t o p h b e = ap elements_of e ∙ elements-twos t (entries t p) (object_law t o p h b).turns

-- an object's values
module _ (s : Settings) (t : TapeView) (f : Field) (ns : List (List ℕ)) where
  abbrev chosen : (k v : ℕ) (rest at : List ℕ) → Maybe ℕ → Got (List ℕ)
  chosen k v rest at x = elim x [ Some i ↦ placed s t f ns rest (set at i v) | None ↦ cond s.strict (refuse (slip 6 f.number k)) (placed s t f ns rest at) ]

  module _ (k v : ℕ) (rest at : List ℕ) where
    pub placed_some : (i : ℕ) → lowest ns (words_at t k) ≡ Some i → placed s t f ns (k ∷ (v ∷ rest)) at ≡ placed s t f ns rest (set at i v)
    placed_some i e = ap (chosen k v rest at) e

    placed_none : lowest ns (words_at t k) ≡ None → placed s t f ns (k ∷ (v ∷ rest)) at ≡ cond s.strict (refuse (slip 6 f.number k)) (placed s t f ns rest at)
    placed_none e = ap (chosen k v rest at) e

    pub placed_unknown : lowest ns (words_at t k) ≡ None → s.strict ≡ true → placed s t f ns (k ∷ (v ∷ rest)) at ≡ refuse (slip 6 f.number k)
    placed_unknown e strict = placed_none e ∙ ap (λ b. cond b (refuse (slip 6 f.number k)) (placed s t f ns rest at)) strict

    pub placed_skipped : lowest ns (words_at t k) ≡ None → is_got (placed s t f ns (k ∷ (v ∷ rest)) at) ≡ true → placed s t f ns (k ∷ (v ∷ rest)) at ≡ placed s t f ns rest at
    placed_skipped e g =
        elim (cases_Bool s.strict) [
          | inl y ↦ absurd (let q = ap is_got (placed_unknown e y) in let z : ◌≡◌ {A = ℕ} 0 1 = cc in omega arith)
          | inr y ↦ placed_none e ∙ ap (λ b. cond b (refuse (slip 6 f.number k)) (placed s t f ns rest at)) y
        ]

  -- whether names are known does not depend on the values
  pub placed_free : (es at us : List ℕ) → accepts (placed s t f ns es at) ≡ accepts (placed s t f ns es us)
  placed_free [] at us = refl
  placed_free (k ∷ []) at us = refl
  placed_free (k ∷ (v ∷ rest)) at us = go (lowest ns (words_at t k)) (λ i. placed_free rest (set at i v) (set us i v)) (placed_free rest at us)
    where
      pick : (y : Bool) → accepts (placed s t f ns rest at) ≡ accepts (placed s t f ns rest us)
          → accepts (cond y (refuse (slip 6 f.number k)) (placed s t f ns rest at)) ≡ accepts (cond y (refuse (slip 6 f.number k)) (placed s t f ns rest us))
      pick true b = refl
      pick false b = b

      go : (x : Maybe ℕ) → ((i : ℕ) → accepts (placed s t f ns rest (set at i v)) ≡ accepts (placed s t f ns rest (set us i v)))
          → accepts (placed s t f ns rest at) ≡ accepts (placed s t f ns rest us) → accepts (chosen k v rest at x) ≡ accepts (chosen k v rest us x)
      go (Some i) a b = a i
      go None a b = pick s.strict b

  -- where it is not strict every object is taken
  pub placed_lax : s.strict ≡ false → (es at : List ℕ) → got tt ≡ accepts (placed s t f ns es at)
  placed_lax lax [] at = refl
  placed_lax lax (k ∷ []) at = refl
  placed_lax lax (k ∷ (v ∷ rest)) at = go (lowest ns (words_at t k)) (λ us. placed_lax lax rest us)
    where
      go : (x : Maybe ℕ) → ((us : List ℕ) → got tt ≡ accepts (placed s t f ns rest us)) → got tt ≡ accepts (chosen k v rest at x)
      go (Some i) a = a (set at i v)
      go None a = a at ∙ ap (λ y. accepts (cond y (refuse (slip 6 f.number k)) (placed s t f ns rest at))) (sym lax)

  set_position : (xs : List ℕ) (i x m : ℕ) → is_position t (get_or xs m 0) ≡ true → is_position t x ≡ true → is_position t (get_or (set xs i x) m 0) ≡ true
  set_position xs i x m a b =
      elim (cases_eq m i) [
        | inr o ↦ ap (is_position t) (get_or-set_other xs i m x 0 o) ∙ a
        | inl e ↦ ⊎_elim
            (λ l. ap (λ q. is_position t (get_or (set xs i x) q 0)) e ∙ ap (is_position t) (get_or-set_same xs i x 0 l) ∙ b)
            (λ l. ap (λ ys. is_position t (get_or ys m 0)) (set_past xs i x l) ∙ a)
            (cases_lt i (length xs))
      ]

  -- what setting a field to a position keeps holds of what is placed
  module _ (P : List ℕ → Type 0) (more : (xs : List ℕ) (i v : ℕ) → is_position t v ≡ true → P xs → P (set xs i v)) where
    pub placed_by : (es at item : List ℕ) → all (is_position t) es ≡ true → P at → placed s t f ns es at ≡ got item → P item
    placed_by [] at item h a e = subst P (let q : at ≡ item = cc in q) a
    placed_by (k ∷ []) at item h a e = subst P (let q : at ≡ item = cc in q) a
    placed_by (k ∷ (v ∷ rest)) at item h a e =
        let hv = and_parts (is_position t v) (all (is_position t) rest) (and_parts (is_position t k) (all (is_position t) (v ∷ rest)) h).1 in
        go (lowest ns (words_at t k)) (λ us b q. placed_by rest us item hv.1 b q) (λ i. more at i v hv.0 a) e
      where
        pick : (y : Bool) → ((us : List ℕ) → P us → placed s t f ns rest us ≡ got item → P item) → cond y (refuse (slip 6 f.number k)) (placed s t f ns rest at) ≡ got item → P item
        pick true w q = absurd (let z : ◌≡◌ {A = ℕ} 0 1 = cc in omega arith)
        pick false w q = w at a q

        go : (x : Maybe ℕ) → ((us : List ℕ) → P us → placed s t f ns rest us ≡ got item → P item) → ((i : ℕ) → P (set at i v)) → chosen k v rest at x ≡ got item → P item
        go (Some i) w b q = w (set at i v) (b i) q
        go None w b q = pick s.strict w q

  pub placed_positions : (es at item : List ℕ) → all (is_position t) es ≡ true → ((k : ℕ) → is_position t (get_or at k 0) ≡ true) → placed s t f ns es at ≡ got item → (k : ℕ) → is_position t (get_or item k 0) ≡ true
  placed_positions es at item h a e = placed_by (λ xs. (k : ℕ) → is_position t (get_or xs k 0) ≡ true) (λ xs i v b c m. set_position xs i v m (c m) b) es at item h a e

  pub placed-length : (es at item : List ℕ) → all (is_position t) es ≡ true → placed s t f ns es at ≡ got item → length item ≡ length at
  placed-length es at item h e = placed_by (λ xs. length xs ≡ length at) (λ xs i v b c. length-set xs i v ∙ c) es at item h refl e

-- what stands at even distances
module _ (place step n : ℕ) where
  pub length-column : (w : List ℕ) → length (column w place step n) ≡ n
  length-column w = length-map (between 0 n) (λ k. get_or w (place + k * step) 0) ∙ length-between 0 n

  pub column-at : (w : List ℕ) (k d : ℕ) → k < n → get_or (column w place step n) k d ≡ get_or w (place + k * step) 0
  column-at w k d h =
      get_or-map (λ k. get_or w (place + k * step) 0) (between 0 n) k 0 d (omega (arith, length-between 0 n))
      ∙ ap (λ q. get_or w (place + q * step) 0) (between-at 0 n k 0 h ∙ (let z : 0 + k ≡ k = omega arith in z))

  pub column_is : (w xs : List ℕ) → length xs ≡ n → ((k : ℕ) → k < n → get_or w (place + k * step) 0 ≡ get_or xs k 0) → column w place step n ≡ xs
  column_is w xs len e =
      same_lists _ _ (length-column w ∙ sym len) (λ k d h.
      let l : k < n = omega (arith, length-column w) in
      column-at w k d l ∙ e k l ∙ get_or_default xs k 0 d (omega arith))

  pub column-set : (w : List ℕ) (i v : ℕ) → i < n → 0 < step → place + i * step < length w → column (set w (place + i * step) v) place step n ≡ set (column w place step n) i v
  column-set w i v h apart room =
      column_is (set w (place + i * step) v) (set (column w place step n) i v) (length-set (column w place step n) i v ∙ length-column w) (λ k l.
      elim (cases_eq k i) [
        | inl e ↦ (ap (λ q. get_or (set w (place + i * step) v) (place + q * step) 0) e ∙ get_or-set_same w (place + i * step) v 0 room
            ∙ sym (ap (λ q. get_or (set (column w place step n) i v) q 0) e ∙ get_or-set_same (column w place step n) i v 0 (omega (arith, length-column w))))
        | inr o ↦ (get_or-set_other w (place + i * step) (place + k * step) v 0 (λ e. ⊎_elim (λ q. o q) (⊎_elim (λ q. omega (arith, further step k i q)) (λ q. omega (arith, further step i k q))) (cases_order k i))
            ∙ sym (get_or-set_other (column w place step n) i k v 0 o ∙ column-at w k 0 l))
      ])

  -- nothing else changed
  abbrev pub Off : List ℕ → List ℕ → Type 0
  Off from to = (q : ℕ) → ((k : ℕ) → k < n → q ≡ place + k * step → ⊥) → get_or to q 0 ≡ get_or from q 0

  module _ (v : ℕ) (A B : List ℕ) where
    pub off_kept : (x : Maybe ℕ) → ((k : ℕ) → x ≡ Some k → k < n) → Off A B → Off A (with_value B place step v x)
    off_kept (Some k) h o q off = get_or-set_other B (place + k * step) q v 0 (off k (h k refl)) ∙ o q off
    off_kept None h o q off = o q off

  pub spread_column : (A Z B : List ℕ) → Spread place step (replicate n 0) A Z → Off Z B → Spread place step (column B place step n) A B
  spread_column A Z B z o = record {
    put = λ j h. sym (column-at B j 0 (omega (arith, length-column B)));
    kept = λ q no. o q (λ k h. no k (omega (arith, length-column B))) ∙ z.kept q (λ k h. no k (omega (arith, length-column B, length-replicate {A = ℕ} n 0)));
  }

  pub zero_column : (A Z : List ℕ) → Spread place step (replicate n 0) A Z → column Z place step n ≡ replicate n 0
  zero_column A Z z = column_is Z (replicate n 0) (length-replicate {A = ℕ} n 0) (λ k h. z.put k (omega (arith, length-replicate {A = ℕ} n 0)))

-- one pair more
module _ (s : Settings) (t : TapeView) (f : Field) (ns : List (List ℕ)) (place step n : ℕ) (B : List ℕ) (k v : ℕ) (rest : List ℕ) where
  pub placed-kept : n ≡ length ns → 0 < step → ((i : ℕ) → i < n → place + i * step < length B) → is_got (placed s t f ns (k ∷ (v ∷ rest)) (column B place step n)) ≡ true
      → placed s t f ns rest (column (with_value B place step v (lowest ns (words_at t k))) place step n) ≡ placed s t f ns (k ∷ (v ∷ rest)) (column B place step n)
  placed-kept m apart room g = go (lowest ns (words_at t k)) refl
    where
      go : (x : Maybe ℕ) → lowest ns (words_at t k) ≡ x → placed s t f ns rest (column (with_value B place step v x) place step n) ≡ placed s t f ns (k ∷ (v ∷ rest)) (column B place step n)
      go (Some i) e =
          let l : i < n = omega (arith, lowest_within ns (words_at t k) i (sym e)) in
          ap (placed s t f ns rest) (column-set place step n B i v l apart (room i l)) ∙ sym (placed_some s t f ns k v rest (column B place step n) i e)
      go None e = sym (placed_skipped s t f ns k v rest (column B place step n) e g)

-- the row of a struct
module _ (r : Reading) (ns : List (List ℕ)) (p : ℕ) where
  abbrev es : List ℕ
  es = entries (view_of r.rows.tape) p

  abbrev objects : Got (List ℕ)
  objects = placed r.settings (view_of r.rows.tape) (numbered r.node) ns es (replicate (length ns) 0)

  item-named : (cond r.settings.list_rows (listed (numbered r.node) (many (named ns)) p es) (placed r.settings (view_of r.rows.tape) (numbered r.node) (names (named ns)) es (replicate (many (named ns)) 0)))
      ≡ item_in r ns p
  item-named =
      ap (λ m. cond r.settings.list_rows (listed (numbered r.node) m p es) (placed r.settings (view_of r.rows.tape) (numbered r.node) (names (named ns)) es (replicate m 0))) (many-named ns)
      ∙ ap (λ us. cond r.settings.list_rows (listed (numbered r.node) (length ns) p es) (placed r.settings (view_of r.rows.tape) (numbered r.node) us es (replicate (length ns) 0))) (names-named ns)

  pub struct_there : is_at (view_of r.rows.tape) (letter r.settings fieldwise) p ≡ true → row_in r fieldwise (named ns) p ≡ then (item_in r ns p) (λ item. got (some (item ∷ [])))
  struct_there e =
      bracket-there r (named ns) p fieldwise e
      ∙ then-then _ (λ item. got (item ∷ [])) (λ is. got (some is))
      ∙ ap (λ x. then x (λ item. got (some (item ∷ [])))) item-named

  pub item-listed : r.settings.list_rows ≡ true → item_in r ns p ≡ listed (numbered r.node) (length ns) p es
  item-listed y = ap (λ b. cond b (listed (numbered r.node) (length ns) p es) objects) y

  pub item-placed : r.settings.list_rows ≡ false → item_in r ns p ≡ objects
  item-placed y = ap (λ b. cond b (listed (numbered r.node) (length ns) p es) objects) y

  pub item_count : r.settings.list_rows ≡ true → is_got (item_in r ns p) ≡ true → length es ≡ length ns
  item_count y g = listed-count (numbered r.node) (length ns) p es (ap is_got (sym (item-listed y)) ∙ g)

  pub item-entries : r.settings.list_rows ≡ true → (item : List ℕ) → item_in r ns p ≡ got item → es ≡ item
  item-entries y item e =
      let m = item_count y (ap is_got e) in
      let z = sym (listed-all (numbered r.node) (length ns) p es m) ∙ sym (item-listed y) ∙ e in
      cc

  module _ (o : Untorn (view_of r.rows.tape)) (h : all (is_position (view_of r.rows.tape)) es ≡ true) (item : List ℕ) (e : item_in r ns p ≡ got item) where
    pub item_positions : (k : ℕ) → is_position (view_of r.rows.tape) (get_or item k 0) ≡ true
    item_positions k =
        elim (cases_Bool r.settings.list_rows) [
          | inl y ↦ subst (λ xs. is_position (view_of r.rows.tape) (get_or xs k 0) ≡ true) (item-entries y item e) (position_at (view_of r.rows.tape) o es h k)
          | inr y ↦ placed_positions r.settings (view_of r.rows.tape) (numbered r.node) ns es (replicate (length ns) 0) item h (λ j. zeros_position (view_of r.rows.tape) o (length ns) j) (sym (item-placed y) ∙ e) k
        ]

    pub item-length : length item ≡ length ns
    item-length =
        elim (cases_Bool r.settings.list_rows) [
          | inl y ↦ ap length (sym (item-entries y item e)) ∙ item_count y (ap is_got e)
          | inr y ↦ placed-length r.settings (view_of r.rows.tape) (numbered r.node) ns es (replicate (length ns) 0) item h (sym (item-placed y) ∙ e) ∙ length-replicate {A = ℕ} (length ns) 0
        ]

  -- the row's one item
  module _ (begun : is_at (view_of r.rows.tape) (letter r.settings fieldwise) p ≡ true) where
    pub row-item : (item : List ℕ) → item_in r ns p ≡ got item → row_in r fieldwise (named ns) p ≡ got (some (item ∷ []))
    row-item item e = struct_there begun ∙ ap (λ x. then x (λ item. got (some (item ∷ [])))) e

    pub row_unfit : (s : Slip) → item_in r ns p ≡ refuse s → row_in r fieldwise (named ns) p ≡ refuse s
    row_unfit s e = struct_there begun ∙ ap (λ x. then x (λ item. got (some (item ∷ [])))) e

    pub accepted-item : is_got (row_in r fieldwise (named ns) p) ≡ true → is_got (item_in r ns p) ≡ true
    accepted-item g = sym (got_through (item_in r ns p) (λ item. some (item ∷ []))) ∙ ap is_got (sym (struct_there begun)) ∙ g

-- the places of the fields
pub row_room : (ns : List (List ℕ)) (fields stride at lent : ℕ) → fields ≡ length ns → at + 1 ≤ stride → many (named ns) * stride ≤ lent → (k : ℕ) → k < fields → at + k * stride < lent
row_room ns fields stride at lent count room all k h = omega (arith, inside stride k fields at h (let l : at < stride = omega arith in l), ap (λ m. m * stride) (count ∙ sym (many-named ns)))
