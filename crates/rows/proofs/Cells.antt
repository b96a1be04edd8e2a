-- Positions written into a work list.
use Rattle.std.proofs.Common.{◌≡◌, ℕ, zero, suc, ◌+◌, ◌-◌, ◌*◌, ◌/◌, ◌%◌, ◌<◌, ◌≤◌, true, ◌≢◌, List, [], ◌∷◌, ◌++◌, map, length, get_or, drop, set, replicate, sym, refl, ap, ◌∙◌, inl, inr, ⊎_elim, mul-le-mul_right, mod-lt, div-lt_iff_lt-mul, add-mul, div-add-mod', zero-mul, arith, rules}
use Rattle.std.proofs.lemmas.List.{places, same_lists, get_or-take, get_or-set_same, get_or-set_other, get_or_append_left, get_or-append_right, get_or_push, length-append, length-map, get_or-map, get_or_default, get_or-drop, length-set}
use Rattle.std.proofs.lemmas.Bool.{cases_lt, cases_eq, cases_order}
use Rattle.octets.specs.Lists.{part}
use Rattle.tape.specs.Ahead.{by_twos}
use Rattle.tape.specs.View.{TapeView, is_position}
use Rattle.batch.specs.Rows.{singles, pairs}
use Rattle.rows.specs.Entering.{child_at}
use Rattle.rows.specs.Filling.{cell, Filled, Positions, Spread}

-- products
pub further : (s i j : ℕ) → i < j → i * s + s ≤ j * s
further s i j h = omega (arith, mul-le-mul_right s (let l : i + 1 ≤ j = omega arith in l), add-mul i 1 s, zero-mul s)

pub one_place : (s k m i j : ℕ) → i < s → j < s → k * s + i ≡ m * s + j → k ≡ m
one_place s k m i j h l e =
    elim (cases_order k m) [
      | inl q ↦ q
      | inr (inl q) ↦ absurd (omega (arith, further s k m q))
      | inr (inr q) ↦ absurd (omega (arith, further s m k q))
    ]

pub inside : (s k n i : ℕ) → k < n → i < s → k * s + i < n * s
inside s k n i h l = omega (arith, further s k n h)

-- at even distances
module _ (place step : ℕ) (xs A B : List ℕ) (n x : ℕ) where
  pub spread_more : n ≡ length xs → Spread place step xs A B → 0 < step → place + n * step < length B → Spread place step (xs ++ (x ∷ [])) A (set B (place + n * step) x)
  spread_more m w apart room =
      record {
        put = λ i l. ⊎_elim
            (λ q. let other : place + i * step ≢ place + n * step = λ y. omega (arith, further step i n q) in
            get_or-set_other B (place + n * step) (place + i * step) x 0 other ∙ w.put i (omega (arith, m)) ∙ sym (get_or_append_left xs (x ∷ []) 0 i (omega (arith, m))))
            (λ q. let e : i ≡ n = omega (arith, m, length-append xs (x ∷ [])) in
            ap (λ a. get_or (set B (place + n * step) x) (place + a * step) 0) e ∙ get_or-set_same B (place + n * step) x 0 room ∙ sym (get_or_push xs x 0 i (omega (arith, m))))
            (cases_lt i n);
        kept = λ q no.
            get_or-set_other B (place + n * step) q x 0 (no n (omega (arith, m, length-append xs (x ∷ [])))) ∙ w.kept q (λ i l. no i (omega (arith, length-append xs (x ∷ []))));
      }

pub spread_none : (place step : ℕ) (A : List ℕ) → Spread place step [] A A
spread_none place step A = record { put = λ j h. absurd (omega arith); kept = λ q no. refl }

-- slots of the one child
first_cell : (w : List ℕ) (stride i : ℕ) → cell w stride 0 i ≡ get_or w i 0
first_cell w stride i = ap (λ n. get_or w n 0) (omega (arith, zero-mul stride))

pub spread_singles : (stride at : ℕ) (es A B : List ℕ) → Spread at 1 es A B → Filled 1 stride at (singles es) A B
spread_singles stride at es A B w =
    record {
      kept = λ k i h l. let z : k ≡ 0 = omega arith in
          ap (λ m. cell B stride m i) z ∙ first_cell B stride i ∙ w.kept i (λ j _ e. omega arith) ∙ sym (first_cell A stride i) ∙ ap (λ m. cell A stride m i) (sym z);
      put = λ k i h l. let z : k ≡ 0 = omega arith in
          let m : i < length es = omega (arith, length-map es (λ e. e ∷ [])) in
          ap (λ m. cell B stride m (at + i)) z ∙ first_cell B stride (at + i) ∙ ap (λ n. get_or B n 0) (let q : at + i ≡ at + i * 1 = omega arith in q) ∙ w.put i m
          ∙ sym (ap (λ a. get_or a k 0) (get_or-map (λ e. e ∷ []) es i 0 [] m) ∙ ap (λ a. get_or (get_or es i 0 ∷ []) a 0) z);
    }

pub singles-zeros : (n : ℕ) → singles (replicate n 0) ≡ replicate n (0 ∷ [])
singles-zeros zero = refl
singles-zeros (suc n) = ap (λ r. (0 ∷ []) ∷ r) (singles-zeros n)

-- one slot of every child
pub spread_item : (kids stride at : ℕ) (xs A B : List ℕ) → Spread at stride xs A B → at < stride → length xs ≡ kids → Filled kids stride at (xs ∷ []) A B
spread_item kids stride at xs A B w room n =
    record {
      kept = λ k i h l. w.kept (k * stride + i) (λ j _ e.
          let same : k ≡ j = one_place stride k j i at (omega arith) room (omega arith) in
          omega (arith, ap (λ m. m * stride) same));
      put = λ k i h l. let z : i ≡ 0 = omega arith in
          ap (λ q. get_or B q 0) (let q : k * stride + (at + i) ≡ at + k * stride = omega arith in q) ∙ w.put k (omega arith)
          ∙ ap (λ a. get_or (get_or (xs ∷ []) a []) k 0) (sym z);
    }

-- rows one after another
pub filled_none : (kids stride at : ℕ) (A : List ℕ) → Filled kids stride at [] A A
filled_none kids stride at A = record { kept = λ k i h l. refl; put = λ k i h l. absurd (omega arith) }

module _ (kids stride : ℕ) (done items : List (List ℕ)) (A B C : List ℕ) where
  pub filled_more : Filled kids stride 0 done A B → Filled kids stride (length done) items B C → Filled kids stride 0 (done ++ items) A C
  filled_more v w =
      record {
        kept = λ k i h l. absurd (omega arith);
        put = λ k i h l. ⊎_elim
            (λ q.
            ap (λ n. cell C stride k n) (let z : 0 + i ≡ i = omega arith in z) ∙ w.kept k i h q ∙ ap (λ n. cell B stride k n) (let z : i ≡ 0 + i = omega arith in z) ∙ v.put k i h q
            ∙ ap (λ a. get_or a k 0) (sym (get_or_append_left done items [] i q)))
            (λ q.
            let m = i - length done in
            ap (λ n. cell C stride k n) (let z : 0 + i ≡ length done + m = omega arith in z) ∙ w.put k m h (omega (arith, length-append done items))
            ∙ ap (λ a. get_or a k 0) (sym (get_or-append_right done items (length done) i [] refl q)))
            (cases_lt i (length done));
      }

module _ (kids stride : ℕ) (items : List (List ℕ)) (A C : List ℕ) (w : Filled kids stride 0 items A C) (n : length items ≡ stride) where
  from_first : (k i : ℕ) → k < kids → i < stride → cell C stride k i ≡ get_or (get_or items i []) k 0
  from_first k i h l = ap (λ m. cell C stride k m) (let z : i ≡ 0 + i = omega arith in z) ∙ w.put k i h (omega arith)

  pub filled-part : kids * stride ≤ length C → (k : ℕ) → k < kids → part C (k * stride) stride ≡ child_at k items
  filled-part room k h =
      let f = further stride k kids h in
      let len : length (part C (k * stride) stride) ≡ stride = search (rules, places) in
      same_lists _ _ (len ∙ sym (length-map items (λ i. get_or i k 0) ∙ n)) (λ i d l.
      get_or-take stride (drop (k * stride) C) i d (omega arith) ∙ get_or-drop (k * stride) C i d
      ∙ get_or_default C (k * stride + i) d 0 (omega arith) ∙ from_first k i h (omega arith)
      ∙ sym (get_or-map (λ x. get_or x k 0) items i [] d (omega arith)))

  pub filled_positions : (t : TapeView) → Positions t items → (q : ℕ) → q < kids * stride → is_position t (get_or C q 0) ≡ true
  filled_positions t ps q h =
      ⊎_elim
      (λ z. absurd (omega (arith, ap (λ s. kids * s) z)))
      (λ some.
      let pos : 0 < stride = omega arith in
      let k = q / stride in
      let i = q % stride in
      let l : i < stride = mod-lt q pos in
      let e : q ≡ k * stride + i = sym (div-add-mod' q stride) in
      ap (λ a. is_position t (get_or C a 0)) e ∙ ap (is_position t) (from_first k i ((div-lt_iff_lt-mul pos).1 h) l) ∙ ps i k)
      (cases_eq stride 0)

-- a name and its value, as an item for two children
abbrev pub both : ℕ × ℕ → List ℕ
both x = x.0 ∷ (x.1 ∷ [])

pub pairs-both : (es : List ℕ) → pairs es ≡ map both (by_twos es)
pairs-both [] = refl
pairs-both (k ∷ []) = refl
pairs-both (k ∷ (v ∷ rest)) = ap (λ r. (k ∷ (v ∷ [])) ∷ r) (pairs-both rest)

-- two children
module _ (stride at : ℕ) (xs : List (List ℕ)) (A B : List ℕ) (n x y : ℕ) where
  abbrev put_both : List ℕ
  put_both = set (set B (at + n) x) (stride + at + n) y

  -- cells that neither write touches
  untouched : (k i : ℕ) → k < 2 → i < at + n → at + n < stride → cell put_both stride k i ≡ cell B stride k i
  untouched k i h l room =
      let a : k * stride + i ≢ stride + at + n = λ e. ⊎_elim (λ z. omega (arith, ap (λ m. m * stride) z)) (λ z. omega (arith, ap (λ m. m * stride) (let o : k ≡ 1 = omega arith in o))) (cases_eq k 0) in
      let b : k * stride + i ≢ at + n = λ e. ⊎_elim (λ z. omega (arith, ap (λ m. m * stride) z)) (λ z. omega (arith, ap (λ m. m * stride) (let o : k ≡ 1 = omega arith in o))) (cases_eq k 0) in
      get_or-set_other (set B (at + n) x) (stride + at + n) (k * stride + i) y 0 a ∙ get_or-set_other B (at + n) (k * stride + i) x 0 b

  both_there : at + n < stride → 2 * stride ≤ length B → (k : ℕ) → k < 2 → cell put_both stride k (at + n) ≡ get_or (x ∷ (y ∷ [])) k 0
  both_there room lent k h =
      ⊎_elim
      (λ z.
      let p : k * stride + (at + n) ≡ at + n = omega (arith, ap (λ m. m * stride) z) in
      ap (λ q. get_or put_both q 0) p ∙ get_or-set_other (set B (at + n) x) (stride + at + n) (at + n) y 0 (λ e. omega arith) ∙ get_or-set_same B (at + n) x 0 (omega arith) ∙ ap (λ m. get_or (x ∷ (y ∷ [])) m 0) (sym z))
      (λ z.
      let o : k ≡ 1 = omega arith in
      let p : k * stride + (at + n) ≡ stride + at + n = omega (arith, ap (λ m. m * stride) o) in
      ap (λ q. get_or put_both q 0) p ∙ get_or-set_same (set B (at + n) x) (stride + at + n) y 0 (omega (arith, length-set B (at + n) x)) ∙ ap (λ m. get_or (x ∷ (y ∷ [])) m 0) (sym o))
      (cases_eq k 0)

  pub pair_more : n ≡ length xs → Filled 2 stride at xs A B → at + n < stride → 2 * stride ≤ length B → Filled 2 stride at (xs ++ ((x ∷ (y ∷ [])) ∷ [])) A put_both
  pair_more m w room lent =
      let item = x ∷ (y ∷ []) in
      record {
        kept = λ k i a l. untouched k i a (omega arith) room ∙ w.kept k i a l;
        put = λ k i a l. ⊎_elim
            (λ q.
            untouched k (at + i) a (omega arith) room ∙ w.put k i a (omega (arith, m))
            ∙ ap (λ z. get_or z k 0) (sym (get_or_append_left xs (item ∷ []) [] i (omega (arith, m)))))
            (λ q. let e : i ≡ n = omega (arith, m, length-append xs (item ∷ [])) in
            ap (λ i. cell put_both stride k (at + i)) e ∙ both_there room lent k a
            ∙ ap (λ z. get_or z k 0) (sym (get_or_push xs item [] i (omega (arith, m)))))
            (cases_lt i n);
      }
