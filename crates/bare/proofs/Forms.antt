-- The slots of accepted rows: those under a null row are hidden, and no others.
use Rattle.std.proofs.Common.{◌≡◌, ℕ, zero, suc, ◌+◌, ◌*◌, ◌/◌, ◌<◌, Bool, true, false, cond, not, ◌&&◌, ◌||◌, eqb, List, [], ◌∷◌, ◌++◌, map, length, get_or, replicate, sym, refl, ap, ◌∙◌, subst, mul-zero, zero-add, mul-suc, div-one, add-one, arith, length-append}
use mathlib.Core.Option.{Option, none, some}
use native.Mathlib.Nat.{div-eq_of_lt, add-div_left}
use lib.ListN.{length-map, length-replicate}
use Rattle.std.proofs.lemmas.List.{map-append}
use Rattle.std.proofs.lemmas.Bool.{eqb-true, not_from_true, not_from_false}
use Rattle.octets.specs.Lists.{joined}
use Rattle.slip.specs.Slips.{slip, refuse, got, then}
use Rattle.tape.specs.Layout.{the}
use Rattle.tape.specs.View.{TapeView, is_at, entries}
use Rattle.schema.specs.Tree.{Node, Fields, Field, branch, leaf, children_of, many, names}
use Rattle.schema.specs.declared.kind.Branch.{Branch}
use Rattle.schema.specs.declared.kind.Branch.TheVariants.{Struct as struct, List as list, Fixed as fixed}
use Rattle.schema.specs.declared.settings.Settings.{Settings}
use Rattle.batch.specs.Rows.{letter, listed, placed, items_at, row_at, singles}
use Rattle.batch.specs.Suited.{Counted}
use Rattle.batch.specs.Values.{Setup, hides, taken, zeros, below}
use Rattle.rows.specs.Entering.{rows_at, items_of}
use Rattle.laws.specs.Shelf.{slots_of, bare}
use Rattle.nodes.specs.Nodes.{gotten, below_of, items_in, entering, leaving}
use Rattle.nodes.proofs.Gets.{then_got, got_same}
use Rattle.bare.specs.Slots.{hidden_at, has_slot, veiled}
use Rattle.bare.proofs.Veils.{veiled_by, veiled-append, veiled_none, veiled-all}

abbrev Rows : Type 0
Rows = List (Option (List (List ℕ)))

-- a row is null where its bracket is not, and else has as many items as its branch takes
abbrev RowIs : Branch → Bool → Option (List (List ℕ)) → Type 0
RowIs b begun none = begun ≡ false
RowIs b begun (some is) = (begun ≡ true) × Counted b is

abbrev Rowed : Branch → (ℕ → Bool) → List ℕ → Rows → Type 0
Rowed b at [] [] = Unit {0}
Rowed b at [] (o ∷ os) = ⊥
Rowed b at (p ∷ ps) [] = ⊥
Rowed b at (p ∷ ps) (o ∷ os) = RowIs b (at p) o × Rowed b at ps os

module _ (s : Settings) (t : TapeView) (f : Field) (cs : Fields) where
  counted : (b : Branch) (p : ℕ) (is : List (List ℕ)) → got is ≡ items_at s t f b cs p → Counted b is
  counted struct p is e =
      let q = then_got (cond s.list_rows (listed f (many cs) p (entries t p)) (placed s t f (names cs) (entries t p) (replicate (many cs) 0))) (λ item. got (item ∷ [])) is e in
      ap length (got_same is (q.0 ∷ []) q.2)
  counted (list view wide) p is e = tt
  counted (fixed n) p is e = go (eqb (length (entries t p)) n) refl e
    where
      go : (b : Bool) → eqb (length (entries t p)) n ≡ b → got is ≡ cond b (got (singles (entries t p))) (refuse (slip 9 f.number p)) → length is ≡ n
      go true q e = ap length (got_same is (singles (entries t p)) e) ∙ length-map (entries t p) (λ x. x ∷ []) ∙ eqb-true (length (entries t p)) n q
      go false q e = absurd (let z : ◌≡◌ {A = ℕ} 0 1 = cc in omega arith)
  counted Branch.Map p is e = tt

  row_is : (b : Branch) (inForce : Bool) (p : ℕ) (o : Option (List (List ℕ))) → got o ≡ row_at s t f b cs inForce p → RowIs b (is_at t (letter s b) p) o
  row_is b inForce p o e = go (is_at t (letter s b) p) (inForce && (is_at t (the "z") p || s.lenient)) e
    where
      go : (a c : Bool) → got o ≡ cond a (then (items_at s t f b cs p) (λ is. got (some is))) (cond c (got none) (refuse (slip 5 f.number p))) → RowIs b a o
      go true c e =
          let q = then_got (items_at s t f b cs p) (λ is. got (some is)) o e in
          subst (RowIs b true) (sym (got_same o (some q.0) q.2)) (refl, counted b p q.0 (sym q.1))
      go false true e = subst (RowIs b false) (sym (got_same o none e)) refl
      go false false e = absurd (let z : ◌≡◌ {A = ℕ} 0 1 = cc in omega arith)

  rowed : (b : Branch) (inForce : Bool) (ps : List ℕ) (rows : Rows) → got rows ≡ rows_at s t f b cs inForce ps → Rowed b (is_at t (letter s b)) ps rows
  rowed b inForce [] rows e = subst (Rowed b (is_at t (letter s b)) []) (sym (got_same rows [] e)) tt
  rowed b inForce (p ∷ ps) rows e =
      let q = then_got (row_at s t f b cs inForce p) (λ x. then (rows_at s t f b cs inForce ps) (λ xs. got (x ∷ xs))) rows e in
      let r = then_got (rows_at s t f b cs inForce ps) (λ xs. got (q.0 ∷ xs)) rows q.2 in
      subst (Rowed b (is_at t (letter s b)) (p ∷ ps)) (sym (got_same rows (q.0 ∷ r.0) r.2)) (row_is b inForce p q.0 (sym q.1), rowed b inForce ps r.0 (sym r.1))

-- rows of n items each, those of a null row hidden
module _ (b : Branch) (n : ℕ) (z : List ℕ) (hidden : hides b ≡ n) (many-are : (is : List (List ℕ)) → Counted b is → length is ≡ n) (at : ℕ → Bool) where
  block_size : (p : ℕ) (o : Option (List (List ℕ))) → RowIs b (at p) o → length (taken b z o) ≡ n
  block_size p none r = length-replicate (hides b) z ∙ hidden
  block_size p (some is) r = many-are is r.1

  block : (f : ℕ → Bool) (p : ℕ) (o : Option (List (List ℕ))) → RowIs b (at p) o → ((k : ℕ) → k < n → f (0 + k) ≡ not (at p)) → veiled f 0 (taken b z o) ≡ slots_of b o
  block f p none r h =
      let size : length (replicate (hides b) z) ≡ hides b = length-replicate (hides b) z in
      veiled_none f 0 (replicate (hides b) z) (λ k l. h k (omega (arith, size, hidden)) ∙ not_from_false (at p) r) ∙ ap (λ m. replicate m none) size
  block f p (some is) r h =
      veiled-all f 0 is (λ k l. h k (omega (arith, many-are is r.1)) ∙ not_from_true (at p) r.0)

  pub blocks_size : (ps : List ℕ) (rows : Rows) → Rowed b at ps rows → length (joined (map (taken b z) rows)) ≡ n * length ps
  blocks_size [] [] r = sym (mul-zero n)
  blocks_size [] (o ∷ os) r = absurd r
  blocks_size (p ∷ ps) [] r = absurd r
  blocks_size (p ∷ ps) (o ∷ os) r =
      length-append (taken b z o) (joined (map (taken b z) os)) ∙ omega (arith, block_size p o r.0, blocks_size ps os r.1, mul-suc n (length ps))

  blocks : 0 < n → (ps : List ℕ) (rows : Rows) → Rowed b at ps rows → joined (map (slots_of b) rows) ≡ veiled (λ i. not (at (get_or ps (i / n) 0))) 0 (joined (map (taken b z) rows))
  blocks some-are [] [] r = refl
  blocks some-are [] (o ∷ os) r = absurd r
  blocks some-are (p ∷ ps) [] r = absurd r
  blocks some-are (p ∷ ps) (o ∷ os) r =
      let f = λ (i : ℕ). not (at (get_or (p ∷ ps) (i / n) 0)) in
      let g = λ (i : ℕ). not (at (get_or ps (i / n) 0)) in
      let own = taken b z o in
      let more = joined (map (taken b z) os) in
      let size = block_size p o r.0 in
      let here : veiled f 0 own ≡ slots_of b o = block f p o r.0 (λ k l. ap (λ i. not (at (get_or (p ∷ ps) i 0))) (ap (λ i. i / n) (zero-add k) ∙ div-eq_of_lt l)) in
      let there : veiled f (0 + length own) more ≡ veiled g 0 more = veiled_by f g (0 + length own) 0 more (λ k l.
      let a : 0 + length own + k ≡ n + k = omega (arith, size) in
      ap (λ i. not (at (get_or (p ∷ ps) (i / n) 0))) a ∙ ap (λ i. not (at (get_or (p ∷ ps) i 0))) (add-div_left k some-are ∙ add-one (k / n)) ∙ ap (λ i. not (at (get_or ps (i / n) 0))) (sym (zero-add k))) in
      sym (
      veiled-append f 0 own more
      ∙ ap (λ xs. xs ++ veiled f (0 + length own) more) here
      ∙ ap (λ xs. slots_of b o ++ xs) (there ∙ sym (blocks some-are ps os r.1))
      )

-- where a null row has no slots, all are shown
all_shown : (b : Branch) (z : List ℕ) → hides b ≡ 0 → (rows : Rows) → joined (map (slots_of b) rows) ≡ map some (joined (map (taken b z) rows))
all_shown b z h [] = refl
all_shown b z h (none ∷ os) =
    ap (λ n. replicate n none ++ joined (map (slots_of b) os)) h ∙ all_shown b z h os ∙ sym (ap (λ n. map some (replicate n z ++ joined (map (taken b z) os))) h)
all_shown b z h (some is ∷ os) = ap (λ r. map some is ++ r) (all_shown b z h os) ∙ sym (map-append some is (joined (map (taken b z) os)))

plain : (f : ℕ → Bool) (b : Branch) (z : List ℕ) → hides b ≡ 0 → (rows : Rows) → ((k : ℕ) → k < length (joined (map (taken b z) rows)) → f (0 + k) ≡ false)
    → joined (map (slots_of b) rows) ≡ veiled f 0 (joined (map (taken b z) rows))
plain f b z h rows none-are = all_shown b z h rows ∙ sym (veiled-all f 0 (joined (map (taken b z) rows)) none-are)

module _ (s : Settings) (t : TapeView) (f : Field) (cs : Fields) (ps : List ℕ) (rows : Rows) where
  veiled_slots : (b : Branch) → Rowed b (is_at t (letter s b)) ps rows → joined (map (slots_of b) rows) ≡ veiled (hidden_at s t (branch f b cs) ps) 0 (items_of b cs rows)
  veiled_slots struct r =
      blocks struct 1 (zeros cs) refl (λ is c. c) (is_at t (letter s struct)) (omega arith) ps rows r
      ∙ veiled_by (λ i. not (is_at t (letter s struct) (get_or ps (i / 1) 0))) (hidden_at s t (branch f struct cs) ps) 0 0 (items_of struct cs rows) (λ k l. ap (λ i. not (is_at t (letter s struct) (get_or ps i 0))) (div-one (0 + k)))
  veiled_slots (list view wide) r = plain (hidden_at s t (branch f (list view wide) cs) ps) (list view wide) (zeros cs) refl rows (λ k l. refl)
  veiled_slots (fixed zero) r =
      let size = blocks_size (fixed 0) 0 (zeros cs) refl (λ is c. c) (is_at t (letter s (fixed 0))) ps rows r in
      plain (hidden_at s t (branch f (fixed 0) cs) ps) (fixed 0) (zeros cs) refl rows (λ k l. absurd (omega (arith, size)))
  veiled_slots (fixed (suc n)) r = blocks (fixed (suc n)) (suc n) (zeros cs) refl (λ is c. c) (is_at t (letter s (fixed (suc n)))) (omega arith) ps rows r
  veiled_slots Branch.Map r = plain (hidden_at s t (branch f Branch.Map cs) ps) Branch.Map (zeros cs) refl rows (λ k l. refl)

  has_slots : (b : Branch) → Rowed b (is_at t (letter s b)) ps rows → (i : ℕ) → i < length (items_of b cs rows) → has_slot (branch f b cs) (length ps) i
  has_slots struct r i l = let size = blocks_size struct 1 (zeros cs) refl (λ is c. c) (is_at t (letter s struct)) ps rows r in omega (arith, size)
  has_slots (list view wide) r i l = tt
  has_slots (fixed n) r i l = let size = blocks_size (fixed n) n (zeros cs) refl (λ is c. c) (is_at t (letter s (fixed n))) ps rows r in omega (arith, size)
  has_slots Branch.Map r i l = tt

-- what is tested in leaving a node whose rows were accepted
module _ (st : Setup) (t : TapeView) (inForce : Bool) (ps : List ℕ) (free left top next : ℕ) where
  pub leaving-veiled : (T : Node) → got next ≡ entering st t free left T inForce ps top
      → bare st t (children_of T) (below_of T inForce) (veiled (hidden_at st.settings t T ps) 0 (items_in st t T inForce ps)) ≡ leaving st t T inForce ps
  leaving-veiled (branch f b cs) e =
      let q = then_got (rows_at st.settings t f b cs inForce ps) _ next e in
      let r = rowed st.settings t f cs b inForce ps q.0 (sym q.1) in
      let g : gotten (rows_at st.settings t f b cs inForce ps) ≡ q.0 = ap gotten q.1 in
      ap (λ rows. bare st t cs (below b inForce) (veiled (hidden_at st.settings t (branch f b cs) ps) 0 (items_of b cs rows))) g
      ∙ ap (bare st t cs (below b inForce)) (sym (veiled_slots st.settings t f cs ps q.0 b r))
      ∙ ap (λ rows. bare st t cs (below b inForce) (joined (map (slots_of b) rows))) (sym g)
  leaving-veiled (leaf f k) e = refl

  pub leaving_slots : (T : Node) → got next ≡ entering st t free left T inForce ps top
      → (i : ℕ) → i < length (items_in st t T inForce ps) → has_slot T (length ps) i
  leaving_slots (branch f b cs) e i l =
      let q = then_got (rows_at st.settings t f b cs inForce ps) _ next e in
      let r = rowed st.settings t f cs b inForce ps q.0 (sym q.1) in
      let g : gotten (rows_at st.settings t f b cs inForce ps) ≡ q.0 = ap gotten q.1 in
      has_slots st.settings t f cs ps q.0 b r i (subst (λ rows. i < length (items_of b cs rows)) g l)
  leaving_slots (leaf f k) e i l = tt
