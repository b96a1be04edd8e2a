-- The column of a leaf: its sizes, its parts, and what entering it leaves.
use Rattle.std.proofs.Common.{◌≡◌, ℕ, ◌+◌, ◌-◌, ◌*◌, ◌/◌, ◌^◌, ◌<◌, ◌≤◌, min, Bool, true, false, cond, eqb, ltb, List, [], ◌∷◌, ◌++◌, map, length, take, drop, replicate, Ok, sym, refl, ap, ◌∙◌, subst, ap₂, append_assoc, arith}
use mathlib.Core.Option.{Option}
use lib.ListN.{length-map, length-replicate}
use borrow.Rule.Slice.PartMut.{put_mid, post_of}
use Rattle.std.specs.List.{AllByRecursion}
use Rattle.std.proofs.lemmas.List.{nil_from_length, take_at, drop_at, drop_all, drop-replicate, take_all, take-replicate, length-drop}
use Rattle.std.proofs.lemmas.Bool.{eqb-true, ltb-false, le-ltb}
use Rattle.slip.specs.Slips.{got, then, answer_of}
use Rattle.octets.specs.Lists.{is_some, joined, or_else, running, sum}
use Rattle.octets.specs.Numbers.{numbers, packed, pad, padded}
use Rattle.octets.proofs.Pieces.{length_even, length-running}
use Rattle.octets.proofs.Packs.{length-numbers, length-packed}
use Rattle.tape.specs.View.{TapeView, Elem, element_at}
use Rattle.leaf.specs.Meaning.{Meaning, value, fitting, is_bit}
use Rattle.leaf.specs.declared.layout.Layout.{Layout}
use Rattle.leaf.specs.declared.layout.Layout.TheVariants.{None, Bit, Text, Eight}
use Rattle.batch.specs.Format.{Column}
use Rattle.batch.specs.Batch.{nulls, validity, sizes, column, leaf_column, buffers}
use Rattle.batch.proofs.Columns.{leaf_slots}
use Rattle.columns.specs.Areas.{space, written}
use Rattle.columns.specs.Entering.{answers, AllFit, LeafEntered}
use Rattle.columns.specs.Leaves.{cells, bit_of, Whole}
use Rattle.columns.specs.Plans.{Totals}
use Rattle.columns.specs.declared.plan.Plan.{Plan}
use Rattle.columns.specs.declared.scan.Seen.{Seen}
use Rattle.columns.proofs.Begins.{bit_bytes}
use Rattle.columns.proofs.Filling.{wide_cell, texts_long}
use Rattle.columns.proofs.Fronts.{bits_long, marks-all}

abbrev Cell : Type 0
Cell = Option (List ℕ)

-- values that fit
pub fit_one : (l : Layout) (bs : List ℕ) → Bit ≡ l → fitting l bs ≡ true → length bs ≡ 1
fit_one l bs is h = one bs (rw (← is) at h)
  where
    one : (bs : List ℕ) → is_bit bs ≡ true → length bs ≡ 1
    one [] e = let z : ◌≡◌ {A = ℕ} 0 1 = cc in absurd (omega arith)
    one (b ∷ []) e = refl
    one (b ∷ (c ∷ bs)) e = let z : ◌≡◌ {A = ℕ} 0 1 = cc in absurd (omega arith)

pub fit_eight : (l : Layout) (bs : List ℕ) → Eight ≡ l → fitting l bs ≡ true → length bs ≡ 8
fit_eight l bs is h = let e : eqb (length bs) 8 ≡ true = rw (← is) at h in eqb-true (length bs) 8 e

pub whole_cells : (m : Meaning) (t : TapeView) → AllFit m → (ps : List ℕ) → Whole m.layout (cells m t ps)
whole_cells m t fits ps = go m.layout (λ e bs. fits e bs) ps
  where
    eights : ((e : Elem) (bs : List ℕ) → m.answer e ≡ value bs → fitting Eight bs ≡ true) → (ps : List ℕ) → AllByRecursion (λ o. length (or_else (replicate 8 0) o) ≡ 8) (cells m t ps)
    eights f [] = tt
    eights f (p ∷ ps) = (wide_cell 8 (m.answer (element_at t p)) (λ bs e. fit_eight Eight bs refl (f (element_at t p) bs e)), eights f ps)

    go : (l : Layout) → ((e : Elem) (bs : List ℕ) → m.answer e ≡ value bs → fitting l bs ≡ true) → (ps : List ℕ) → Whole l (cells m t ps)
    go None f ps = tt
    go Bit f ps = tt
    go Text f ps = tt
    go Eight f ps = eights f ps

-- sizes
all_mapped : (os : List Cell) → AllByRecursion (λ o. length (or_else (replicate 8 0) o) ≡ 8) os → AllByRecursion (λ (xs : List ℕ). length xs ≡ 8) (map (or_else (replicate 8 0)) os)
all_mapped [] h = tt
all_mapped (o ∷ os) h = (h.0, all_mapped os h.1)

eights_long : (os : List Cell) → AllByRecursion (λ o. length (or_else (replicate 8 0) o) ≡ 8) os → length (joined (map (or_else (replicate 8 0)) os)) ≡ 8 * length os
eights_long os h = length_even 8 (map (or_else (replicate 8 0)) os) (all_mapped os h) ∙ ap (λ n. 8 * n) (length-map os (or_else (replicate 8 0)))

offsets_long : (w : ℕ) (os : List Cell) → length (numbers w (running 0 (sizes os))) ≡ w * (length os + 1)
offsets_long w os = length-numbers w (running 0 (sizes os)) ∙ ap (λ n. w * n) (length-running 0 (sizes os) ∙ ap (λ n. n + 1) (length-map os _))

bits_of : (f : Cell → Bool) (os : List Cell) → length (packed (map f os)) ≡ (length os + 7) / 8
bits_of f os = length-packed (map f os) ∙ ap (λ n. (n + 7) / 8) (length-map os f)

valid_long : (os : List Cell) (slots n : ℕ) → length os ≡ slots → nulls os ≡ n → length (validity os) ≡ bit_bytes slots n
valid_long os slots n e f = ap length (sym (marks-all slots n os e f)) ∙ bits_long slots n os (omega arith)

-- the plan with bits, by layout
abbrev pub marked_plan : (slots nulls offsets size : ℕ) → Plan
marked_plan s n o d = record { slots = s; nulls = n; validity = bit_bytes s n; offsets = o; data_size = d }

module _ (l : Layout) (w slots : ℕ) (seen : Seen) (p : Plan) (few : slots ≤ 2 ^ 24) where
  abbrev Right : Layout → List Cell → Type 0
  Right k os =
      length os ≡ slots → nulls os ≡ seen.nulls → seen.bytes ≡ min (sum (sizes os)) 18446744073709551615 → Whole k os → Totals p (leaf_column k w os)

  totals : (os : List Cell) (o b : List ℕ) → length os ≡ slots → nulls os ≡ seen.nulls → (n d : ℕ) → p ≡ marked_plan slots seen.nulls n d → n ≡ length o → d ≡ min (length b) 18446744073709551615
      → Totals p (column os o b)
  totals os o b e f n d is en ed =
      record {
        slots = ap (λ q. q.slots) is ∙ sym e;
        nulls = ap (λ q. q.nulls) is ∙ sym f;
        validity = ap (λ q. q.validity) is ∙ sym (valid_long os slots seen.nulls e f);
        offsets = ap (λ q. q.offsets) is ∙ en;
        data_size = ap (λ q. q.data_size) is ∙ ed;
      }

  pub bit_totals : l ≡ Bit → p ≡ marked_plan slots seen.nulls 0 ((slots + 7) / 8) → (os : List Cell) → Right l os
  bit_totals k is os =
      subst (λ k. Right k os) (sym k) (λ e f b whole. totals os [] (packed (map (bit_of false) os)) e f 0 ((slots + 7) / 8) is refl (omega (arith, bits_of (bit_of false) os)))

  pub text_totals : l ≡ Text → (width : ℕ) → width ≡ w → p ≡ marked_plan slots seen.nulls (width * (slots + 1)) seen.bytes → (os : List Cell) → Right l os
  text_totals k width same is os =
      subst (λ k. Right k os) (sym k)
      (λ e f b whole.
      totals os (numbers w (running 0 (sizes os))) (joined (map (or_else []) os)) e f (width * (slots + 1)) seen.bytes is
      (ap₂ (λ a c. a * (c + 1)) same (sym e) ∙ sym (offsets_long w os)) (b ∙ ap (λ n. min n 18446744073709551615) (sym (texts_long os))))

  pub eight_totals : l ≡ Eight → p ≡ marked_plan slots seen.nulls 0 (8 * slots) → (os : List Cell) → Right l os
  eight_totals k is os =
      subst (λ k. Right k os) (sym k) (λ e f b whole. totals os [] (joined (map (or_else (replicate 8 0)) os)) e f 0 (8 * slots) is refl (omega (arith, eights_long os whole)))

-- a plan of a leaf has as many slots as there are rows, and no more nulls
pub plan_few : (l : Layout) (w : ℕ) (os : List Cell) (p : Plan) (n : ℕ) → Totals p (leaf_column l w os) → length os ≡ n → (p.slots ≡ n) × (p.nulls ≤ n)
plan_few l w os p n t e = let s = leaf_slots l w os in (t.slots ∙ s.0 ∙ e, omega (arith, t.nulls, s.1))

-- what the values take of what is blank
pub blank_bit : (l : Layout) (w : ℕ) (os : List Cell) (n place : ℕ) (out : List ℕ) → Bit ≡ l → length os ≡ n
    → place ≡ padded (length (leaf_column l w os).offsets) → out ≡ replicate (place + padded (length (leaf_column l w os).bytes)) 0 → out ≡ replicate (padded ((n + 7) / 8)) 0
blank_bit l w os n place out is e p z =
    let q : place ≡ 0 = rw (← is) at p in
    let s : length (leaf_column l w os).bytes ≡ (n + 7) / 8 = rw (← is) (bits_of (bit_of false) os ∙ ap (λ k. (k + 7) / 8) e) in
    z ∙ ap₂ (λ a b. replicate (a + padded b) 0) q s ∙ ap (λ k. replicate k 0) (omega arith)

pub blank_text : (l : Layout) (w : ℕ) (os : List Cell) (n place : ℕ) (out : List ℕ) → Text ≡ l → length os ≡ n
    → place ≡ padded (length (leaf_column l w os).offsets) → out ≡ replicate (place + padded (length (leaf_column l w os).bytes)) 0
    → (place ≡ padded (w * (n + 1))) × (out ≡ replicate (place + padded (sum (sizes os))) 0)
blank_text l w os n place out is e p z =
    let o : length (leaf_column l w os).offsets ≡ w * (n + 1) = rw (← is) (offsets_long w os ∙ ap (λ k. w * (k + 1)) e) in
    let s : length (leaf_column l w os).bytes ≡ sum (sizes os) = rw (← is) (texts_long os) in
    (p ∙ ap padded o, z ∙ ap (λ b. replicate (place + padded b) 0) s)

pub blank_eight : (l : Layout) (w : ℕ) (os : List Cell) (n place : ℕ) (out : List ℕ) → Eight ≡ l → length os ≡ n → Whole l os
    → place ≡ padded (length (leaf_column l w os).offsets) → out ≡ replicate (place + padded (length (leaf_column l w os).bytes)) 0 → out ≡ replicate (8 * n) 0
blank_eight l w os n place out is e whole p z =
    let h : Whole Eight os = rw (← is) at whole in
    let q : place ≡ 0 = rw (← is) at p in
    let s : length (leaf_column l w os).bytes ≡ 8 * n = rw (← is) (eights_long os h ∙ ap (λ k. 8 * k) e) in
    z ∙ ap₂ (λ a b. replicate (a + padded b) 0) q s ∙ ap (λ k. replicate k 0) (omega arith)

-- the bits, where there are any
bits_or : (e : Bool) (P : List ℕ) (v : ℕ) → v ≡ length (cond e [] P) → cond (ltb 0 v) (pad P) [] ≡ pad (cond e [] P)
bits_or true P v h = ap (λ b. cond b (pad P) []) (le-ltb 0 v (omega arith))
bits_or false P v h = go (ltb 0 v) refl
  where
    go : (b : Bool) → ltb 0 v ≡ b → cond b (pad P) [] ≡ pad P
    go true e = refl
    go false e = let empty : P ≡ [] = nil_from_length P (omega (arith, ltb-false 0 v e)) in rw empty

pub valid_is : (l : Layout) (w : ℕ) (os : List Cell) (v : ℕ) → v ≡ length (leaf_column l w os).validity → cond (ltb 0 v) (pad (packed (map is_some os))) [] ≡ pad (leaf_column l w os).validity
valid_is None w os v e = bits_or true (packed (map is_some os)) v e
valid_is Bit w os v e = bits_or (eqb (nulls os) 0) (packed (map is_some os)) v e
valid_is Text w os v e = bits_or (eqb (nulls os) 0) (packed (map is_some os)) v e
valid_is Eight w os v e = bits_or (eqb (nulls os) 0) (packed (map is_some os)) v e

bits_whole : (e : Bool) (os : List Cell) (v : ℕ) → v ≡ length (cond e [] (packed (map is_some os))) → 0 < v → v ≡ (length os + 7) / 8
bits_whole true os v h p = absurd (omega arith)
bits_whole false os v h p = h ∙ bits_of is_some os

pub valid_whole : (l : Layout) (w : ℕ) (os : List Cell) (v : ℕ) → v ≡ length (leaf_column l w os).validity → 0 < v → v ≡ (length os + 7) / 8
valid_whole None w os v e p = bits_whole true os v e p
valid_whole Bit w os v e p = bits_whole (eqb (nulls os) 0) os v e p
valid_whole Text w os v e p = bits_whole (eqb (nulls os) 0) os v e p
valid_whole Eight w os v e p = bits_whole (eqb (nulls os) 0) os v e p

-- a blank slice in two
pub blank_front : (out : List ℕ) (n place k : ℕ) → out ≡ replicate n 0 → place ≤ n → k ≡ place → take (place - 0) out ≡ replicate k 0
blank_front out n place k e h f =
    ap (λ t. take (place - 0) t) e ∙ ap (λ i. take i (replicate n 0)) (omega arith) ∙ take-replicate place n 0 h ∙ ap (λ i. replicate i 0) (sym f)

pub blank_back : (X out : List ℕ) (place n m : ℕ) → length X ≡ place → out ≡ replicate n 0 → n ≡ place + m
    → take (length out - place) (drop place (X ++ post_of 0 (place - 0) out)) ≡ replicate m 0
blank_back X out place n m x e f =
    let R : List ℕ = post_of 0 (place - 0) out in
    let r : R ≡ replicate m 0 = ap (λ t. drop (place - 0) t) e ∙ drop-replicate (place - 0) n 0 ∙ ap (λ k. replicate k 0) (omega arith) in
    let long : length out ≡ n = ap length e ∙ length-replicate n 0 in
    ap (take (length out - place)) (drop_at X R place x ∙ r) ∙ take_all (length out - place) (replicate m 0) (omega (arith, length-replicate {A = ℕ} m 0))

pub both_parts : (c : Column) (out X Y : List ℕ) (place k : ℕ) → X ≡ pad c.validity → Y ≡ pad c.offsets ++ pad c.bytes → length X ≡ place → length out ≡ place + k
    → put_mid place k (X ++ post_of 0 (place - 0) out) Y ≡ buffers (c ∷ [])
both_parts c out X Y place k x y lx long =
    let R : List ℕ = post_of 0 (place - 0) out in
    let r : length R ≡ k = length-drop (place - 0) out ∙ omega arith in
    let rest : drop k (drop place (X ++ R)) ≡ [] = ap (drop k) (drop_at X R place lx) ∙ drop_all k R (omega arith) in
    let regroup : (pad c.offsets ++ pad c.bytes) ++ [] ≡ pad c.offsets ++ (pad c.bytes ++ []) = append_assoc (pad c.offsets) (pad c.bytes) [] in
    ap₂ (λ a b. a ++ (Y ++ b)) (take_at X R place lx ∙ x) rest ∙ ap (λ t. pad c.validity ++ (t ++ [])) y ∙ ap (λ t. pad c.validity ++ t) regroup

-- a leaf that is entered
pub leaf_entered : (m : Meaning) (w : ℕ) (t : TapeView) (node top : ℕ) (ps from to : List ℕ) (end : ℕ) (os : List Cell) → answers m t node ps ≡ got os
    → answer_of (Ok end) ≡ space (length from) 0 node top (leaf_column m.layout w os) 0 → to ≡ written from node top (leaf_column m.layout w os ∷ [])
    → LeafEntered m w t node top ps from to (Ok end)
leaf_entered m w t node top ps from to end os a e is =
    record {
      outcome = e ∙ sym (ap (λ r. then r (λ xs. space (length from) 0 node top (leaf_column m.layout w xs) 0)) a);
      content = λ xs b. let same : os ≡ xs = cc in rw (← same) is;
      unwritten = tt;
    }
