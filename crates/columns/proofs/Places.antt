-- Where a column goes: zeros before, its record and its buffers after.
use Rattle.std.proofs.Common.{◌≡◌, ℕ, ◌+◌, ◌-◌, ◌*◌, ◌^◌, ◌≤◌, Bool, true, false, cond, ◌||◌, ltb, List, [], ◌∷◌, ◌++◌, length, take, drop, replicate, Ok, sym, refl, ap, ◌∙◌, ap₂, arith}
use borrow.Rule.Slice.PartMut.{put_mid}
use Rattle.std.proofs.lemmas.List.{append-nil, take-replicate, drop-drop, drop-replicate, drop_at, length-append, length-take-le, append_assoc}
use Rattle.std.proofs.lemmas.Bool.{ltb-false}
use Rattle.slip.specs.Slips.{slip, refuse, got, answer_of}
use Rattle.octets.specs.Lists.{splice, part}
use Rattle.octets.proofs.Splices.{length-splice, splice-part}
use Rattle.batch.specs.Format.{Column}
use Rattle.batch.specs.Batch.{size_of, record_of, records, buffers}
use Rattle.columns.specs.Areas.{written, space, Blank, Place, Plans}
use Rattle.columns.specs.Plans.{Totals, Recordable, bytes_of}
use Rattle.columns.specs.declared.plan.Plan.{Plan}
use Rattle.columns.proofs.Writes.{length_record, length-records, length_buffer, length-written}

-- what is free is zero
pub blank_part : (area : List ℕ) (top n : ℕ) → Blank area top → top + n ≤ length area → part area top n ≡ replicate n 0
blank_part area top n blank h = ap (take n) blank ∙ take-replicate n (length area - top) 0 (omega arith)

-- what lies behind a write is as it was
drop-splice : (A : List ℕ) (i : ℕ) (xs : List ℕ) (top : ℕ) → i + length xs ≤ top → top ≤ length A → drop top (splice A i xs) ≡ drop top A
drop-splice A i xs top h w =
    let P = take i A ++ xs in
    let l : length P ≡ i + length xs = length-append (take i A) xs ∙ omega (arith, length-take-le i A (omega arith)) in
    let rest : ℕ = top - (i + length xs) in
    ap₂ (λ n t. drop n t) (omega arith) (sym (append_assoc (take i A) xs (drop (i + length xs) A)))
    ∙ sym (drop-drop rest (i + length xs) (P ++ drop (i + length xs) A))
    ∙ ap (drop rest) (drop_at P (drop (i + length xs) A) (i + length xs) l)
    ∙ drop-drop rest (i + length xs) A ∙ ap (λ n. drop n A) (omega arith)

-- also once the record is written
pub blank_behind : (area : List ℕ) (node top n : ℕ) (c : Column) → Place area node top → top + n ≤ length area → part (splice area (32 * node) (record_of top c)) top n ≡ replicate n 0
blank_behind area node top n c p h =
    ap (take n) (drop-splice area (32 * node) (record_of top c) top (omega (arith, length_record top c, p.apart)) p.within) ∙ blank_part area top n p.blank h

-- the record and the buffers make the column
pub column-written : (area : List ℕ) (node top k : ℕ) (c : Column) (bs : List ℕ) → bs ≡ buffers (c ∷ []) → k ≡ size_of c
    → put_mid top k (splice area (32 * node) (record_of top c)) bs ≡ written area node top (c ∷ [])
column-written area node top k c bs e f =
    splice-part top k (splice area (32 * node) (record_of top c)) bs (buffers (c ∷ [])) e (f ∙ sym (length_buffer c))
    ∙ ap (λ t. splice (splice area (32 * node) t) top (buffers (c ∷ []))) (sym (append-nil (record_of top c)))

-- what it says that there is space
module _ (free left node top positions : ℕ) (c : Column) where
  spaced : (a b : Bool) (e : ℕ) → got e ≡ cond (a || b) (refuse (slip 4 node 0)) (got (top + size_of c)) → (a ≡ false) × (b ≡ false) × (e ≡ top + size_of c)
  spaced true b e h = let z : ◌≡◌ {A = ℕ} 0 1 = cc in absurd (omega arith)
  spaced false true e h = let z : ◌≡◌ {A = ℕ} 0 1 = cc in absurd (omega arith)
  spaced false false e h = (refl, refl, cc)

  pub space-there : (e : ℕ) → answer_of (Ok e) ≡ space free left node top c positions → (top + size_of c ≤ free) × (positions ≤ left) × (e ≡ top + size_of c)
  space-there e h =
      let s = spaced (ltb free (top + size_of c)) (ltb left positions) e h in
      (ltb-false free (top + size_of c) s.0, ltb-false left positions s.1, s.2)

-- where there is space the totals are exact
pub totals_exact : (p : Plan) (c : Column) (top free : ℕ) → Totals p c → top + size_of c ≤ free → free ≤ 2 ^ 24 → Plans p c
totals_exact p c top free t h few =
    let small : length c.bytes ≤ 2 ^ 24 = omega arith in
    record { slots = t.slots; nulls = t.nulls; validity = t.validity; offsets = t.offsets; data_size = t.data_size ∙ omega arith }

-- and fit a record
pub recordable : (p : Plan) (c : Column) (top free : ℕ) → Plans p c → top + size_of c ≤ free → free ≤ 2 ^ 24 → p.slots ≤ 2 ^ 24 → p.nulls ≤ 2 ^ 24 → Recordable p top
recordable p c top free h room few slots nulls =
    let e : bytes_of p ≡ size_of c = rw (h.validity, h.offsets, h.data_size) in
    record { slots = omega arith; nulls = omega arith; buffers = omega (arith, e) }

-- the slice of the buffers, once the record is written: zeros before, and the column after
pub blank_after : (area area' : List ℕ) (node top end size : ℕ) (c : Column) → Place area node top → area' ≡ splice area (32 * node) (record_of top c) → size ≡ size_of c → end ≡ top + size_of c
    → top + size_of c ≤ length area → take (end - top) (drop top area') ≡ replicate size 0
blank_after area area' node top end size c p put e f h =
    ap₂ (λ n t. take n (drop top t)) (omega arith) put ∙ blank_behind area node top size c p (omega arith)

pub column-after : (area area' : List ℕ) (node top end : ℕ) (c : Column) (bs : List ℕ) → area' ≡ splice area (32 * node) (record_of top c) → bs ≡ buffers (c ∷ []) → end ≡ top + size_of c
    → put_mid top (end - top) area' bs ≡ written area node top (c ∷ [])
column-after area area' node top end c bs put e f =
    ap (λ t. put_mid top (end - top) t bs) put ∙ column-written area node top (end - top) c bs e (omega arith)

-- what is written leaves what lies behind it blank
pub blank_written : (area : List ℕ) (node top : ℕ) (cs : List Column) → Blank area top → 32 * (node + length cs) ≤ top → top + length (buffers cs) ≤ length area
    → Blank (written area node top cs) (top + length (buffers cs))
blank_written area node top cs blank apart within =
    let R = records top cs in
    let X = splice area (32 * node) R in
    let n : ℕ = length (buffers cs) in
    let r = length-records top cs in
    let x : length X ≡ length area = length-splice area (32 * node) R (omega arith) in
    let long : length (written area node top cs) ≡ length area = length-written area node top cs apart within in
    drop-splice X top (buffers cs) (top + n) (omega arith) (omega arith) ∙ drop-splice area (32 * node) R (top + n) (omega arith) (omega arith)
    ∙ sym (drop-drop n top area) ∙ ap (drop n) blank ∙ drop-replicate n (length area - top) 0 ∙ ap (λ k. replicate k 0) (omega arith)

-- and a place for a later node
pub place_next : (area : List ℕ) (node top : ℕ) (cs : List Column) (next : ℕ) → Place area node top → 32 * (node + length cs) ≤ top → top + length (buffers cs) ≤ length area
    → 32 * next + 32 ≤ top + length (buffers cs) → Place (written area node top cs) next (top + length (buffers cs))
place_next area node top cs next p apart within below =
    let long : length (written area node top cs) ≡ length area = length-written area node top cs apart within in
    record { apart = below; within = omega arith; page = omega (arith, p.page); blank = blank_written area node top cs p.blank apart within }
