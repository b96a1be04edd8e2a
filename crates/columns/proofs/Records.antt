-- The record of a column, written number by number.
use Rattle.std.proofs.Common.{◌≡◌, ℕ, ◌+◌, ◌*◌, ◌≤◌, cond, List, [], ◌∷◌, ◌++◌, length, refl, ap, ◌∙◌, arith}
use lib.Dec.{eqb-suc-zero}
use Rattle.octets.specs.Lists.{splice}
use Rattle.octets.specs.Numbers.{le, padded}
use Rattle.octets.proofs.Splices.{splice_join}
use Rattle.batch.specs.Format.{Column}
use Rattle.batch.specs.Batch.{place_of, record_of, lying_at}
use Rattle.columns.specs.Areas.{Plans}
use Rattle.columns.specs.declared.plan.Plan.{Plan}

-- one write more, right behind the last
splice_next : (A B C : List ℕ) (i j : ℕ) (xs ys : List ℕ) → i ≤ length A → B ≡ splice A i xs → j ≡ i + length xs → C ≡ splice B j ys → C ≡ splice A i (xs ++ ys)
splice_next A B C i j xs ys h b e c = c ∙ rw (b, e) (splice_join A i xs ys h)

pub two_words : (A B C : List ℕ) (at lies place size : ℕ) → at + 8 ≤ length A → lies ≡ lying_at place size → B ≡ splice A at (le 4 lies) → C ≡ splice B (at + 4) (le 4 size)
    → C ≡ splice A at (le 4 (lying_at place size) ++ le 4 size)
two_words A B C at lies place size h e b c = splice_next A B C at (at + 4) (le 4 (lying_at place size)) (le 4 size) (omega arith) (b ∙ ap (λ n. splice A at (le 4 n)) e) refl c

abbrev words : (top size : ℕ) → List ℕ
words top size = le 4 (lying_at top size) ++ le 4 size

place_is : (top : ℕ) (bs : List ℕ) → words top (length bs) ≡ place_of top bs
place_is top [] = refl
place_is top (b ∷ bs) = ap (λ t. le 4 (cond t 0 top) ++ le 4 (length (b ∷ bs))) (eqb-suc-zero (length bs))

pub record_written :
    (p : Plan) (A B C D E F : List ℕ) (node top v o : ℕ) → 32 * node + 32 ≤ length A → v ≡ padded p.validity → o ≡ padded p.offsets →
    B ≡ splice A (32 * node) (le 4 p.slots) → C ≡ splice B (32 * node + 4) (le 4 p.nulls) → D ≡ splice C (32 * node + 8) (words top p.validity) →
    E ≡ splice D (32 * node + 16) (words (top + v) p.offsets) → F ≡ splice E (32 * node + 24) (words (top + v + o) p.data_size) →
    (c : Column) → Plans p c → F ≡ splice A (32 * node) (record_of top c)
record_written p A B C D E F node top v o h ev eo b c d e f col is =
    let at : ℕ = 32 * node in
    let x1 = le 4 p.slots in
    let x2 = x1 ++ le 4 p.nulls in
    let x3 = x2 ++ words top p.validity in
    let x4 = x3 ++ words (top + v) p.offsets in
    let c' : C ≡ splice A at x2 = splice_next A B C at (at + 4) x1 (le 4 p.nulls) (omega arith) b refl c in
    let d' : D ≡ splice A at x3 = splice_next A C D at (at + 8) x2 (words top p.validity) (omega arith) c' refl d in
    let e' : E ≡ splice A at x4 = splice_next A D E at (at + 16) x3 (words (top + v) p.offsets) (omega arith) d' refl e in
    let f' : F ≡ splice A at (x4 ++ words (top + v + o) p.data_size) = splice_next A E F at (at + 24) x4 (words (top + v + o) p.data_size) (omega arith) e' refl f in
    let same : x4 ++ words (top + v + o) p.data_size ≡ record_of top col =
    rw (
      ev,
      eo,
      is.slots,
      is.nulls,
      is.validity,
      is.offsets,
      is.data_size,
      ← place_is top col.validity,
      ← place_is (top + padded (length col.validity)) col.offsets,
      ← place_is (top + padded (length col.validity) + padded (length col.offsets)) col.bytes,
    ) in
    f' ∙ ap (splice A at) same
