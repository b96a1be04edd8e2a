-- Columns written one after another.
use Rattle.std.proofs.Common.{◌≡◌, ℕ, ◌+◌, ◌*◌, ◌≤◌, List, [], ◌∷◌, ◌++◌, length, sym, refl, ap, ◌∙◌, append_assoc, arith, length-append}
use lib.ListN.{length-replicate}
use Rattle.std.proofs.lemmas.List.{append-nil}
use Rattle.octets.specs.Lists.{splice}
use Rattle.octets.specs.Numbers.{padded, pad}
use Rattle.octets.proofs.Splices.{length-splice, splice_nil, splice_join, splice-swap}
use Rattle.batch.specs.Format.{Column}
use Rattle.batch.specs.Batch.{size_of, place_of, record_of, records, buffers}
use Rattle.columns.specs.Areas.{written}

pub length_place : (top : ℕ) (bs : List ℕ) → length (place_of top bs) ≡ 8
length_place top [] = refl
length_place top (b ∷ bs) = refl

pub length_record : (top : ℕ) (c : Column) → length (record_of top c) ≡ 32
length_record top c =
    let v = place_of top c.validity in
    let o = place_of (top + padded (length c.validity)) c.offsets in
    let b = place_of (top + padded (length c.validity) + padded (length c.offsets)) c.bytes in
    omega (arith, length-append v (o ++ b), length-append o b, length_place top c.validity, length_place (top + padded (length c.validity)) c.offsets, length_place (top + padded (length c.validity) + padded (length c.offsets)) c.bytes)

pub length-records : (top : ℕ) (cs : List Column) → length (records top cs) ≡ 32 * length cs
length-records top [] = refl
length-records top (c ∷ cs) = length-append (record_of top c) (records (top + size_of c) cs) ∙ omega (arith, length_record top c, length-records (top + size_of c) cs)

-- the buffers of one column, and those behind them
pub buffers_more : (c : Column) (cs : List Column) → buffers (c ∷ cs) ≡ buffers (c ∷ []) ++ buffers cs
buffers_more c cs = simp (append-nil, append_assoc)

pub length_buffer : (c : Column) → length (buffers (c ∷ [])) ≡ size_of c
length_buffer c = simp (length-append, length-replicate) (omega arith)

pub length-buffers : (c : Column) (cs : List Column) → length (buffers (c ∷ cs)) ≡ size_of c + length (buffers cs)
length-buffers c cs = ap length (buffers_more c cs) ∙ length-append (buffers (c ∷ [])) (buffers cs) ∙ ap (λ n. n + length (buffers cs)) (length_buffer c)

pub buffers-append : (cs ds : List Column) → buffers (cs ++ ds) ≡ buffers cs ++ buffers ds
buffers-append [] ds = refl
buffers-append (c ∷ cs) ds = ap (λ t. pad c.validity ++ (pad c.offsets ++ (pad c.bytes ++ t))) (buffers-append cs ds) ∙ simp append_assoc

pub records-append : (top : ℕ) (cs ds : List Column) → records top (cs ++ ds) ≡ records top cs ++ records (top + length (buffers cs)) ds
records-append top [] ds = ap (λ t. records t ds) (omega arith)
records-append top (c ∷ cs) ds =
    let n : (top + size_of c) + length (buffers cs) ≡ top + length (buffers (c ∷ cs)) = omega (arith, length-buffers c cs) in
    ap (λ t. record_of top c ++ t) (records-append (top + size_of c) cs ds ∙ ap (λ t. records (top + size_of c) cs ++ records t ds) n)
    ∙ sym (append_assoc (record_of top c) (records (top + size_of c) cs) (records (top + length (buffers (c ∷ cs))) ds))

-- two writes below and two above, each pair in a row
splice_both :
    (A R S B C : List ℕ) (n j top : ℕ) → j ≡ n + length R → j + length S ≤ top → top ≤ length A →
    splice (splice (splice (splice A n R) top B) j S) (top + length B) C ≡ splice (splice A n (R ++ S)) top (B ++ C)
splice_both A R S B C n j top e low high =
    let X = splice A n R in
    let x : length X ≡ length A = length-splice A n R (omega arith) in
    let Y = splice X j S in
    let y : length Y ≡ length X = length-splice X j S (omega (arith, x)) in
    let s1 : splice (splice X top B) j S ≡ splice Y top B = sym (splice-swap X j S top B low (omega (arith, x))) in
    let s2 : splice (splice Y top B) (top + length B) C ≡ splice Y top (B ++ C) = splice_join Y top B C (omega (arith, x, y)) in
    let s3 : Y ≡ splice A n (R ++ S) = ap (λ t. splice X t S) e ∙ splice_join A n R S (omega arith) in
    ap (λ t. splice t (top + length B) C) s1 ∙ s2 ∙ ap (λ t. splice t top (B ++ C)) s3

module _ (A : List ℕ) (node top : ℕ) where
  pub written_none : written A node top [] ≡ A
  written_none = splice_nil _ top ∙ splice_nil A (32 * node)

  pub written-append :
      (cs ds : List Column) → 32 * (node + length cs + length ds) ≤ top → top ≤ length A →
      written (written A node top cs) (node + length cs) (top + length (buffers cs)) ds ≡ written A node top (cs ++ ds)
  written-append cs ds apart within =
      let R = records top cs in
      let S = records (top + length (buffers cs)) ds in
      let j : 32 * (node + length cs) ≡ 32 * node + length R = omega (arith, length-records top cs) in
      let low : 32 * (node + length cs) + length S ≤ top = omega (arith, length-records (top + length (buffers cs)) ds) in
      splice_both A R S (buffers cs) (buffers ds) (32 * node) (32 * (node + length cs)) top j low within
      ∙ ap (λ t. splice (splice A (32 * node) t) top (buffers cs ++ buffers ds)) (sym (records-append top cs ds))
      ∙ ap (λ t. splice (splice A (32 * node) (records top (cs ++ ds))) top t) (sym (buffers-append cs ds))

  -- a written area is as long as before
  pub length-written : (cs : List Column) → 32 * (node + length cs) ≤ top → top + length (buffers cs) ≤ length A → length (written A node top cs) ≡ length A
  length-written cs apart within =
      let x : length (splice A (32 * node) (records top cs)) ≡ length A = length-splice A (32 * node) (records top cs) (omega (arith, length-records top cs)) in
      length-splice (splice A (32 * node) (records top cs)) top (buffers cs) (omega (arith, x)) ∙ x
