use Rattle.std.proofs.Common.{◌≡◌, ℕ, ◌+◌, ◌*◌, ◌^◌, ◌<◌, ◌≤◌, length, ap, ◌∙◌, arith}
use Rattle.octets.specs.Numbers.{le_at}
use Rattle.batch.proofs.Cuts.{word_in_lem}
use Rattle.batch.proofs.record.record.Goals as goal

pub returns : goal.returns
returns c =
    let bytes = c.args.bytes.now in
    let short : length bytes < 2 ^ 64 = omega arith in
    let own : (at : ℕ) → at + 4 ≤ 32 → le_at 4 c.cut-own.result.now at ≡ le_at 4 bytes (32 * c.args.node + at) =
    λ at h. ap (λ xs. le_at 4 xs at) c.cut-own.ensures ∙ word_in_lem bytes c.args.node c.saturating_mul.result at short c.saturating_mul.ensures h in
    let s0 = c.word_at.ensures ∙ own 0 (omega arith) in
    let s1 = c.word_at-2.ensures ∙ own 4 (omega arith) in
    let s2 = c.word_at-3.ensures ∙ own 8 (omega arith) in
    let s3 = c.word_at-4.ensures ∙ own 12 (omega arith) in
    let s4 = c.word_at-5.ensures ∙ own 16 (omega arith) in
    let s5 = c.word_at-6.ensures ∙ own 20 (omega arith) in
    let s6 = c.word_at-7.ensures ∙ own 24 (omega arith) in
    let s7 = c.word_at-8.ensures ∙ own 28 (omega arith) in
    λ j. record {
      slots = s0 j;
      nulls = s1 j;
      validity = record { place = s2 j; size = s3 j };
      offsets = record { place = s4 j; size = s5 j };
      values = record { place = s6 j; size = s7 j };
    }
