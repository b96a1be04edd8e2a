use Rattle.std.proofs.Common.{◌≡◌, ℕ, length, replicate, sym, ap, ◌∙◌, arith}
use native.Mathlib.Nat.{sub_self, sub-zero}
use lib.Seq.{drop-length}
use Rattle.shelf.proofs.Holding.{zeroed, fresh_now}
use Rattle.shelf.proofs.clear.Goals as goal

pub returns : goal.returns
returns c =
    let n : length c.zero.new.bytes ≡ length c.args.page.now = c.zero.auto.bytes in
    let zeros : c.zero.new.bytes ≡ replicate (length c.args.page.now) 0 = c.zero.ensures ∙ zeroed c.args.page.now 0 (length c.args.page.now) (length c.args.page.now) (omega arith) (omega arith) (drop-length c.args.page.now ∙ ap (λ n. replicate {A = ℕ} n 0) (sym (sub_self (length c.args.page.now))))
    ∙ ap (λ n. replicate {A = ℕ} n 0) (sub-zero (length c.args.page.now)) in
    (fresh_now (c.fits.ensures.0 c.if-not-fits.false) zeros, n)
