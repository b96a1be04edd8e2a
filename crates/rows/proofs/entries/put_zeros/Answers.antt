use Rattle.std.proofs.Common.{◌≡◌, ℕ, ◌+◌, ◌*◌, set, replicate, sym, subst, arith}
use Rattle.std.proofs.lemmas.List.{length-replicate, replicate_more}
use Rattle.rows.specs.Filling.{Spread}
use Rattle.rows.proofs.Cells.{spread_more}
use Rattle.rows.proofs.entries.put_zeros.Goals as goal

pub loop-j-preserved : goal.loop-j-preserved
loop-j-preserved c =
    let n = c.loop-j.j in
    let w = spread_more c.args.from c.args.step (replicate n 0) c.args.work.now c.loop-j.work n 0 (sym (length-replicate {A = ℕ} n 0)) c.loop-j.invariant.1 c.requires.apart (omega (arith, c.requires.room n c.loop-j-test.true)) in
    (omega (arith, c.loop-j-test.true), subst (λ xs. Spread c.args.from c.args.step xs c.args.work.now (set c.loop-j.work (c.args.from + n * c.args.step) 0)) (replicate_more n 0) w)

pub returns : goal.returns
returns c =
    let e : c.loop-j.j ≡ c.args.count = omega (arith, c.loop-j.invariant.0, c.loop-j-test.false) in
    subst (λ n. Spread c.args.from c.args.step (replicate n 0) c.args.work.now c.loop-j.work) e c.loop-j.invariant.1
