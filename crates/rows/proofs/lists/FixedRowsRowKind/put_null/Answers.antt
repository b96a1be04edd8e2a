use Rattle.std.proofs.Common.{ℕ, replicate, subst, arith}
use Rattle.rows.specs.Filling.{Filled}
use Rattle.rows.proofs.Cells.{spread_singles, singles-zeros}
use Rattle.rows.proofs.lists.FixedRowsRowKind.put_null.Goals as goal

pub put_zeros-requires : goal.put_zeros-requires
put_zeros-requires c = record { room = λ j h. omega (arith, c.requires.room, c.requires.lent); apart = omega arith }

pub returns : goal.returns
returns c =
    let n = c.args.self.now.count in
    subst (λ xs. Filled 1 c.args._stride c.args.at xs c.args.work.now c.put_zeros.new.work) (singles-zeros n)
    (spread_singles c.args._stride c.args.at (replicate {A = ℕ} n 0) c.args.work.now c.put_zeros.new.work c.put_zeros.ensures)
