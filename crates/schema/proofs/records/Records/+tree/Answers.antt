use Rattle.std.proofs.Common.{◌+◌, ◌-◌, sym, ◌∙◌, arith}
use Rattle.schema.proofs.Rows.{row_none, row_more, row-front, row_empty, row_step, row-counted, tree_made, tree_apart, fit_one, finds_then}
use Rattle.schema.proofs.records.Records.+tree.Goals as goal

pub returns-then-depth-eq0 : goal.returns-then-depth-eq0
returns-then-depth-eq0 t c = λ k x. omega (arith, (tree_apart x).deep)

pub returns-in_err-count : goal.returns-in_err-count
returns-in_err-count t c =
    rw c.from_residual.ensures (λ k x. let a = tree_apart x in c.in_err-count.ensures a.many' a.fit)

pub loop-init : goal.loop-init
loop-init t c = ((λ e r. row-counted (omega arith) r), (λ e r. row-counted (omega arith) r))

pub returns-in_err-next : goal.returns-in_err-next
returns-in_err-next t c =
    rw c.from_residual-in_err-next.ensures (λ k x.
    let a = tree_apart x in
    let r = c.loop.invariant.1 k (row-counted (fit_one a.fit c.in_ok-count.ensures) a.row) in
    let f = row-front {k = c.in_ok-count.count - (c.loop.counter + 1)} r (omega arith) in
    c.in_err-next.ensures f.next f.first)

pub loop-preserved : goal.loop-preserved
loop-preserved t c =
    let x = c.in_ok-next.ensures in (
      (λ e r. c.loop.invariant.0 e (row_more {rs = c.args.self.bytes.now} {ns = c.args.self.names.now} {d = c.args.depth - 1} {i = c.loop.next} x r (omega arith))),
      (λ e r. row_step {rs = c.args.self.bytes.now} {ns = c.args.self.names.now} {d = c.args.depth - 1} {i = c.loop.next} x (omega arith) (c.loop.invariant.1 e r)),
    )

pub returns : goal.returns
returns t c =
    rw c.then_some.ensures (finds_then _ c.end.result c.loop.next
    (λ e. tree_made (omega arith) c.in_ok-count.ensures (c.loop.invariant.0 c.loop.next (row_none (omega arith))) (sym c.end.ensures ∙ e))
    (λ k x.
    let a = tree_apart x in
    let r = c.loop.invariant.1 k (row-counted (fit_one a.fit c.in_ok-count.ensures) a.row) in
    c.end.ensures ∙ a.end ∙ row_empty (row-counted (omega arith) r)))
