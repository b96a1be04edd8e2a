use Rattle.std.proofs.Common.{length, take, Err, sym, refl, ap, ◌∙◌, subst, length-take}
use Rattle.std.proofs.lemmas.Result.{err_from_is_err_and}
use Rattle.slip.specs.Slips.{refuse, got, then, slip_of}
use Rattle.tape.specs.Opened.{view_of}
use Rattle.laws.specs.Calls.{Cell, Release, batch, cell_at}
use Rattle.shelf.specs.Shelves.{setup_in}
use Rattle.replay.specs.Replay.{said, view_in, Asks, ShelveFrom}
use Rattle.replay.proofs.Replays.{shelved, lent_is, cell_said, cell_refused}
use Rattle.replay.proofs.make.Goals as goal

pub returns-in_err-shelve_standing-in-Shelve-clause-makes : goal.returns-in_err-shelve_standing-in-Shelve-clause-makes
returns-in_err-shelve_standing-in-Shelve-clause-makes g c = λ root size held h.
    let line = c.in-Shelve in
    let work = length c.args.work.now in
    let q = shelved (setup_in g.X.Leaf.meaning c.args.shelf.now root size) held c.shelve_standing.new.self (view_in line.tape) line.positions.now (length (take c.min-lent.result c.args.work.now)) (view_of c.in_ok-tape-in-Shelve.tape) (refuse (slip_of c.in_err-shelve_standing-in-Shelve.field-0.0))
    c.in_ok-tape-in-Shelve.ensures.0 c.in_ok-tape-in-Shelve.ensures.1 (c.in_err-shelve_standing-in-Shelve.ensures.does root size held h) in
    let p = err_from_is_err_and c.from_residual-in_err-shelve_standing-in-Shelve.result c.from_residual-in_err-shelve_standing-in-Shelve.ensures.1 in
    let lent = length-take c.min-lent.result c.args.work.now ∙ lent_is line.lent work c.min-lent.result c.min-lent.ensures in (
      q.0,
      subst (λ l. Asks work l q.0) (sym line.is) (subst (λ n. ShelveFrom (view_in line.tape) line.positions.now n q.0) lent q.1),
      record { answered = ap said (p.1 ∙ ap Err p.2) ∙ q.2.answered; holds = q.2.holds },
    )

pub returns-in_ok-shelve_standing-in-Shelve-clause-makes : goal.returns-in_ok-shelve_standing-in-Shelve-clause-makes
returns-in_ok-shelve_standing-in-Shelve-clause-makes g c = λ root size held h.
    let line = c.in-Shelve in
    let work = length c.args.work.now in
    let q = shelved (setup_in g.X.Leaf.meaning c.args.shelf.now root size) held c.shelve_standing.new.self (view_in line.tape) line.positions.now (length (take c.min-lent.result c.args.work.now)) (view_of c.in_ok-tape-in-Shelve.tape) (got c.in_ok-shelve_standing-in-Shelve.field-0)
    c.in_ok-tape-in-Shelve.ensures.0 c.in_ok-tape-in-Shelve.ensures.1 (c.in_ok-shelve_standing-in-Shelve.ensures.does root size held h) in
    let lent = length-take c.min-lent.result c.args.work.now ∙ lent_is line.lent work c.min-lent.result c.min-lent.ensures in
    (q.0, subst (λ l. Asks work l q.0) (sym line.is) (subst (λ n. ShelveFrom (view_in line.tape) line.positions.now n q.0) lent q.1), q.2)

pub returns-in_err-kind-in-Cell-clause-makes : goal.returns-in_err-kind-in-Cell-clause-makes
returns-in_err-kind-in-Cell-clause-makes g c = λ root size held h.
    let p = err_from_is_err_and c.from_residual-in_err-kind-in-Cell.result c.from_residual-in_err-kind-in-Cell.ensures.1 in
    let call = Cell c.in-Cell.batch c.in-Cell.node c.in-Cell.slot in (
      call,
      subst (λ l. Asks (length c.args.work.now) l call) (sym c.in-Cell.is) refl,
      record { answered = ap said (p.1 ∙ ap Err p.2) ∙ cell_refused (cell_at (setup_in g.X.Leaf.meaning c.args.shelf.now root size) held c.in-Cell.batch c.in-Cell.node c.in-Cell.slot) _ (c.in_err-kind-in-Cell.ensures.held root size held h); holds = h },
    )

pub returns-in_ok-kind-in-Cell-clause-makes : goal.returns-in_ok-kind-in-Cell-clause-makes
returns-in_ok-kind-in-Cell-clause-makes g c = λ root size held h.
    let call = Cell c.in-Cell.batch c.in-Cell.node c.in-Cell.slot in (
      call,
      subst (λ l. Asks (length c.args.work.now) l call) (sym c.in-Cell.is) refl,
      record { answered = cell_said (cell_at (setup_in g.X.Leaf.meaning c.args.shelf.now root size) held c.in-Cell.batch c.in-Cell.node c.in-Cell.slot) _ _ _ (c.in_ok-kind-in-Cell.ensures.held root size held h); holds = h },
    )

pub returns-in_ok-release-in-Release-clause-makes : goal.returns-in_ok-release-in-Release-clause-makes
returns-in_ok-release-in-Release-clause-makes g c = λ root size held h.
    let d = c.in_ok-release-in-Release.ensures.does root size held h in (
      Release,
      subst (λ l. Asks (length c.args.work.now) l Release) (sym c.in-Release.is) refl,
      record { answered = ap (λ m. then m (λ n. got (batch n))) d.answered; holds = d.holds },
    )
