use Rattle.std.proofs.Common.{◌≡◌, ℕ, true, false, Err, length, sym, ap, ◌∙◌, subst, arith}
use Rattle.std.proofs.lemmas.Result.{err_from_is_err_and}
use Rattle.slip.specs.Slips.{answer_of, slip_of}
use Rattle.tape.specs.Opened.{view_of}
use Rattle.laws.specs.Shelf.{shelve}
use Rattle.laws.specs.Calls.{Shelve}
use Rattle.shelf.specs.Standing.{start_in, Holds}
use Rattle.shelf.specs.Shelves.{setup_in, DoesIn}
use Rattle.shelf.proofs.Adding.{refuses_bad}
use Rattle.shelf.proofs.Sweeping.{holds_swept, fit_swept, carried}
use Rattle.shelf.proofs.Shelf.shelve.Goals as goal

pub returns-clause-does : goal.returns-clause-does
returns-clause-does g c = λ root size held h.
    let self = c.args.self.now in
    let t = view_of c.args.tape in
    let lent = length c.args.work.now in
    let page : c.sweep-fits.new.self.page.now ≡ self.page.now = c.sweep-fits.ensures.swept c.if-not-fits.false ∙ sym (holds_swept h) in
    carried g.X.Leaf.meaning c.sweep-fits.ensures.keeps c.sweep-fits.ensures.batches root size (λ st held. DoesIn st held c.add.new.self (Shelve t c.args.positions.now lent) (shelve st held t c.args.positions.now lent) (answer_of c.add.result)) c.add.ensures.does held
    (subst (λ b. Holds (setup_in g.X.Leaf.meaning self root size) self.schema b self.ends.items held) (sym page) h)

pub returns-then-not-fits-clause-swept : goal.returns-then-not-fits-clause-swept
returns-then-not-fits-clause-swept g c = λ root size held h.
    let self = c.args.self.now in
    let fit = fit_swept self.page.now (start_in self.ends.items (length self.ends.items)) (self.inside (length self.ends.items) (omega arith)) h in
    let e : true ≡ false = sym (c.sweep-fits.ensures.fits.1 fit) ∙ c.if-not-fits.true in
    absurd cc

pub returns-in_err-check_positions-clause-swept : goal.returns-in_err-check_positions-clause-swept
returns-in_err-check_positions-clause-swept g c = λ root size held h.
    let self = c.args.self.now in
    let mid = c.sweep-fits.new.self in
    let st = setup_in g.X.Leaf.meaning self root size in
    let fit = fit_swept self.page.now (start_in self.ends.items (length self.ends.items)) (self.inside (length self.ends.items) (omega arith)) h in
    let held_now : Holds st mid.schema mid.page.now mid.ends.items held =
    subst (λ s. Holds st s mid.page.now mid.ends.items held) (sym c.sweep-fits.ensures.keeps.schema)
    (subst (λ es. Holds st self.schema mid.page.now es held) (sym c.sweep-fits.ensures.batches)
    (subst (λ b. Holds st self.schema b self.ends.items held) (sym (c.sweep-fits.ensures.swept (c.sweep-fits.ensures.fits.1 fit))) h)) in
    let p = err_from_is_err_and c.from_residual.result c.from_residual.ensures.1 in
    let d = refuses_bad held_now (view_of c.args.tape) c.args.positions.now (length c.args.work.now) (slip_of c.in_err-check_positions.field-0.0) c.in_err-check_positions.ensures in
    record { answered = ap (answer_of {A = ℕ}) (p.1 ∙ ap Err p.2) ∙ d.answered; holds = d.holds }
