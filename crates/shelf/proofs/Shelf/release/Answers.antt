use Rattle.std.proofs.Common.{◌≡◌, ℕ, ◌+◌, ◌<◌, ◌≤◌, length, take, sym, ap, ◌∙◌, subst, arith, length-take-le}
use Rattle.shelf.specs.Standing.{start_in, Fits, ZerosFrom}
use Rattle.shelf.proofs.Holding.{released, start_in_take, fewer_inside, fewer_rising}
use Rattle.shelf.proofs.Sweeping.{clear_before}
use Rattle.shelf.proofs.Shelf.release.Goals as goal

pub invariant_of-self : goal.invariant_of-self
invariant_of-self g c =
    let self = c.args.self.now in
    let n = c.in-Some.newest in
    let long : length c.zero.new.bytes ≡ length self.page.now = c.zero.auto.bytes in
    record {
      few = omega (arith, ap length c.truncate.ensures.items ∙ length-take-le n self.ends.items (omega arith), self.few);
      inside = subst (λ es. (i : ℕ) → i ≤ length es → start_in es i ≤ length c.zero.new.bytes) (sym c.truncate.ensures.items)
          (subst (λ k. (i : ℕ) → i ≤ length (take n self.ends.items) → start_in (take n self.ends.items) i ≤ k) (sym long) (fewer_inside self.ends.items n (omega arith) self.inside));
      rising = subst (λ es. (i : ℕ) → i < length es → start_in es i ≤ start_in es (i + 1)) (sym c.truncate.ensures.items) (fewer_rising self.ends.items n (omega arith) self.rising);
      cleared = λ e.
          let from = c.bounds-from.result.0 in
          let to = c.bounds-from.result.1 in
          let last : n + 1 ≡ length self.ends.items = omega arith in
          let was : ZerosFrom self.page.now to = subst (ZerosFrom self.page.now) (sym (c.bounds-from.ensures.to ∙ ap (start_in self.ends.items) last)) (self.cleared e).1 in
          let now : ZerosFrom c.zero.new.bytes from = subst (λ b. ZerosFrom b from) (sym c.zero.ensures) (clear_before self.page.now from to c.bounds-from.ensures.rises c.bounds-from.ensures.within was) in
          let free : start_in c.truncate.new.self.items (length c.truncate.new.self.items) ≡ from =
          ap (λ es. start_in es (length es)) c.truncate.ensures.items ∙ ap (start_in (take n self.ends.items)) (length-take-le n self.ends.items (omega arith)) ∙ start_in_take self.ends.items n n (omega arith) ∙ sym c.bounds-from.ensures.from in
          (subst (λ k. Fits k) (sym long) (self.cleared e).0, subst (ZerosFrom c.zero.new.bytes) (sym free) now);
    }

pub returns-clause-does : goal.returns-clause-does
returns-clause-does g c = λ root size held h.
    released h (omega arith) c.in-Some.newest c.bounds-from.result.0 c.bounds-from.result.1 c.zero.new.bytes c.truncate.new.self.items (omega arith) c.bounds-from.ensures.from c.bounds-from.ensures.to c.zero.ensures c.truncate.ensures.items
