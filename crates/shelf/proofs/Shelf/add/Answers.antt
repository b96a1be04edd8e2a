use Rattle.std.proofs.Common.{◌≡◌, ℕ, ◌+◌, ◌-◌, ◌<◌, ◌≤◌, [], ◌∷◌, length, Err, IfErr, refl, sym, ap, ◌∙◌, subst, arith, rules, length-append, length-drop}
use borrow.Rule.Slice.PartMut.{put_mid}
use borrow.Rule.Slice.PartAt.{part_to_end}
use Rattle.std.proofs.lemmas.Result.{err_from_is_err_and}
use Rattle.slip.specs.Slips.{answer_of, got}
use Rattle.tape.specs.Opened.{view_of}
use Rattle.laws.specs.Calls.{Shelve, after}
use Rattle.shelf.specs.Standing.{start_in, Fits, ZerosFrom, Holds}
use Rattle.shelf.specs.Shelves.{setup_in}
use Rattle.shelf.proofs.Positions.{none_bad}
use Rattle.shelf.proofs.Adding.{free_part, adds_none, adds}
use Rattle.shelf.proofs.Sweeping.{free_clear, put_nothing, end_within, clear_after, free_more, more_inside, more_rising}
use Rattle.shelf.proofs.Shelf.add.Goals as goal

pub invariant_of-rows : goal.invariant_of-rows
invariant_of-rows g c = record { taken = none_bad (view_of c.args.tape) 0 c.args.positions.now (sym c.requires.fine) }

pub write-requires : goal.write-requires
write-requires g c =
    let room = c.is_full.ensures.room c.if-is_full.false in
    let bytes = c.args.self.now.page.now in
    let from = c.end-from.result in
    let long : length (free_part bytes from) ≡ length bytes - from = ap length (part_to_end bytes from) ∙ length-drop from bytes in
    let clear = subst (ZerosFrom bytes) (sym c.end-from.ensures.value) c.requires.clear in
    record {
      few = omega (arith, room.positions_few);
      lent = room.lent_few;
      small = omega (arith, long, c.requires.small);
      records = omega (arith, long, room.records, c.end-from.ensures.value);
      free = free_clear bytes from c.end-from.ensures.within clear;
    }

pub invariant_of-self : goal.invariant_of-self
invariant_of-self g c =
    let self = c.args.self.now in
    let o = self.schema.opened in
    let same = put_nothing self.page.now c.end-from.result c.end-from.ensures.within (c.in_err-size.ensures o.0 0 o.1).unwritten in
    record { few = self.few; inside = λ i l. omega (arith, self.inside i l, ap length same); rising = self.rising; cleared = λ e. (subst (λ k. Fits k) (sym (ap length same)) (self.cleared e).0, subst (λ b. ZerosFrom b (start_in self.ends.items (length self.ends.items))) (sym same) (self.cleared e).1) }

pub returns-in_err-size-clause-does : goal.returns-in_err-size-clause-does
returns-in_err-size-clause-does g c = λ root size held h.
    let p = err_from_is_err_and c.from_residual.result c.from_residual.ensures.1 in
    let d = adds_none h (view_of c.args.tape) c.args.positions.now (length c.args.work.now) (sym c.requires.fine) (sym (c.is_full.ensures.held root size held h) ∙ c.if-is_full.false)
    c.end-from.result c.end-from.ensures.value c.write.new.area c.in_err-size.field-0.0 (c.in_err-size.ensures root size h.tree) in
    record { answered = ap (answer_of {A = ℕ}) (p.1 ∙ ap Err p.2) ∙ d.answered; holds = d.holds }

pub overflow_add-from : goal.overflow_add-from
overflow_add-from g c =
    let self = c.args.self.now in
    let few = end_within self.page.now self.schema c.end-from.ensures.within c.requires.small self.schema.opened (λ root o. c.in_ok-size.ensures root 0 o) in
    search rules

pub overflow_cast-from : goal.overflow_cast-from
overflow_cast-from g c =
    let self = c.args.self.now in
    let few = end_within self.page.now self.schema c.end-from.ensures.within c.requires.small self.schema.opened (λ root o. c.in_ok-size.ensures root 0 o) in
    search rules

pub push-requires : goal.push-requires
push-requires g c =
    let self = c.args.self.now in
    let few = end_within self.page.now self.schema c.end-from.ensures.within c.requires.small self.schema.opened (λ root o. c.in_ok-size.ensures root 0 o) in
    (omega arith, (c.is_full.ensures.room c.if-is_full.false).another)

pub invariant_of-self-2 : goal.invariant_of-self-2
invariant_of-self-2 g c =
    let self = c.args.self.now in
    let from = c.end-from.result in
    let end = from + c.in_ok-size.size in
    let page = put_mid from (length self.page.now - from) self.page.now c.write.new.area in
    let room = c.is_full.ensures.room c.if-is_full.false in
    let n = end_within self.page.now self.schema c.end-from.ensures.within c.requires.small self.schema.opened (λ root o. c.in_ok-size.ensures root 0 o) in
    let long : length page ≡ length self.page.now = omega arith in
    record {
      few = omega (arith, ap length c.push.ensures.items ∙ length-append self.ends.items (end ∷ []), room.another);
      inside = subst (λ es. (i : ℕ) → i ≤ length es → start_in es i ≤ length page) (sym c.push.ensures.items) (more_inside self.ends.items end (omega (arith, n.0, long)) (λ i l. omega (arith, self.inside i l, long)));
      rising = subst (λ es. (i : ℕ) → i < length es → start_in es i ≤ start_in es (i + 1)) (sym c.push.ensures.items) (more_rising self.ends.items end (omega (arith, c.end-from.ensures.value)) self.rising);
      cleared = λ e.
          let last : start_in c.push.new.self.items (length c.push.new.self.items) ≡ end = ap (λ es. start_in es (length es)) c.push.ensures.items ∙ free_more self.ends.items end in (
            subst (λ k. Fits k) (sym long) (self.cleared e).0,
            subst (ZerosFrom page) (sym last) (clear_after self.page.now c.end-from.ensures.within (subst (ZerosFrom self.page.now) (sym c.end-from.ensures.value) (self.cleared e).1) (c.in_ok-size.ensures self.schema.opened.0 0 self.schema.opened.1) c.write.auto.area),
          );
    }

pub returns-clause-does : goal.returns-clause-does
returns-clause-does g c = λ root size held h.
    let st = setup_in g.X.Leaf.meaning c.args.self.now root size in
    let call = Shelve (view_of c.args.tape) c.args.positions.now (length c.args.work.now) in
    let d = adds h (view_of c.args.tape) c.args.positions.now (length c.args.work.now) (sym c.requires.fine) (sym (c.is_full.ensures.held root size held h) ∙ c.if-is_full.false)
    c.end-from.result c.end-from.ensures.value c.write.new.area c.in_ok-size.size (c.in_ok-size.ensures root size h.tree) c.write.auto.area in
    record {
      answered = ap got c.len-number.ensures.value ∙ d.answered;
      holds = subst (λ es. Holds st c.args.self.now.schema (put_mid c.end-from.result (length c.args.self.now.page.now - c.end-from.result) c.args.self.now.page.now c.write.new.area) es (after st held call)) (sym c.push.ensures.items) d.holds;
    }

pub returns-in_err-size-clause-refused : goal.returns-in_err-size-clause-refused
returns-in_err-size-clause-refused g c =
    let self = c.args.self.now in
    let o = self.schema.opened in
    let p = err_from_is_err_and c.from_residual.result c.from_residual.ensures.1 in
    subst (λ r. IfErr r (λ _. (self.ends.items ≡ self.ends.items) × (put_mid c.end-from.result (length self.page.now - c.end-from.result) self.page.now c.write.new.area ≡ self.page.now))) (sym p.1)
    (refl, put_nothing self.page.now c.end-from.result c.end-from.ensures.within (c.in_err-size.ensures o.0 0 o.1).unwritten)
