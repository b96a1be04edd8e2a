use Rattle.std.proofs.Common.{◌≡◌, ◌+◌, ◌*◌, ◌<◌, [], ◌∷◌, ◌++◌, length, sym, ap, ◌∙◌, subst, arith, rules}
use Rattle.std.proofs.lemmas.List.{length-append}
use Rattle.tape.specs.Ahead.{rest}
use Rattle.tape.specs.Opened.{view_of}
use Rattle.tape.specs.View.{entries}
use Rattle.tape.proofs.Ahead.{in_turn, at_end, entry_at}
use Rattle.rows.specs.Filling.{Spread}
use Rattle.rows.proofs.Cells.{spread_more}
use Rattle.rows.proofs.entries.put_entries.Goals as goal

-- the entry that the loop is at
here : (c : goal.In-Some) → entries (view_of c.args.tape) c.args.p ≡ c.loop-at.yielded ++ (c.in-Some.at ∷ rest c.next.new.self)
here c = in_turn rest c.loop-at.yielded c.into_iter-at-iterator.result c.loop-at.at-iterator (cc) c.loop-at.yielded_by c.in-Some.ensures.steps

-- and its place
room : (c : goal.In-Some) → c.args.from + c.loop-at.n * c.args.step < length c.loop-at.work
room c =
    let n : c.loop-at.n < length (entries (view_of c.args.tape) c.args.p) = omega (arith, c.loop-at.invariant.2, ap length (here c), length-append c.loop-at.yielded (c.in-Some.at ∷ rest c.next.new.self)) in
    omega (arith, c.requires.room c.loop-at.n n, c.loop-at.auto.work)

pub overflow_mul-work : goal.overflow_mul-work
overflow_mul-work c = let r = room c in search rules

pub overflow_add-work : goal.overflow_add-work
overflow_add-work c = let r = room c in search rules

pub offset_bounds-work-from : goal.offset_bounds-work-from
offset_bounds-work-from c = let r = room c in search rules

pub bounds-work-from : goal.bounds-work-from
bounds-work-from c = room c

pub overflow_add-n : goal.overflow_add-n
overflow_add-n c =
    let t = c.args.tape in
    omega (arith, t.opened.few_elements, c.loop-at.invariant.2, (entry_at (view_of t) t.opened c.args.p c.requires.position (search rules) c.loop-at.yielded _ c.in-Some.at (here c)).1)

pub loop-at-preserved : goal.loop-at-preserved
loop-at-preserved c = (
  tt,
  tt,
  omega (arith, c.loop-at.invariant.2, length-append c.loop-at.yielded (c.in-Some.at ∷ [])),
  spread_more c.args.from c.args.step c.loop-at.yielded c.args.work.now c.loop-at.work c.loop-at.n c.in-Some.at c.loop-at.invariant.2 c.loop-at.invariant.3 c.requires.apart (room c),
)

pub returns : goal.returns
returns c =
    let e : entries (view_of c.args.tape) c.args.p ≡ c.loop-at.yielded = at_end rest c.loop-at.yielded c.into_iter-at-iterator.result c.loop-at.at-iterator (cc) c.loop-at.yielded_by c.in-None.ensures.steps.0 in
    record {
      count = c.loop-at.invariant.2 ∙ ap length (sym e);
      spread = subst (λ xs. Spread c.args.from c.args.step xs c.args.work.now c.loop-at.work) (sym e) c.loop-at.invariant.3;
    }
