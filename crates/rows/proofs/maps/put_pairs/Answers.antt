use Rattle.std.proofs.Common.{◌≡◌, ℕ, ◌+◌, ◌*◌, ◌<◌, ◌≤◌, List, [], ◌∷◌, ◌++◌, map, length, set, sym, ap, ◌∙◌, subst, arith, rules}
use Rattle.std.proofs.lemmas.List.{length-append, length-map, length-set, map_push}
use Rattle.tape.specs.Ahead.{by_twos, pairs_rest}
use Rattle.tape.specs.Opened.{view_of}
use Rattle.tape.specs.View.{entries}
use Rattle.tape.proofs.Ahead.{in_turn, at_end}
use Rattle.batch.specs.Rows.{pairs}
use Rattle.rows.specs.Filling.{Filled}
use Rattle.rows.proofs.Cells.{both, pairs-both, pair_more}
use Rattle.rows.proofs.maps.put_pairs.Goals as goal

-- there is a slot for the pair that the loop is at
room : (c : goal.In-Some) → c.args.at + c.loop-name.n < c.args.stride
room c =
    let es = entries (view_of c.args.tape) c.args.p in
    let next : List (ℕ × ℕ) = (c.in-Some.name, c.in-Some.value) ∷ pairs_rest c.next.new.self in
    let e : by_twos es ≡ c.loop-name.yielded ++ next = in_turn pairs_rest c.loop-name.yielded c.into_iter-name-iterator.result c.loop-name.name-iterator (cc) c.loop-name.yielded_by c.in-Some.ensures.steps in
    omega (arith, c.requires.room, ap length (pairs-both es), length-map (by_twos es) both, ap length e, length-append c.loop-name.yielded next, c.loop-name.invariant.2)

lent : (c : goal.In-Some) → 2 * c.args.stride ≤ length c.loop-name.work
lent c = omega (arith, c.requires.lent, c.loop-name.auto.work)

pub overflow_add-work : goal.overflow_add-work
overflow_add-work c = let r = room c in search rules

pub offset_bounds-work-at : goal.offset_bounds-work-at
offset_bounds-work-at c =
    let r : c.args.at + c.loop-name.n < length c.loop-name.work = omega (arith, room c, lent c) in
    search rules

pub bounds-work-at : goal.bounds-work-at
bounds-work-at c = omega (arith, room c, lent c)

pub overflow_add-work-in-loop-name-2 : goal.overflow_add-work-in-loop-name-2
overflow_add-work-in-loop-name-2 c =
    let r : c.args.stride + c.args.at + c.loop-name.n < length c.loop-name.work = omega (arith, room c, lent c) in
    search rules

pub offset_bounds-work-stride : goal.offset_bounds-work-stride
offset_bounds-work-stride c =
    let r : c.args.stride + c.args.at + c.loop-name.n < length c.loop-name.work = omega (arith, room c, lent c) in
    search rules

pub bounds-work-stride : goal.bounds-work-stride
bounds-work-stride c = omega (arith, room c, lent c, length-set c.loop-name.work (c.args.at + c.loop-name.n) c.in-Some.name)

pub overflow_add-n : goal.overflow_add-n
overflow_add-n c = let r = room c in search rules

pub loop-name-preserved : goal.loop-name-preserved
loop-name-preserved c =
    let ys = c.loop-name.yielded in
    let pair : ℕ × ℕ = (c.in-Some.name, c.in-Some.value) in
    let n = c.loop-name.n in
    let to = set (set c.loop-name.work (c.args.at + n) pair.0) (c.args.stride + c.args.at + n) pair.1 in (
      tt,
      tt,
      omega (arith, c.loop-name.invariant.2, length-append ys (pair ∷ [])),
      subst (λ xs. Filled 2 c.args.stride c.args.at xs c.args.work.now to) (sym (map_push both ys pair))
          (pair_more c.args.stride c.args.at (map both ys) c.args.work.now c.loop-name.work n pair.0 pair.1 (c.loop-name.invariant.2 ∙ sym (length-map ys both)) c.loop-name.invariant.3 (room c) (lent c)),
    )

pub returns : goal.returns
returns c =
    let es = entries (view_of c.args.tape) c.args.p in
    let e : by_twos es ≡ c.loop-name.yielded = at_end pairs_rest c.loop-name.yielded c.into_iter-name-iterator.result c.loop-name.name-iterator (cc) c.loop-name.yielded_by c.in-None.ensures.steps.0 in
    let ps : pairs es ≡ map both c.loop-name.yielded = pairs-both es ∙ ap (map both) e in
    record {
      count = c.loop-name.invariant.2 ∙ sym (length-map c.loop-name.yielded both) ∙ ap length (sym ps);
      filled = subst (λ xs. Filled 2 c.args.stride c.args.at xs c.args.work.now c.loop-name.work) (sym ps) c.loop-name.invariant.3;
    }
