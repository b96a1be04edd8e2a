use Rattle.std.proofs.Common.{◌≡◌, ◌^◌, ◌≤◌, ◌∷◌, length, Ok, Err, sym, refl, ap, ◌∙◌, subst, arith, length-append}
use Rattle.std.proofs.lemmas.Result.{err_from_is_err_and}
use Rattle.schema.specs.Children.{rest}
use Rattle.schema.proofs.Nodes.{held_written}
use Rattle.nodes.specs.Contract.{seen, visited, Ready, Walked}
use Rattle.nodes.proofs.Walking.{Inside, not_entered, kids_fit, kids_few, next_within, next_blank, mine_positions, mine_few, begun, seen_child, child_below, child_enough, child_ready, walked_one, walked_none, lies, walked_all}
use Rattle.walk.proofs.+walk.Goals as goal
use Rattle.walk.proofs.+walk.Goals.{In_ok-kids, After-visit_child}

-- the node was entered
entered : (g : _) (t : _) (c : In_ok-kids g t) → Inside (seen g.X.Leaf.meaning c.args.named.frame c.args.visit) c.args.area.now c.args.work.now c.args.top.now c.enter.new.area c.enter.new.work c.in_ok-kids.field-0
entered g t c = record { ready = c.requires.ready; enters = c.in_ok-kids.ensures; long = omega arith; lent-long = omega arith }

pub returns-in_err-kids : goal.returns-in_err-kids
returns-in_err-kids g t c =
    let p = err_from_is_err_and c.from_residual.result c.from_residual.ensures.1 in
    not_entered (seen g.X.Leaf.meaning c.args.named.frame c.args.visit) c.args.area.now c.args.work.now c.args.top.now c.requires.ready c.enter.new.area c.enter.new.work p.0 c.in_err-kids.field-0.0 c.from_residual.result p.1 p.2 c.in_err-kids.ensures

pub overflow_mul-kids : goal.overflow_mul-kids
overflow_mul-kids g t c = let few = kids_few (entered g t (goal.at.overflow_mul-kids g t c).In_ok-kids) in omega (arith, few)

pub split_at_mut-mine-requires : goal.split_at_mut-mine-requires
split_at_mut-mine-requires g t c = kids_fit (entered g t (goal.at.split_at_mut-mine-requires g t c).In_ok-kids)

pub children-child-items-requires : goal.children-child-items-requires
children-child-items-requires g t c = (held_written c.requires.ready.formed.1).within

pub loop-child-init : goal.loop-child-init
loop-child-init g t c =
    let i = entered g t (goal.at.loop-child-init g t c).In_ok-kids in
    let sp = c.split_at_mut-mine.ensures in (
      tt,
      tt,
      refl,
      mine_positions i _ _ sp.value sp.front_len,
      mine_few i _ _ sp.value sp.front_len,
      next_within i,
      next_blank i,
      begun i _ _ sp.value sp.front_len (rest c.into_iter-child-iterator.result) (λ T h. ap rest c.into_iter-child-iterator.ensures.into_iter_gives ∙ c.children-child-items.ensures.node T h),
    )

pub invariant_of-rows : goal.invariant_of-rows
invariant_of-rows g t c = record { taken = c.loop-child.invariant.3 }

pub visit_child-requires-clause-parent : goal.visit_child-requires-clause-parent
visit_child-requires-clause-parent g t c = (held_written c.requires.ready.formed.1).within

pub visit_child-requires-clause-enough : goal.visit_child-requires-clause-enough
visit_child-requires-clause-enough g t c =
    let i = entered g t (goal.at.visit_child-requires-clause-enough g t c).In_ok-kids in
    let sp = c.split_at_mut-mine.ensures in
    child_enough i _ _ sp.value sp.front_len _ _ c.loop-child.area c.loop-child.top c.loop-child.invariant.7 c.in-Some.ensures.steps

-- the child's rows and the others are no more than were left
few_apart : (g : _) (t : _) (c : After-visit_child g t) → (length c.visit_child.result.0.rows.positions.now ≤ 2 ^ 24) × (length c.visit_child.result.1.positions.now ≤ 2 ^ 24)
few_apart g t c =
    let long = ap length c.visit_child.ensures.halves ∙ length-append c.visit_child.result.0.rows.positions.now c.visit_child.result.1.positions.now in
    (omega (arith, long, c.loop-child.invariant.4), omega (arith, long, c.loop-child.invariant.4))

-- the child that is visited is the next of the children, and its rows lie in the same tape
turn : (g : _) (t : _) (c : After-visit_child g t) → rest c.loop-child.child-iterator ≡ c.visit_child.result.0.node ∷ rest c.next.new.self
turn g t c = c.in-Some.ensures.steps ∙ ap (λ n. n ∷ rest c.next.new.self) (sym c.visit_child.ensures.node)

sees : (g : _) (t : _) (c : After-visit_child g t)
    → seen g.X.Leaf.meaning c.args.named.frame c.visit_child.result.0 ≡ visited (seen g.X.Leaf.meaning c.args.named.frame c.args.visit) c.visit_child.result.0.node c.visit_child.result.0.in_force c.visit_child.result.0.rows.positions.now
sees g t c = seen_child g.X.Leaf.meaning c.args.named.frame c.args.visit c.visit_child.result.0 (c.visit_child.ensures.tape ∙ c.loop-child.invariant.2)

pub walk-requires : goal.walk-requires
walk-requires g t c κs within =
    let i = entered g t (goal.at.walk-requires g t c).In_ok-kids in
    let a = (goal.at.walk-requires g t c).After-visit_child in
    let sp = c.split_at_mut-mine.ensures in
    let less = child_below i _ _ sp.value sp.front_len _ _ c.loop-child.area c.loop-child.top c.loop-child.invariant.7 (turn g t a) in (
      omega (arith, c.decreases, less),
      (
        within.0,
        (
          within.1,
          subst (λ v. Ready v c.loop-child.deeper c.loop-child.area c.loop-child.top) (sym (sees g t a))
              (child_ready i _ _ sp.value sp.front_len _ _ c.loop-child.area c.loop-child.top c.loop-child.invariant.7 (turn g t a) _ _ c.loop-child.deeper (few_apart g t a).0 (omega arith) c.loop-child.invariant.5 c.loop-child.invariant.6 (omega arith)),
        ),
      ),
    )

pub returns-in_err-walk : goal.returns-in_err-walk
returns-in_err-walk g t c =
    let i = entered g t (goal.at.returns-in_err-walk g t c).In_ok-kids in
    let a = (goal.at.returns-in_err-walk g t c).After-visit_child in
    let sp = c.split_at_mut-mine.ensures in
    let w = c.visit_child.ensures in
    let p = err_from_is_err_and c.from_residual-in_err-walk.result c.from_residual-in_err-walk.ensures.1 in
    walked_none i _ _ sp.value sp.front_len _ _ c.loop-child.area c.loop-child.top c.loop-child.invariant.7 (turn g t a)
    _ _ c.walk.new.area c.walk.new.top (length c.loop-child.deeper) c.visit_child.result.0.in_force w.halves w.short (omega arith) (omega arith) (λ T h k d. w.in_force T k h d)
    p.0 c.in_err-walk.field-0.0 c.from_residual-in_err-walk.result p.1 p.2
    (subst (λ v. Walked v (length c.loop-child.deeper) c.loop-child.area c.walk.new.area c.loop-child.top c.walk.new.top (Err c.in_err-walk.field-0.0)) (sees g t a) c.in_err-walk.ensures)

pub loop-child-preserved : goal.loop-child-preserved
loop-child-preserved g t c =
    let i = entered g t (goal.at.loop-child-preserved g t c).In_ok-kids in
    let a = (goal.at.loop-child-preserved g t c).After-visit_child in
    let sp = c.split_at_mut-mine.ensures in
    let w = c.visit_child.ensures in
    let walked = c.in_ok-walk.ensures in (
      tt,
      tt,
      w.same_tape ∙ c.loop-child.invariant.2,
      c.visit_child.result.1.taken,
      (few_apart g t a).1,
      walked.within,
      walked.blank,
      walked_one i _ _ sp.value sp.front_len _ _ c.loop-child.area c.loop-child.top c.loop-child.invariant.7 (turn g t a)
          _ _ c.walk.new.area c.walk.new.top (length c.loop-child.deeper) c.visit_child.result.0.in_force w.halves w.short (omega arith) (omega arith) (λ T h k d. w.in_force T k h d) c.loop-child.invariant.5
          (subst (λ v. Walked v (length c.loop-child.deeper) c.loop-child.area c.walk.new.area c.loop-child.top c.walk.new.top (Ok tt)) (sees g t a) walked),
    )

pub invariant_of-mine : goal.invariant_of-mine
invariant_of-mine g t c =
    let i = entered g t (goal.at.invariant_of-mine g t c).In_ok-kids in
    let sp = c.split_at_mut-mine.ensures in
    record { taken = mine_positions i _ _ sp.value sp.front_len }

pub leave-requires-clause-lying : goal.leave-requires-clause-lying
leave-requires-clause-lying g t c =
    let i = entered g t (goal.at.leave-requires-clause-lying g t c).In_ok-kids in
    let sp = c.split_at_mut-mine.ensures in
    lies i _ _ sp.value sp.front_len

pub returns : goal.returns
returns g t c =
    let i = entered g t (goal.at.returns g t c).In_ok-kids in
    let sp = c.split_at_mut-mine.ensures in
    walked_all i _ _ sp.value sp.front_len _ _ c.loop-child.area c.loop-child.top c.loop-child.invariant.7 c.in-None.ensures.steps.0 c.leave.result c.leave.ensures c.loop-child.invariant.5 c.loop-child.invariant.6
