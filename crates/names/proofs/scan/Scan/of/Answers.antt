use Rattle.std.proofs.Common.{◌∙◌, rules, arith, length-set}
use Rattle.names.proofs.Fields.{turn_made, taken_made, heads_more}
use Rattle.names.proofs.scan.Scan.of.Goals as goal

pub bounds-heads-place : goal.bounds-heads-place
bounds-heads-place c =
    let e = c.enumerate-place-items.ensures in
    (turn_made c.args.node c.args.schema.opened.1 c.requires.within c.requires.kind c.children.ensures.node c.into_iter-place-iterator.ensures.into_iter_gives e.source e.count c.loop-place.yielded c.loop-place.place-iterator c.loop-place.yielded_by c.next.new.self c.in-Some.ensures.steps).below

pub loop-place-preserved : goal.loop-place-preserved
loop-place-preserved c =
    let e = c.enumerate-place-items.ensures in
    let here = turn_made c.args.node c.args.schema.opened.1 c.requires.within c.requires.kind c.children.ensures.node c.into_iter-place-iterator.ensures.into_iter_gives e.source e.count c.loop-place.yielded c.loop-place.place-iterator c.loop-place.yielded_by c.next.new.self c.in-Some.ensures.steps in
    let long = c.loop-place.invariant.2 in (
      search rules,
      search rules,
      length-set c.loop-place.heads c.in-Some.place _ ∙ long,
      heads_more c.loop-place.heads c.loop-place.yielded c.in-Some.child _ (omega arith) here.here (omega (arith, here.below, long)) c.loop-place.invariant.3,
    )

pub invariant_of-result : goal.invariant_of-result
invariant_of-result c =
    let e = c.enumerate-place-items.ensures in
    let long = c.loop-place.invariant.2 in
    let made = taken_made c.args.node c.args.schema.opened.1 c.requires.within c.requires.kind c.children.ensures.node c.into_iter-place-iterator.ensures.into_iter_gives e.source e.count c.loop-place.yielded c.loop-place.place-iterator c.loop-place.yielded_by c.in-None.ensures.steps.0.0 c.loop-place.invariant.3 long c.count.ensures.said in
    record { few = made.few; long = long; readable = rw (c.bytes.ensures.records, c.bytes.ensures.names) made.readable }

pub returns : goal.returns
returns c =
    let e = c.enumerate-place-items.ensures in
    let made = taken_made c.args.node c.args.schema.opened.1 c.requires.within c.requires.kind c.children.ensures.node c.into_iter-place-iterator.ensures.into_iter_gives e.source e.count c.loop-place.yielded c.loop-place.place-iterator c.loop-place.yielded_by c.in-None.ensures.steps.0.0 c.loop-place.invariant.3 c.loop-place.invariant.2 c.count.ensures.said in
    rw (c.bytes.ensures.records, c.bytes.ensures.names) (record { count = made.counted; names = made.named })
