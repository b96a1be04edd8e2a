use Rattle.std.proofs.Common.{ℕ, length, get_or, replicate, Err, sym, refl, ap, ◌∙◌, subst, arith, rules}
use Rattle.std.proofs.lemmas.List.{take_more}
use Rattle.std.proofs.lemmas.Result.{err_from_is_err_and}
use Rattle.replay.specs.Replay.{Replayed, Replays, Asks, no_room, no_page}
use Rattle.replay.specs.declared.Call.TheVariants.{Count as CountLine}
use Rattle.shelf.proofs.Holding.{page_size}
use Rattle.replay.proofs.Replays.{tree_as, begun, holds-own, stands, one_more, all_done}
use Rattle.replay.proofs.replay.Goals as goal

pub returns-then-answers-calls : goal.returns-then-answers-calls
returns-then-answers-calls g c =
    let o = c.in_ok-schema.ensures.tree in
    (no_room refl o.0.0 (tree_as o.1 o.2 o.0.1) c.if-answers-calls.true, refl, refl, refl)

pub returns-in_err-clear : goal.returns-in_err-clear
returns-in_err-clear g c =
    let o = c.in_ok-schema.ensures.tree in
    let d = c.in_err-clear.ensures in
    let p = err_from_is_err_and c.from_residual-in_err-clear.result c.from_residual-in_err-clear.ensures.1 in
    subst (Replays c.args.settings (g.X.Leaf.meaning c.args.custom.now) c.args.records.now c.args.names.now c.args.page.now c.clear.new.page c.args.work.now c.args.work.now c.args.calls.now c.args.answers.now c.args.answers.now)
    (sym (p.1 ∙ ap Err p.2)) (no_page d.0 o.0.0 (tree_as o.1 o.2 o.0.1) (omega arith) d.1, d.2, refl, refl)

pub loop-i-init : goal.loop-i-init
loop-i-init g c =
    let o = c.in_ok-schema.ensures.tree in (
      begun g.X.Leaf.meaning c.args.settings c.args.custom.now c.args.records.now c.args.names.now (length c.clear.new.page) (length c.args.work.now) c.new-shelf.result c.args.calls.now c.args.answers.now o.0.0
          (tree_as o.1 o.2 o.0.1) (c.new-shelf.ensures.holds o.0.0 o.0.1 c.in_ok-clear.ensures.0) c.new-shelf.ensures.settings (ap (λ r. r.now) c.new-shelf.ensures.custom),
      refl,
    )

pub make-requires : goal.make-requires
make-requires g c = λ k. ((refl, tt), stands c.loop-i.invariant.0)

pub loop-i-preserved : goal.loop-i-preserved
loop-i-preserved g c =
    let f = c.loop-i.invariant.0 in
    let line = get_or c.args.calls.now c.loop-i.i CountLine in
    let e = c.make.ensures.makes f.root (length c.new-shelf.result.page.now) _ (holds-own f) in (
      one_more f c.make.new.shelf line c.make.result e.0 c.loop-i-test.true (omega arith) (take_more c.args.calls.now c.loop-i.i CountLine c.loop-i-test.true) c.make.ensures.keeps
          (subst (λ n. Asks n line e.0) c.loop-i.auto.work e.1) e.2,
      c.make.ensures.keeps.page ∙ c.loop-i.invariant.1,
    )

pub returns : goal.returns
returns g c =
    let m = g.X.Leaf.meaning c.args.custom.now in
    let o = c.in_ok-schema.ensures.tree in
    let long = page_size (c.new-shelf.ensures.holds o.0.0 o.0.1 c.in_ok-clear.ensures.0) ∙ c.in_ok-clear.ensures.1 in
    let d = all_done c.loop-i.invariant.0 (omega arith) (omega arith) in (
      subst (λ b. Replayed c.args.settings m c.args.records.now c.args.names.now (length c.args.page.now) (length c.args.work.now) c.args.calls.now c.loop-i.answers b)
          (let n = sym (c.loop-i.invariant.1 ∙ c.new-shelf.ensures.page) in search rules)
          (subst (λ s. Replayed s m c.args.records.now c.args.names.now (length c.args.page.now) (length c.args.work.now) c.args.calls.now c.loop-i.answers c.loop-i.shelf.page.now)
          c.new-shelf.ensures.settings
          (subst (λ n. Replayed c.new-shelf.result.settings m c.args.records.now c.args.names.now n (length c.args.work.now) c.args.calls.now c.loop-i.answers c.loop-i.shelf.page.now)
          long d.0)),
      d.1,
      c.fill.ensures.after (λ y e. e) ∙ ap (λ n. replicate {A = ℕ} n 0) c.loop-i.auto.work,
    )
