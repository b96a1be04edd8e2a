use Rattle.std.proofs.Common.{◌≡◌, ◌/◌, length, subst, arith}
use Rattle.std.proofs.lemmas.Bool.{eqb-true, eq-eqb}
use Rattle.tape.specs.Grammar.{Values}
use Rattle.tape.specs.Grammar.Values.{none, more}
use Rattle.tape.proofs.Reading.{never, value_forward, values_forward, values_step, values_stuck}
use Rattle.tape.proofs.check.Grammar.is_filled.Goals as goal

pub returns-in_default : goal.returns-in_default
returns-in_default c = never (λ vs. values_stuck (omega arith) c.in_default.ensures (c.loop-at.invariant.1 vs))

pub loop-at-smaller : goal.loop-at-smaller
loop-at-smaller c = omega (arith, value_forward c.in-Some.ensures.0)

pub loop-at-preserved : goal.loop-at-preserved
loop-at-preserved c =
    let v = c.in-Some.ensures.0 in
    ((λ k vs. c.loop-at.invariant.0 k (more v vs)), (λ vs. values_step (omega arith) v (c.loop-at.invariant.1 vs)))

pub returns : goal.returns
returns c = (
  (λ e.
      let n = length c.args.self.elements.bytes.now / 8 in
      let at-end : c.loop-at.at ≡ n = omega (arith, eqb-true _ _ e) in
      c.loop-at.invariant.0 n (subst (λ x. Values c.args.self.elements.bytes.now c.args.self.offsets 64 c.loop-at.at x) at-end none)),
  (λ vs. eq-eqb _ _ (omega (arith, values_forward (c.loop-at.invariant.1 vs)))),
)
