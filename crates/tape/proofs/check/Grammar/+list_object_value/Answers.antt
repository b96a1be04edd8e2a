use Rattle.std.proofs.Common.{◌+◌, sym, ◌∙◌, arith}
use Rattle.tape.specs.Grammar.Leaf.{i32}
use Rattle.tape.specs.Grammar.Value.{leaf, i64}
use Rattle.tape.specs.Grammar.Values.{none, more}
use Rattle.tape.specs.Grammar.Pairs.{no_pair, pair}
use Rattle.tape.proofs.Reading.{within, value_facts, value_within, value_forward, values_forward, pairs_forward, list_step, list_stuck, list_stop, object_step, object_stuck, object_stop, found, held, plain, value_list, value_object, list_to, object_to, list_met, object_met}
use Rattle.tape.proofs.check.Grammar.+list_object_value.Goals as goal

-- list

pub list-returns-then-letter-eq93 : goal.list-returns-then-letter-eq93
list-returns-then-letter-eq93 t c =
    let a = sym c.letter.ensures ∙ c.if-letter-eq93.true in
    (record { values = c.loop-at.invariant.1 _ none; closes = a; within = omega arith }, λ k l. list_stop a k (c.loop-at.invariant.2 k l))

pub list-returns-in_err-at : goal.list-returns-in_err-at
list-returns-in_err-at t c =
    rw c.from_residual.ensures (λ k l. list_stuck (λ a. c.if-letter-eq93.false (c.letter.ensures ∙ a)) c.in_err-at.ensures k (c.loop-at.invariant.2 k l))

pub list-loop-at-smaller : goal.list-loop-at-smaller
list-loop-at-smaller t c = omega (arith, value_forward c.in_ok-at.ensures.0)

pub list-loop-at-preserved : goal.list-loop-at-preserved
list-loop-at-preserved t c =
    let v = c.in_ok-at.ensures.0 in (
      omega (arith, value_forward v),
      (λ k vs. c.loop-at.invariant.1 k (more v vs)),
      (λ k l. list_step (λ a. c.if-letter-eq93.false (c.letter.ensures ∙ a)) v k (c.loop-at.invariant.2 k l)),
    )

pub list-returns : goal.list-returns
list-returns t c = λ k l. let x = c.loop-at.invariant.2 k l in omega (arith, values_forward x.values, x.within)

-- object

pub object-returns-in-125 : goal.object-returns-in-125
object-returns-in-125 t c =
    let a = sym c.letter.ensures ∙ c.in-125.is in
    (record { pairs = c.loop-at.invariant.1 _ no_pair; closes = a; within = omega arith }, λ k l. object_stop a k (c.loop-at.invariant.2 k l))

pub object-returns-in_default : goal.object-returns-in_default
object-returns-in_default t c =
    λ k l. object_stuck (λ a. omega arith) (λ s q v. omega (arith, s.letter)) k (c.loop-at.invariant.2 k l)

pub object-returns-in_default-2 : goal.object-returns-in_default-2
object-returns-in_default-2 t c =
    λ k l. object_stuck (λ a. omega arith) (λ s q v. omega (arith, s.held)) k (c.loop-at.invariant.2 k l)

pub object-returns-in_err-at-in-s : goal.object-returns-in_err-at-in-s
object-returns-in_err-at-in-s t c =
    rw c.from_residual.ensures (λ k l. object_stuck (λ a. omega arith) (λ s. c.in_err-at-in-s.ensures) k (c.loop-at.invariant.2 k l))

pub object-loop-at-smaller : goal.object-loop-at-smaller
object-loop-at-smaller t c = omega (arith, value_forward c.in_ok-at-in-s.ensures.0)

pub object-loop-at-preserved : goal.object-loop-at-preserved
object-loop-at-preserved t c =
    let v = c.in_ok-at-in-s.ensures.0 in (
      omega (arith, value_forward v),
      (λ k ps. c.loop-at.invariant.1 k (pair (record { letter = sym c.letter.ensures ∙ c.in-s.is; held = omega arith }) v ps)),
      (λ k l. object_step (λ a. omega arith) v k (c.loop-at.invariant.2 k l)),
    )

pub object-returns : goal.object-returns
object-returns t c = λ k l. let x = c.loop-at.invariant.2 k l in omega (arith, pairs_forward x.pairs, x.within)

-- value

pub value-returns-then-at-len : goal.value-returns-then-at-len
value-returns-then-at-len t c = λ k v. omega (arith, value_within c.args.self.elements.whole v)

pub value-returns-in_err-list-in-91 : goal.value-returns-in_err-list-in-91
value-returns-in_err-list-in-91 t c =
    rw c.from_residual.ensures (λ k v. let x = value_list (sym c.letter.ensures ∙ c.in-91.is) v in c.in_err-list-in-91.ensures x.end (list_to c.args.self.elements.whole x))

pub value-returns-in_err-object-in-123 : goal.value-returns-in_err-object-in-123
value-returns-in_err-object-in-123 t c =
    rw c.from_residual-in_err-object-in-123.ensures (λ k v. let x = value_object (sym c.letter.ensures ∙ c.in-123.is) v in c.in_err-object-in-123.ensures x.end (object_to c.args.self.elements.whole x))

pub value-returns-in-s : goal.value-returns-in-s
value-returns-in-s t c = found (leaf (held c.letter.ensures c.number-n.ensures c.in-s.is c.if-n-self.true))

pub value-returns-in-i : goal.value-returns-in-i
value-returns-in-i t c = found (leaf (i32 (sym c.letter.ensures ∙ c.in-i.is)))

pub value-returns-in-t : goal.value-returns-in-t
value-returns-in-t t c = found (leaf (plain c.letter.ensures c.number-n.ensures c.in-t.is c.if-n-eq0.true))

pub value-returns-in-j : goal.value-returns-in-j
value-returns-in-j t c = found (i64 (sym c.letter.ensures ∙ c.in-j.is) (omega arith))

pub value-returns-in_ok-list-in-91 : goal.value-returns-in_ok-list-in-91
value-returns-in_ok-list-in-91 t c =
    list_met c.args.depth c.args.at c.args.self.elements.whole c.if-depth-gt0.true (sym c.letter.ensures ∙ c.in-91.is) c.in_ok-list-in-91.ensures c.after.result c.after.ensures

pub value-returns-in_ok-object-in-123 : goal.value-returns-in_ok-object-in-123
value-returns-in_ok-object-in-123 t c =
    object_met c.args.depth c.args.at c.args.self.elements.whole c.if-depth-gt0-2.true (sym c.letter.ensures ∙ c.in-123.is) c.in_ok-object-in-123.ensures c.after-in-123.result c.after-in-123.ensures

pub value-returns-in_default : goal.value-returns-in_default
value-returns-in_default t c = λ k v. omega (arith, value_facts v)

pub value-returns-in_default-2 : goal.value-returns-in_default-2
value-returns-in_default-2 t c = λ k v. omega (arith, value_facts v)

pub value-returns-in_default-3 : goal.value-returns-in_default-3
value-returns-in_default-3 t c = λ k v. omega (arith, value_facts v)

pub value-returns-in_default-4 : goal.value-returns-in_default-4
value-returns-in_default-4 t c = λ k v. omega (arith, value_facts v, within c.args.self.elements.bytes.now (c.args.at + 1) c.args.self.elements.whole)

pub value-returns-in_default-5 : goal.value-returns-in_default-5
value-returns-in_default-5 t c = λ k v. omega (arith, value_facts v)

pub value-returns-in_default-6 : goal.value-returns-in_default-6
value-returns-in_default-6 t c = λ k v. omega (arith, value_facts v)

pub value-returns-in_default-7 : goal.value-returns-in_default-7
value-returns-in_default-7 t c = λ k v. grind (arith, value_facts v)
