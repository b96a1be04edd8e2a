use Rattle.std.proofs.Common.{refl, ap, ◌∙◌, arith}
use Rattle.columns.proofs.Begins.{planned, planned_same, plans_all}
use Rattle.columns.proofs.spans.Spans.new.Goals as goal

pub returns : goal.returns
returns c =
    let b = c.args.branch in
    let p = planned b c.args.slots c.args.nulls c.new-plan.result (ap (λ p. p.slots) c.new-plan.ensures) (ap (λ p. p.nulls) c.new-plan.ensures) (ap (λ p. p.validity) c.new-plan.ensures) (ap (λ p. p.offsets) c.new-plan.ensures ∙ c.offsets_size-offsets.ensures) (ap (λ p. p.data_size) c.new-plan.ensures ∙ c.sizes_size.ensures) in
    record {
      laid = record { few = omega (arith, ap (λ p. p.slots) c.new-plan.ensures, c.requires); plans = planned_same b _ _ _ (ap (λ p. p.slots) c.new-plan.ensures) (ap (λ p. p.nulls) c.new-plan.ensures) p };
      same = (refl, (ap (λ p. p.slots) c.new-plan.ensures, ap (λ p. p.nulls) c.new-plan.ensures));
      plans = λ os all missing. plans_all c.args.slots c.args.nulls os all missing b _ p;
    }
