use Rattle.std.proofs.Common.{◌≡◌, refl, ◌∙◌, arith, length-set}
use Rattle.schema.specs.Layout.{record_count}
use Rattle.names.proofs.Fields.{row_more, row_read}
use Rattle.names.proofs.scan.Scan.over.Goals as goal

pub loop-place-preserved : goal.loop-place-preserved
loop-place-preserved c =
    let long = c.loop-place.invariant.0 in
    (length-set c.loop-place.heads c.loop-place.place _ ∙ long, row_more c.loop-place.heads c.loop-place.place _ (omega arith) (omega (arith, long)) c.loop-place.invariant.1)

pub invariant_of-result : goal.invariant_of-result
invariant_of-result c = record { few = omega arith; long = c.loop-place.invariant.0; readable = row_read c.loop-place.heads (let e : c.loop-place.place ≡ record_count c.args.records.now = omega arith in rw (← e) c.loop-place.invariant.1) (omega (arith, c.loop-place.invariant.0)) refl c.requires.inside }
