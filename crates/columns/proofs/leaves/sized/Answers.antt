use Rattle.std.proofs.Common.{ap, ◌∙◌, arith}
use Rattle.columns.proofs.LeafColumns.{marked_plan, bit_totals, text_totals, eight_totals}
use Rattle.columns.proofs.leaves.sized.Goals as goal

pub returns-in-Bit : goal.returns-in-Bit
returns-in-Bit g c = bit_totals c.args.layout g.O.OffsetSize.WIDTH c.args.slots c.args.seen _ c.requires c.in-Bit.is (c.new.ensures ∙ ap (marked_plan c.args.slots c.args.seen.nulls 0) (omega (arith, c.div_ceil.ensures)))

pub returns-in-Text : goal.returns-in-Text
returns-in-Text g c = text_totals c.args.layout g.O.OffsetSize.WIDTH c.args.slots c.args.seen _ c.requires c.in-Text.is c.WIDTH.result c.WIDTH.ensures c.new-in-Text.ensures

pub returns-in-Eight : goal.returns-in-Eight
returns-in-Eight g c = eight_totals c.args.layout g.O.OffsetSize.WIDTH c.args.slots c.args.seen _ c.requires c.in-Eight.is c.new-in-Eight.ensures
