use Rattle.std.proofs.Common.{ℕ, ◌*◌, sym, ap, ◌∙◌, arith}
use Rattle.columns.proofs.Begins.{laid_small, laid_bits, room-ended, open_close, ended_close}
use Rattle.columns.proofs.spans.Spans.close.Goals as goal

pub round_up-requires : goal.round_up-requires
round_up-requires g c = (laid_small c.args.self c.requires.laid).0

pub put_count-requires : goal.put_count-requires
put_count-requires g c =
    let s = c.args.self in
    let room = room-ended s.branch g.O.OffsetSize.WIDTH s.plan.slots s.plan.nulls s.plan.slots (sym c.is_ended.ensures ∙ c.if-is_ended.true) c.requires.suits (omega arith) in
    let w = ap (λ (k : ℕ). k * s.plan.slots) c.WIDTH.ensures in
    record { place = omega (arith, c.round_up.ensures, room, c.requires.laid.plans.offsets, w, c.requires.long); small = c.requires.small }

pub returns-then-is_ended : goal.returns-then-is_ended
returns-then-is_ended g c =
    let s = c.args.self in
    let w = ap (λ (k : ℕ). k * s.plan.slots) c.WIDTH.ensures in
    λ os begun all missing closes.
    ended_close s.plan.slots s.plan.nulls os all missing s.branch g.O.OffsetSize.WIDTH c.args.items _ c.args.out.now _ (sym c.is_ended.ensures ∙ c.if-is_ended.true) c.requires.suits closes
    (omega (arith, c.round_up.ensures, laid_bits s c.requires.laid, w)) c.put_count.ensures begun

pub returns-else-is_ended : goal.returns-else-is_ended
returns-else-is_ended g c os begun all missing closes =
    let s = c.args.self in open_close s.plan.slots s.plan.nulls os all missing s.branch c.args.out.now (sym c.is_ended.ensures ∙ c.if-is_ended.false) begun
