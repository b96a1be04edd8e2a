use Rattle.std.proofs.Common.{ℕ, ◌+◌, ◌*◌, ◌/◌, cond, sym, ap, ◌∙◌, arith}
use Rattle.std.proofs.lemmas.Bool.{lt-ltb}
use Rattle.columns.proofs.Begins.{laid_small, laid_bits, room-ended, room-viewed, plain_row, ended-row, viewed-row}
use Rattle.columns.proofs.spans.Spans.put_row.Goals as goal

pub put_bit-requires : goal.put_bit-requires
put_bit-requires g c h =
    let s = c.args.self in
    let v = laid_bits s c.requires.laid ∙ ap (λ b. cond b ((s.plan.slots + 7) / 8) 0) (lt-ltb 0 s.plan.nulls h) in
    omega (arith, v, c.requires.long, c.requires.within)

pub round_up-place-requires : goal.round_up-place-requires
round_up-place-requires g c = (laid_small c.args.self c.requires.laid).0

pub put_count-requires : goal.put_count-requires
put_count-requires g c =
    let s = c.args.self in
    let room = room-ended s.branch g.O.OffsetSize.WIDTH s.plan.slots s.plan.nulls c.args.row (sym c.is_ended.ensures ∙ c.if-is_ended.true) c.requires.suits (omega arith) in
    let w = ap (λ (k : ℕ). k * c.args.row) c.WIDTH.ensures in
    record { place = omega (arith, c.round_up-place.ensures, room, c.requires.laid.plans.offsets, w, c.requires.long, c.put_bit.auto.out); small = c.requires.small.0 }

pub put_count-requires-then-is_view : goal.put_count-requires-then-is_view
put_count-requires-then-is_view g c =
    let s = c.args.self in
    let room = room-viewed s.branch g.O.OffsetSize.WIDTH s.plan.slots s.plan.nulls c.args.row (sym c.is_view.ensures ∙ c.if-is_view.true) c.requires.suits c.requires.within in
    let w = ap (λ (k : ℕ). k * c.args.row) c.WIDTH-then-is_view.ensures in
    record { place = omega (arith, c.round_up-place.ensures, room.0, c.requires.laid.plans.offsets, w, c.requires.long, c.put_bit.auto.out); small = c.requires.small.0 }

pub round_up-requires : goal.round_up-requires
round_up-requires g c = (laid_small c.args.self c.requires.laid).1

pub put_count-requires-then-is_view-2 : goal.put_count-requires-then-is_view-2
put_count-requires-then-is_view-2 g c =
    let s = c.args.self in
    let room = room-viewed s.branch g.O.OffsetSize.WIDTH s.plan.slots s.plan.nulls c.args.row (sym c.is_view.ensures ∙ c.if-is_view.true) c.requires.suits c.requires.within in
    let w = ap (λ (k : ℕ). k * c.args.row) c.WIDTH-then-is_view-2.ensures in
    record {
      place = omega (arith, c.round_up-place.ensures, c.round_up.ensures, room.1, c.requires.laid.plans.data_size, w, c.requires.long, c.put_bit.auto.out, c.put_count-then-is_view.auto.out);
      small = c.requires.small.1;
    }

pub returns-then-is_ended : goal.returns-then-is_ended
returns-then-is_ended g c =
    let s = c.args.self in
    let w = ap (λ (k : ℕ). k * c.args.row) c.WIDTH.ensures in
    λ os o begun at some counted.
    ended-row s.plan.slots s.plan.nulls os o c.args.valid c.args.row c.requires.within at some c.args.out.now _ c.put_bit.ensures s.branch g.O.OffsetSize.WIDTH c.args.start c.args.size _ _ (sym c.is_ended.ensures ∙ c.if-is_ended.true) c.requires.suits counted
    (omega (arith, c.round_up-place.ensures, laid_bits s c.requires.laid, w)) c.put_count.ensures begun

pub returns-then-is_view : goal.returns-then-is_view
returns-then-is_view g c =
    let s = c.args.self in
    let w = ap (λ (k : ℕ). k * c.args.row) c.WIDTH-then-is_view.ensures in
    let w' = ap (λ (k : ℕ). k * c.args.row) c.WIDTH-then-is_view-2.ensures in
    let v = laid_bits s c.requires.laid in
    λ os o begun at some counted.
    viewed-row s.plan.slots s.plan.nulls os o c.args.valid c.args.row c.requires.within at some c.args.out.now _ c.put_bit.ensures s.branch g.O.OffsetSize.WIDTH c.args.start c.args.size _ s.plan.offsets _ _ _ (sym c.is_view.ensures ∙ c.if-is_view.true) c.requires.suits counted
    (omega (arith, c.round_up-place.ensures, v, w)) c.requires.laid.plans.offsets (omega (arith, c.round_up-place.ensures, c.round_up.ensures, v, w')) c.put_count-then-is_view.ensures c.put_count-then-is_view-2.ensures begun

pub returns-else-is_view : goal.returns-else-is_view
returns-else-is_view g c os o begun at some counted =
    let s = c.args.self in
    plain_row s.plan.slots s.plan.nulls os o c.args.valid c.args.row c.requires.within at some c.args.out.now _ c.put_bit.ensures s.branch (sym c.is_ended.ensures ∙ c.if-is_ended.false) (sym c.is_view.ensures ∙ c.if-is_view.false) begun
