use Rattle.std.proofs.Common.{◌+◌, ◌*◌, ◌<◌, length, rules}
use Rattle.rows.proofs.Placing.{lowest_within}
use Rattle.rows.proofs.structs.put_value.Goals as goal

pub overflow_mul-at : goal.overflow_mul-at
overflow_mul-at g c =
    let ns = g.N.NameIndex.names c.args.index.now in
    let room : c.args.place + c.in-Some.k * c.args.step < length c.args.work.now = c.requires.room c.in-Some.k (lowest_within ns c.as_bytes.result.now c.in-Some.k c.in-Some.ensures) in
    search rules

pub overflow_add-at : goal.overflow_add-at
overflow_add-at g c =
    let ns = g.N.NameIndex.names c.args.index.now in
    let room : c.args.place + c.in-Some.k * c.args.step < length c.args.work.now = c.requires.room c.in-Some.k (lowest_within ns c.as_bytes.result.now c.in-Some.k c.in-Some.ensures) in
    search rules

pub bounds-work-at : goal.bounds-work-at
bounds-work-at g c = c.requires.room c.in-Some.k (lowest_within (g.N.NameIndex.names c.args.index.now) c.as_bytes.result.now c.in-Some.k c.in-Some.ensures)

pub offset_bounds-work-at : goal.offset_bounds-work-at
offset_bounds-work-at g c =
    let ns = g.N.NameIndex.names c.args.index.now in
    let room : c.args.place + c.in-Some.k * c.args.step < length c.args.work.now = c.requires.room c.in-Some.k (lowest_within ns c.as_bytes.result.now c.in-Some.k c.in-Some.ensures) in
    search rules
