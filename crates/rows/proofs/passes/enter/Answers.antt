use Rattle.std.proofs.Common.{◌≡◌, ◌-◌, ◌*◌, ◌≤◌, map, length, replicate, sym, ap, ◌∙◌, arith}
use borrow.Rule.Slice.PartMut.{put_mid}
use Rattle.std.proofs.lemmas.List.{length-map}
use Rattle.std.proofs.lemmas.Result.{err_from_is_err_and}
use Rattle.octets.specs.Lists.{part}
use Rattle.slip.specs.Slips.{each, slip_of}
use Rattle.tape.specs.Opened.{view_of}
use Rattle.schema.specs.Tree.{many}
use Rattle.batch.specs.Batch.{branch_column}
use Rattle.columns.specs.Plans.{bytes_of}
use Rattle.columns.proofs.Begins.{plans_size}
use Rattle.columns.proofs.Places.{blank_behind, column-written, space-there, recordable}
use Rattle.rows.specs.Kinds.{numbered, row_in, row_there, counts_of}
use Rattle.rows.proofs.Alike.{entered_alike}
use Rattle.rows.proofs.Enters.{read, enter_refused, enter_full, enter_done}
use Rattle.rows.proofs.Spanned.{column_plans, few_items}
use Rattle.rows.proofs.Tallies.{refused_then}
use Rattle.rows.proofs.passes.enter.Goals as goal

pub returns-in_err-counted : goal.returns-in_err-counted
unfolding row_in
returns-in_err-counted g c =
    let r = c.args.reading in
    let b = g.K.RowKind.branch c.args.kind.now in
    let cs = g.K.RowKind.children c.args.kind.now in
    let ps = c.args.reading.rows.positions.now in
    let y = c.in_err-counted.field-0.0 in
    let p = err_from_is_err_and c.from_residual.result c.from_residual.ensures.1 in
    rw (p.1, p.2) (λ f ds e like. entered_alike r.settings (view_of r.rows.tape) (numbered r.node) f b cs ds r.in_force ps c.args.top c.args.area.now _ c.args.work.now _ (sym e) like _ (enter_refused r.settings (view_of r.rows.tape) (numbered r.node) b cs r.in_force ps c.args.top c.args.area.now c.args.work.now c.args.work.now y
    (refused_then (each (row_in r b cs) ps) (counts_of b cs) (slip_of y) c.in_err-counted.ensures.said)))

pub returns-in_err-next : goal.returns-in_err-next
unfolding row_in
returns-in_err-next g c =
    let r = c.args.reading in
    let b = g.K.RowKind.branch c.args.kind.now in
    let cs = g.K.RowKind.children c.args.kind.now in
    let ps = c.args.reading.rows.positions.now in
    let n = c.in_ok-counted.counted in
    let rd = read b cs (row_in r b cs) ps n c.in_ok-counted.ensures.said in
    let os = map (row_there r b cs) ps in
    let made = c.new-spans.ensures in
    let planned = column_plans c.new-spans.result c.branch-branch.result b (length ps) n.nulls os c.branch-branch.ensures made.laid made.plans (length-map ps (row_there r b cs)) rd.empty in
    let y = c.in_err-next.field-0.0 in
    let p = err_from_is_err_and c.from_residual-in_err-next.result c.from_residual-in_err-next.ensures.1 in
    rw (p.1, p.2) (λ f ds e like. entered_alike r.settings (view_of r.rows.tape) (numbered r.node) f b cs ds r.in_force ps c.args.top c.args.area.now _ c.args.work.now _ (sym e) like _ (enter_full r.settings (view_of r.rows.tape) (numbered r.node) b cs r.in_force ps c.args.top c.args.area.now c.args.work.now c.args.work.now n rd c.kids-kids.result c.kids-kids.ensures.many y
    (c.in_err-next.ensures (branch_column b os) planned.1)))

pub put_record-requires : goal.put_record-requires
unfolding row_in
put_record-requires g c =
    let r = c.args.reading in
    let b = g.K.RowKind.branch c.args.kind.now in
    let cs = g.K.RowKind.children c.args.kind.now in
    let ps = c.args.reading.rows.positions.now in
    let n = c.in_ok-counted.counted in
    let rd = read b cs (row_in r b cs) ps n c.in_ok-counted.ensures.said in
    let os = map (row_there r b cs) ps in
    let made = c.new-spans.ensures in
    let planned = column_plans c.new-spans.result c.branch-branch.result b (length ps) n.nulls os c.branch-branch.ensures made.laid made.plans (length-map ps (row_there r b cs)) rd.empty in
    let there = space-there (length c.args.area.now) (length c.args.work.now) r.node c.args.top (c.kids-kids.result * n.items) (branch_column b os) c.in_ok-next.next (c.in_ok-next.ensures (branch_column b os) planned.1) in
    record {
      room = omega (arith, c.requires.place.apart, c.requires.place.within);
      fits = recordable c.new-spans.result.plan (branch_column b os) c.args.top (length c.args.area.now) planned.0 there.0 c.requires.place.page made.laid.few (omega (arith, made.same.1.1, c.in_ok-counted.ensures.few.1));
    }

pub fill_rows-requires : goal.fill_rows-requires
unfolding row_in
fill_rows-requires g c =
    let r = c.args.reading in
    let b = g.K.RowKind.branch c.args.kind.now in
    let cs = g.K.RowKind.children c.args.kind.now in
    let ps = c.args.reading.rows.positions.now in
    let n = c.in_ok-counted.counted in
    let rd = read b cs (row_in r b cs) ps n c.in_ok-counted.ensures.said in
    let os = map (row_there r b cs) ps in
    let made = c.new-spans.ensures in
    let planned = column_plans c.new-spans.result c.branch-branch.result b (length ps) n.nulls os c.branch-branch.ensures made.laid made.plans (length-map ps (row_there r b cs)) rd.empty in
    let area = c.args.area.now in
    let top = c.args.top in
    let next = c.in_ok-next.next in
    let column = branch_column b os in
    let there = space-there (length area) (length c.args.work.now) r.node top (c.kids-kids.result * n.items) column next (c.in_ok-next.ensures column planned.1) in
    let lent : many cs * n.items ≤ length c.args.work.now = omega (arith, there.1, ap (λ k. k * n.items) c.kids-kids.ensures.many) in
    record {
      ready = c.requires.ready;
      few = c.requires.few;
      accepted = rd.accepted_all;
      all = rd.items;
      lent = lent;
      small = few_items (many cs) n.items (length c.args.work.now) lent c.requires.lent c.in_ok-counted.ensures.few.2;
      spans = record {
        branch = made.same.0 ∙ c.branch-branch.ensures;
        suits = c.requires.suits;
        laid = made.laid;
        slots = length-map ps (row_there r b cs) ∙ sym made.same.1.0;
        nulls = rd.empty ∙ sym made.same.1.1;
        blank =
            ap (λ a. part a top (next - top)) (c.put_record.ensures column planned.0)
            ∙ blank_behind area r.node top (next - top) column c.requires.place (omega (arith, there.0, there.2))
            ∙ ap (λ k. replicate k 0) (let k : next - top ≡ bytes_of c.new-spans.result.plan = omega (arith, there.2, plans_size c.new-spans.result.plan column planned.0) in k);
      };
    }

pub returns : goal.returns
unfolding row_in
returns g c =
    let r = c.args.reading in
    let b = g.K.RowKind.branch c.args.kind.now in
    let cs = g.K.RowKind.children c.args.kind.now in
    let ps = c.args.reading.rows.positions.now in
    let n = c.in_ok-counted.counted in
    let rd = read b cs (row_in r b cs) ps n c.in_ok-counted.ensures.said in
    let os = map (row_there r b cs) ps in
    let made = c.new-spans.ensures in
    let planned = column_plans c.new-spans.result c.branch-branch.result b (length ps) n.nulls os c.branch-branch.ensures made.laid made.plans (length-map ps (row_there r b cs)) rd.empty in
    let area = c.args.area.now in
    let top = c.args.top in
    let next = c.in_ok-next.next in
    let column = branch_column b os in
    let space = c.in_ok-next.ensures column planned.1 in
    let there = space-there (length area) (length c.args.work.now) r.node top (c.kids-kids.result * n.items) column next space in
    let filled = c.fill_rows.ensures in
    λ f ds e like. entered_alike r.settings (view_of r.rows.tape) (numbered r.node) f b cs ds r.in_force ps c.args.top c.args.area.now _ c.args.work.now _ (sym e) like _
    (enter_done r.settings (view_of r.rows.tape) (numbered r.node) b cs r.in_force ps top area c.args.work.now c.fill_rows.new.work n rd c.kids-kids.result c.kids-kids.ensures.many next
    (put_mid top (next - top) c.put_record.new.area c.fill_rows.new.out) space c.fill_rows.auto.work filled.filled filled.positions
    (ap (λ a. put_mid top (next - top) a c.fill_rows.new.out) (c.put_record.ensures column planned.0)
    ∙ column-written area r.node top (next - top) column c.fill_rows.new.out filled.written (omega (arith, there.2))))
