use Rattle.std.proofs.Common.{◌≡◌, ℕ, ◌+◌, ◌≤◌, not, [], ◌∷◌, map, length, get_or, take, sym, refl, ap, ◌∙◌, subst, arith}
use lib.ListN.{length-replicate}
use Rattle.std.proofs.lemmas.List.{take_all, length-append, length-map, length-take-le, map_more}
use Rattle.octets.specs.Lists.{joined, is_some}
use Rattle.tape.specs.Opened.{view_of}
use Rattle.schema.specs.Tree.{many}
use Rattle.batch.specs.Values.{taken, zeros}
use Rattle.batch.specs.Batch.{branch_column, buffers}
use Rattle.columns.specs.Plans.{bytes_of}
use Rattle.columns.specs.Spans.{Begun, Suits, Counted, Closes}
use Rattle.columns.proofs.Begins.{begun_none}
use Rattle.rows.specs.Kinds.{row_in, row_there, items_in}
use Rattle.rows.specs.Filling.{Filled, Positions}
use Rattle.rows.proofs.Cells.{filled_none, filled_more}
use Rattle.rows.proofs.Sizes.{zero_position, append_positions}
use Rattle.rows.proofs.Spanned.{counted-row, closed_rows, not_null}
use Rattle.rows.proofs.Tallies.{gathered, gathered_more, gathered-room, all_got, joined_through}
use Rattle.rows.proofs.passes.fill_rows.Goals as goal

pub loop-slot-init : goal.loop-slot-init
loop-slot-init g c = (
  refl,
  filled_none (many (g.K.RowKind.children c.args.kind.now)) c.args.stride 0 c.args.work.now,
  (λ i k. zero_position (view_of c.args.reading.rows.tape) c.args.reading.rows.tape.opened),
  begun_none c.args.spans c.args.out.now c.requires.spans.laid c.requires.spans.blank,
)

pub fill_row-row-requires : goal.fill_row-row-requires
fill_row-row-requires g c =
    let b = g.K.RowKind.branch c.args.kind.now in
    let cs = g.K.RowKind.children c.args.kind.now in
    let ps = c.args.reading.rows.positions.now in
    let i = c.loop-slot.slot in
    let h = c.loop-slot-test.true in
    let G = items_in c.args.reading b cs in
    record {
      ready = c.requires.ready;
      few = c.requires.few;
      position = c.args.reading.rows.taken i h;
      accepted = all_got (row_in c.args.reading b cs) ps c.requires.accepted i h;
      room = omega (arith, gathered-room G ps (i + 1), ap length (gathered_more G ps i h), length-append (gathered G ps i) (G (get_or ps i 0)), c.loop-slot.invariant.0, c.requires.all);
      lent = omega arith;
    }

pub overflow_add-at : goal.overflow_add-at
overflow_add-at g c =
    let b = g.K.RowKind.branch c.args.kind.now in
    let cs = g.K.RowKind.children c.args.kind.now in
    let ps = c.args.reading.rows.positions.now in
    let i = c.loop-slot.slot in
    let G = items_in c.args.reading b cs in
    omega (arith, gathered-room G ps (i + 1), ap length (gathered_more G ps i c.loop-slot-test.true), length-append (gathered G ps i) (G (get_or ps i 0)), c.loop-slot.invariant.0, c.requires.all, ap (λ x. x.items) c.fill_row-row.ensures.said)

pub loop-slot-preserved : goal.loop-slot-preserved
loop-slot-preserved g c =
    let b = g.K.RowKind.branch c.args.kind.now in
    let cs = g.K.RowKind.children c.args.kind.now in
    let t = view_of c.args.reading.rows.tape in
    let ps = c.args.reading.rows.positions.now in
    let i = c.loop-slot.slot in
    let h = c.loop-slot-test.true in
    let G = items_in c.args.reading b cs in
    let done = gathered G ps i in
    let more = sym (gathered_more G ps i h) in
    let n : c.loop-slot.at ≡ length done = c.loop-slot.invariant.0 in
    let said = c.fill_row-row.ensures in
    let R = row_there c.args.reading b cs in
    let sp = c.args.spans in
    let os = map R (take i ps) in
    let o = R (get_or ps i 0) in
    let long : length os ≡ i = length-map (take i ps) R ∙ length-take-le i ps (omega arith) in
    let valid : is_some o ≡ not c.fill_row-row.result.null = not_null o ∙ ap (λ x. not x.null) (sym said.said) in
    let counts : Counted sp.branch os o c.loop-slot.at c.fill_row-row.result.items =
    subst (λ x. Counted x os o c.loop-slot.at c.fill_row-row.result.items) (sym c.requires.spans.branch)
    (counted-row b cs os o c.loop-slot.at c.fill_row-row.result.items (n ∙ ap length (sym (joined_through (taken b (zeros cs)) R (take i ps)))) (ap (λ x. x.items) said.said)) in
    let filled = subst (λ a. Filled (many cs) c.args.stride a (G (get_or ps i 0)) c.loop-slot.work c.fill_row-row.new.work) n said.filled in (
      omega (arith, ap (λ x. x.items) said.said, ap length (gathered_more G ps i h), length-append done (G (get_or ps i 0))),
      subst (λ xs. Filled (many cs) c.args.stride 0 xs c.args.work.now c.fill_row-row.new.work) more (filled_more (many cs) c.args.stride done (G (get_or ps i 0)) c.args.work.now c.loop-slot.work c.fill_row-row.new.work c.loop-slot.invariant.1 filled),
      subst (Positions t) more (append_positions t done (G (get_or ps i 0)) c.loop-slot.invariant.2 said.positions),
      subst (Begun sp c.put_row.new.out) (sym (map_more R ps i 0 h)) (c.put_row.ensures os o c.loop-slot.invariant.3 long valid counts),
    )

pub put_row-requires : goal.put_row-requires
put_row-requires g c =
    let b = g.K.RowKind.branch c.args.kind.now in
    let cs = g.K.RowKind.children c.args.kind.now in
    let ps = c.args.reading.rows.positions.now in
    let i = c.loop-slot.slot in
    let h = c.loop-slot-test.true in
    let G = items_in c.args.reading b cs in
    let plan = c.args.spans.plan in
    let all : length (gathered G ps i) + length (G (get_or ps i 0)) ≤ c.args.stride =
    omega (arith, gathered-room G ps (i + 1), ap length (gathered_more G ps i h), length-append (gathered G ps i) (G (get_or ps i 0)), c.requires.all) in
    record {
      laid = c.requires.spans.laid;
      suits = subst (Suits g.O.OffsetSize.WIDTH) (sym c.requires.spans.branch) c.requires.spans.suits;
      long = c.loop-slot.auto.out ∙ ap length c.requires.spans.blank ∙ length-replicate {A = ℕ} (bytes_of plan) 0;
      within = omega (arith, c.requires.spans.slots, length-map ps (row_there c.args.reading b cs));
      small = (omega (arith, all, c.loop-slot.invariant.0), omega (arith, all, ap (λ x. x.items) c.fill_row-row.ensures.said));
    }

pub close-requires : goal.close-requires
close-requires g c =
    let b = g.K.RowKind.branch c.args.kind.now in
    let cs = g.K.RowKind.children c.args.kind.now in
    let G = items_in c.args.reading b cs in
    record {
      laid = c.requires.spans.laid;
      suits = subst (Suits g.O.OffsetSize.WIDTH) (sym c.requires.spans.branch) c.requires.spans.suits;
      long = c.loop-slot.auto.out ∙ ap length c.requires.spans.blank ∙ length-replicate {A = ℕ} (bytes_of c.args.spans.plan) 0;
      small = omega (arith, gathered-room G c.args.reading.rows.positions.now c.loop-slot.slot, c.loop-slot.invariant.0, c.requires.all);
    }

pub returns : goal.returns
returns g c =
    let b = g.K.RowKind.branch c.args.kind.now in
    let cs = g.K.RowKind.children c.args.kind.now in
    let ps = c.args.reading.rows.positions.now in
    let G = items_in c.args.reading b cs in
    let e = ap (λ qs. joined (map G qs)) (take_all c.loop-slot.slot ps c.loop-slot-test.false) in
    let R = row_there c.args.reading b cs in
    let sp = c.args.spans in
    let everything = take_all c.loop-slot.slot ps c.loop-slot-test.false in
    let closes : Closes sp.branch (map R ps) c.loop-slot.at =
    subst (λ x. Closes x (map R ps) c.loop-slot.at) (sym c.requires.spans.branch)
    (closed_rows b cs (map R ps) c.loop-slot.at (c.loop-slot.invariant.0 ∙ ap length (e ∙ sym (joined_through (taken b (zeros cs)) R ps)))) in
    record {
      filled = subst (λ xs. Filled (many cs) c.args.stride 0 xs c.args.work.now c.loop-slot.work) e c.loop-slot.invariant.1;
      positions = subst (Positions (view_of c.args.reading.rows.tape)) e c.loop-slot.invariant.2;
      written =
          c.close.ensures (map R ps) (subst (λ qs. Begun sp c.loop-slot.out (map R qs)) everything c.loop-slot.invariant.3) c.requires.spans.slots c.requires.spans.nulls closes
          ∙ ap (λ x. buffers (branch_column x (map R ps) ∷ [])) c.requires.spans.branch;
    }
