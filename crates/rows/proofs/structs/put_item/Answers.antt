use Rattle.std.proofs.Common.{◌≡◌, ℕ, true, cond, replicate, sym, ap, ◌∙◌, subst, arith}
use Rattle.slip.specs.Slips.{is_got}
use Rattle.tape.specs.Layout.{the}
use Rattle.tape.specs.Opened.{view_of}
use Rattle.tape.specs.View.{is_at, entries}
use Rattle.batch.specs.Rows.{placed}
use Rattle.rows.specs.Filling.{Spread}
use Rattle.rows.specs.Kinds.{numbered}
use Rattle.rows.specs.Structs.{column}
use Rattle.rows.proofs.Placing.{item-placed, item_count, item-entries}
use Rattle.rows.proofs.structs.put_item.Goals as goal

pub put_entries-requires : goal.put_entries-requires
put_entries-requires g c =
    let r = c.args.reading in
    let ns = g.N.NameIndex.names c.args.index.now in
    record {
      position = c.requires.position;
      list = subst (λ b. is_at (view_of r.rows.tape) (cond b (the "[") (the "{")) c.args.p ≡ true) c.if-reading.true c.requires.begun;
      room = λ j h. c.requires.room j (omega (arith, c.requires.tied.count, item_count r ns c.args.p c.if-reading.true c.requires.accepted));
      apart = c.requires.apart;
    }

pub put_values-requires : goal.put_values-requires
put_values-requires g c =
    let r = c.args.reading in
    let t = view_of r.rows.tape in
    let ns = g.N.NameIndex.names c.args.index.now in
    record {
      fields = c.requires.tied.count;
      position = c.requires.position;
      object = subst (λ b. is_at t (cond b (the "[") (the "{")) c.args.p ≡ true) c.if-reading.false c.requires.begun;
      accepted =
          subst (λ m. is_got (placed r.settings t (numbered r.node) ns (entries t c.args.p) (replicate {A = ℕ} m 0)) ≡ true) (sym c.requires.tied.count)
          (ap is_got (sym (item-placed r ns c.args.p c.if-reading.false)) ∙ c.requires.accepted);
      room = c.requires.room;
      apart = c.requires.apart;
    }

pub returns-then-reading : goal.returns-then-reading
returns-then-reading g c =
    let ns = g.N.NameIndex.names c.args.index.now in
    λ item e. subst (λ xs. Spread c.args.place c.args.step xs c.args.work.now c.put_entries.new.work) (item-entries c.args.reading ns c.args.p c.if-reading.true item e) c.put_entries.ensures.spread

pub returns-else-reading : goal.returns-else-reading
returns-else-reading g c =
    let r = c.args.reading in
    let t = view_of r.rows.tape in
    let ns = g.N.NameIndex.names c.args.index.now in
    let own = column c.put_values.new.work c.args.place c.args.step c.args.fields in
    λ item e.
    let q = sym c.put_values.ensures.item ∙ ap (λ m. placed r.settings t (numbered r.node) ns (entries t c.args.p) (replicate {A = ℕ} m 0)) c.requires.tied.count ∙ sym (item-placed r ns c.args.p c.if-reading.false) ∙ e in
    let w : own ≡ item = cc in
    subst (λ xs. Spread c.args.place c.args.step xs c.args.work.now c.put_values.new.work) w c.put_values.ensures.spread
