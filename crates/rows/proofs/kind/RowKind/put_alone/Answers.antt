use Rattle.std.proofs.Common.{◌≡◌, ℕ, ◌+◌, ◌≤◌, length, sym, ap, ◌∙◌, subst}
use Rattle.slip.specs.Slips.{accepted, is_got}
use Rattle.tape.specs.Opened.{view_of}
use Rattle.schema.specs.Tree.{Fields, many}
use Rattle.schema.specs.declared.kind.Branch.{Branch}
use Rattle.batch.specs.Values.{taken, zeros}
use Rattle.rows.specs.declared.Reading.{Reading}
use Rattle.rows.specs.Kinds.{row_in, items_in}
use Rattle.rows.specs.Filling.{Filled, Positions}
use Rattle.rows.proofs.kind.RowKind.put_alone.Goals as goal

-- the items of a row that is the same are the same
items : (q r : Reading) (b : Branch) (cs : Fields) (p : ℕ) → row_in q b cs p ≡ row_in r b cs p → items_in q b cs p ≡ items_in r b cs p
items q r b cs p e = ap (λ o. taken b (zeros cs) (accepted o)) e

pub put-requires-clause-accepted : goal.put-requires-clause-accepted
put-requires-clause-accepted g c =
    ap is_got (c.without_rows.ensures.same (g.Self.RowKind.branch c.args.self.now) (g.Self.RowKind.children c.args.self.now) c.args.p) ∙ c.requires.accepted

pub put-requires-clause-room : goal.put-requires-clause-room
put-requires-clause-room g c =
    let b = g.Self.RowKind.branch c.args.self.now in
    let cs = g.Self.RowKind.children c.args.self.now in
    subst (λ is. c.args.at + length is ≤ c.args.stride) (sym (items c.without_rows.result c.args.reading b cs c.args.p (c.without_rows.ensures.same b cs c.args.p))) c.requires.room

pub returns-clause-count : goal.returns-clause-count
returns-clause-count g c =
    let b = g.Self.RowKind.branch c.args.self.now in
    let cs = g.Self.RowKind.children c.args.self.now in
    c.put.ensures.count ∙ ap length (items c.without_rows.result c.args.reading b cs c.args.p (c.without_rows.ensures.same b cs c.args.p))

pub returns-clause-filled : goal.returns-clause-filled
returns-clause-filled g c =
    let b = g.Self.RowKind.branch c.args.self.now in
    let cs = g.Self.RowKind.children c.args.self.now in
    subst (λ is. Filled (many cs) c.args.stride c.args.at is c.args.work.now c.put.new.work) (items c.without_rows.result c.args.reading b cs c.args.p (c.without_rows.ensures.same b cs c.args.p)) c.put.ensures.filled

pub returns-clause-positions : goal.returns-clause-positions
returns-clause-positions g c =
    let b = g.Self.RowKind.branch c.args.self.now in
    let cs = g.Self.RowKind.children c.args.self.now in
    subst (λ t. Positions (view_of t) (items_in c.args.reading b cs c.args.p)) c.without_rows.ensures.tape
    (subst (Positions (view_of c.without_rows.result.rows.tape)) (items c.without_rows.result c.args.reading b cs c.args.p (c.without_rows.ensures.same b cs c.args.p)) c.put.ensures.positions)
