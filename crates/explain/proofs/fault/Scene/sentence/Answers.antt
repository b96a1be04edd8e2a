use Rattle.std.proofs.Common.{sym, ap}
use Rattle.slip.specs.declared.Fault.TheVariants.{WrongKind, ExtraColumn, FewColumns, WrongCount}
use Rattle.tape.specs.Opened.{view_of}
use Rattle.schema.specs.Tree.{node_at}
use Rattle.explain.specs.Explanation.{is_fixed, wrong_kind, extra_column, few_columns, wrong_count}
use Rattle.explain.specs.Nested.{whole_text}
use Rattle.explain.specs.Way.{is_struct}
use Rattle.explain.proofs.Texts.{held_there, held_kind, alike, both, told_by}
use Rattle.explain.proofs.fault.Scene.sentence.Goals as goal

pub returns-in-WrongKind : goal.returns-in-WrongKind
returns-in-WrongKind c root r =
    let s = c.args.self in
    let t = view_of s.tape in
    let x = c.in-WrongKind in
    let h = c.if-has.ensures root r in
    told_by root t s.settings s.own.now c.args.fault (WrongKind x.node x.position) x.is (sym h)
    (ap (λ w. wrong_kind w (whole_text t x.position)) (c.word.ensures (node_at root x.node) (held_there t r x.node x.position h)))

pub returns-in-ExtraColumn : goal.returns-in-ExtraColumn
returns-in-ExtraColumn c root r =
    let s = c.args.self in
    let t = view_of s.tape in
    let x = c.in-ExtraColumn in
    let h = c.if-has_struct-2.ensures root r in
    told_by root t s.settings s.own.now c.args.fault (ExtraColumn x.node x.entry) x.is (sym h)
    (ap extra_column (c.count.ensures.node (node_at root x.node) (held_kind t r x.node x.entry is_struct h)))

pub returns-in-FewColumns : goal.returns-in-FewColumns
returns-in-FewColumns c root r =
    let s = c.args.self in
    let t = view_of s.tape in
    let x = c.in-FewColumns in
    let h = c.if-has_struct-3.ensures root r in
    let n = c.count-in-FewColumns.ensures.node (node_at root x.node) (held_kind t r x.node x.row is_struct h) in
    told_by root t s.settings s.own.now c.args.fault (FewColumns x.node x.row) x.is (both h c.if-is_at-2.ensures)
    (alike few_columns c.entry_count.ensures n)

pub returns-in-WrongCount : goal.returns-in-WrongCount
returns-in-WrongCount c root r =
    let s = c.args.self in
    let t = view_of s.tape in
    let x = c.in-WrongCount in
    let h = c.if-has_fixed.ensures root r in
    let n = c.count-in-WrongCount.ensures.node (node_at root x.node) (held_kind t r x.node x.row is_fixed h) in
    told_by root t s.settings s.own.now c.args.fault (WrongCount x.node x.row) x.is (both h c.if-is_at-3.ensures)
    (alike wrong_count n c.entry_count-in-WrongCount.ensures)
