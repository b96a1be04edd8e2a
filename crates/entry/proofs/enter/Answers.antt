use Rattle.std.proofs.Common.{◌≡◌, ◌≤◌, length, sym, ap, ◌∙◌, subst, arith}
use Rattle.std.proofs.lemmas.Result.{err_from_is_err_and}
use Rattle.schema.specs.Tree.{Node, field_of, kind_of, children_of, names as names_in}
use Rattle.schema.specs.declared.kind.Branch.{Branch}
use Rattle.schema.specs.declared.kind.Branch.TheVariants.{Struct as struct, List as list, Fixed as fixed}
use Rattle.schema.specs.declared.kind.Kind.TheVariants.{Branch as a_branch}
use Rattle.schema.proofs.Nodes.{held_written, held_childed, held_limited}
use Rattle.schema.specs.Opened.{NodeOf}
use Rattle.rows.specs.Entering.{BranchEntered}
use Rattle.nodes.specs.Contract.{seen, HeldHere}
use Rattle.nodes.proofs.Forced.{by_kind}
use Rattle.entry.proofs.Entries.{struct_counts, ready_place, held_same, one_item, one_count, key_value, counted, branch_enters, leaf_enters, leaf_refused}
use Rattle.entry.proofs.enter.Goals as goal
use Rattle.entry.proofs.enter.Goals.{After-kind}

-- a struct's fields by its record, where the tree stands in the records of what reads struct rows
fields_here : (g : _) (c : After-kind g) → a_branch struct ≡ c.kind.result → (T : Node) → NodeOf (g.S.StructRows.schema c.args.named.names.now) c.args.visit.node T
    → (c.count-count.result ≡ length (names_in (children_of T))) × (c.count-count.result ≤ 64)
fields_here g c is T h =
    let same = c.args.named.same in
    let own = held_same (sym same.0, sym same.1) h in
    let n = struct_counts T (is ∙ c.kind.ensures T own) (held_limited own) in
    let k = c.count-count.ensures.node T own in
    (k ∙ n.0, omega (arith, k, n.1))

pub enter_struct-requires-clause-fields : goal.enter_struct-requires-clause-fields
enter_struct-requires-clause-fields g c = λ T h. (fields_here g (goal.at.enter_struct-requires-clause-fields g c).After-kind (sym (c.in-Branch-Struct.is ∙ ap a_branch c.in-Branch-Struct.field-0-is)) T h).0

pub enter_struct-requires-clause-limit : goal.enter_struct-requires-clause-limit
enter_struct-requires-clause-limit g c =
    let f = c.requires.ready.formed in
    (fields_here g (goal.at.enter_struct-requires-clause-limit g c).After-kind (sym (c.in-Branch-Struct.is ∙ ap a_branch c.in-Branch-Struct.field-0-is)) f.0 (held_same c.args.named.same f.1)).1

pub enter_struct-requires-clause-formed : goal.enter_struct-requires-clause-formed
enter_struct-requires-clause-formed g c = let f = c.requires.ready.formed in (f.0, held_same c.args.named.same f.1)

pub enter_struct-requires-clause-place : goal.enter_struct-requires-clause-place
enter_struct-requires-clause-place g c = ready_place c.requires.ready

pub enter_list-requires-clause-place : goal.enter_list-requires-clause-place
enter_list-requires-clause-place g c = ready_place c.requires.ready

pub enter-requires-clause-place : goal.enter-requires-clause-place
enter-requires-clause-place g c = ready_place c.requires.ready

pub enter-requires-in-Branch-Map-clause-place : goal.enter-requires-in-Branch-Map-clause-place
enter-requires-in-Branch-Map-clause-place g c = ready_place c.requires.ready

pub enter_leaf-requires-clause-place : goal.enter_leaf-requires-clause-place
enter_leaf-requires-clause-place g c = ready_place c.requires.ready

pub returns-in-Branch-Struct : goal.returns-in-Branch-Struct
returns-in-Branch-Struct g c =
    let a = c.in-Branch-Struct in
    let v = seen g.X.Leaf.meaning c.args.named.frame c.args.visit in
    let is : (T : Node) → HeldHere v T → a_branch struct ≡ kind_of T = λ T h. sym (a.is ∙ ap a_branch a.field-0-is) ∙ c.kind.ensures T h in
    branch_enters v c.args.top c.args.area.now c.enter_struct.new.area c.args.work.now c.enter_struct.new.work struct c.enter_struct.result c.requires.ready.formed is
    (λ T h. c.enter_struct.ensures (field_of T) (children_of T) (held_same c.args.named.same (subst (HeldHere v) (by_kind T (a_branch struct) (is T h)) h)))

pub returns-in-Branch-List : goal.returns-in-Branch-List
returns-in-Branch-List g c =
    let a = c.in-Branch-List in
    let v = seen g.X.Leaf.meaning c.args.named.frame c.args.visit in
    let is : (T : Node) → HeldHere v T → a_branch (list a.view a.wide) ≡ kind_of T = λ T h. sym (a.is ∙ ap a_branch a.field-0-is) ∙ c.kind.ensures T h in
    let said : (T : Node) → HeldHere v T → BranchEntered v.settings v.tape (field_of T) (list a.view a.wide) (children_of T) v.in_force v.positions c.args.top c.args.area.now c.enter_list.new.area c.args.work.now c.enter_list.new.work c.enter_list.result = λ T h.
    rw (a.view-is, a.wide-is) at (c.enter_list.ensures (field_of T) (children_of T) (held_written h).number (one_item T a.view a.wide (is T h) (held_childed h))) in
    branch_enters v c.args.top c.args.area.now c.enter_list.new.area c.args.work.now c.enter_list.new.work (list a.view a.wide) c.enter_list.result c.requires.ready.formed is said

pub returns-in-Branch-Fixed : goal.returns-in-Branch-Fixed
returns-in-Branch-Fixed g c =
    let a = c.in-Branch-Fixed in
    let v = seen g.X.Leaf.meaning c.args.named.frame c.args.visit in
    let is : (T : Node) → HeldHere v T → a_branch (fixed c.count-count.result) ≡ kind_of T = λ T h.
    counted T a.field-0-0 c.count-count.result (sym (a.is ∙ ap a_branch a.field-0-is) ∙ c.kind.ensures T h) (c.count-count.ensures.node T h) in
    branch_enters v c.args.top c.args.area.now c.enter.new.area c.args.work.now c.enter.new.work (fixed c.count-count.result) c.enter.result c.requires.ready.formed is
    (λ T h. c.enter.ensures (field_of T) (children_of T) (held_written h).number (one_count T c.count-count.result (is T h) (held_childed h)))

pub returns-in-Branch-Map : goal.returns-in-Branch-Map
returns-in-Branch-Map g c =
    let a = c.in-Branch-Map in
    let is : (T : Node) → HeldHere (seen g.X.Leaf.meaning c.args.named.frame c.args.visit) T → a_branch Branch.Map ≡ kind_of T = λ T h.
    sym (a.is ∙ ap a_branch a.field-0-is) ∙ c.kind.ensures T h in
    branch_enters (seen g.X.Leaf.meaning c.args.named.frame c.args.visit) c.args.top c.args.area.now c.enter-in-Branch-Map.new.area c.args.work.now c.enter-in-Branch-Map.new.work Branch.Map c.enter-in-Branch-Map.result c.requires.ready.formed is
    (λ T h. c.enter-in-Branch-Map.ensures (field_of T) (children_of T) (held_written h).number (key_value T (is T h) (held_childed h)))

pub returns-in_err-enter_leaf-in-Leaf : goal.returns-in_err-enter_leaf-in-Leaf
returns-in_err-enter_leaf-in-Leaf g c =
    let p = err_from_is_err_and c.from_residual.result c.from_residual.ensures.1 in
    leaf_refused (seen g.X.Leaf.meaning c.args.named.frame c.args.visit) c.args.top c.args.area.now c.enter_leaf.new.area c.args.work.now c.args.work.now c.in-Leaf.kind (λ T h. sym c.in-Leaf.is ∙ c.kind.ensures T h)
    p.0 c.in_err-enter_leaf-in-Leaf.field-0.0 c.from_residual.result p.1 p.2 c.in_err-enter_leaf-in-Leaf.ensures

pub returns-in_ok-enter_leaf-in-Leaf : goal.returns-in_ok-enter_leaf-in-Leaf
returns-in_ok-enter_leaf-in-Leaf g c =
    leaf_enters (seen g.X.Leaf.meaning c.args.named.frame c.args.visit) c.args.top c.args.area.now c.enter_leaf.new.area c.args.work.now c.args.work.now c.in-Leaf.kind (λ T h. sym c.in-Leaf.is ∙ c.kind.ensures T h)
    c.in_ok-enter_leaf-in-Leaf.field-0 c.in_ok-enter_leaf-in-Leaf.ensures
