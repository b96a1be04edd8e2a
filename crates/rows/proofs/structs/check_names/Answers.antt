use Rattle.std.proofs.Common.{◌≡◌, ℕ, List, [], set, Some, None, sym, ap, ◌∙◌}
use Rattle.tape.specs.Ahead.{pairs_rest}
use Rattle.tape.specs.Opened.{view_of}
use Rattle.tape.specs.View.{entries, words_at}
use Rattle.tape.proofs.Ahead.{in_turn, pair_at}
use Rattle.names.specs.Lowest.{lowest}
use Rattle.batch.specs.Rows.{placed}
use Rattle.rows.specs.Kinds.{numbered}
use Rattle.rows.proofs.Placing.{accepts, elements_of, elements-pairs, some_found, none_found, placed_some, placed_unknown, placed_free}
use Rattle.rows.proofs.structs.check_names.Given as given
use Rattle.rows.proofs.structs.check_names.Goals as goal
use Rattle.rows.proofs.structs.check_names.Goals.{After-into_iter-name-iterator}

pub words-requires : goal.words-requires
words-requires g c =
    let t = c.args.reading.rows.tape in
    let here = (pair_at (view_of t) t.opened c.args.p c.requires.position c.requires.object c.loop-name.yielded _ (c.in-Some.name, c.in-Some.field-0-1)
    (in_turn pairs_rest c.loop-name.yielded c.into_iter-name-iterator.result c.loop-name.name-iterator (cc) c.loop-name.yielded_by c.in-Some.ensures.steps)).0 in
    record { position = here.name; string = here.letter }

pub loop-name-preserved : goal.loop-name-preserved
loop-name-preserved g c =
    let s = c.args.reading.settings in
    let t = view_of c.args.reading.rows.tape in
    let own = numbered c.args.reading.node in
    let ns = g.N.NameIndex.names c.args.index.now in
    let name = c.in-Some.name in
    let value = c.in-Some.field-0-1 in
    let rest = elements_of (pairs_rest c.next.new.self) in
    let found = some_found c.find.result c.is_none.result c.is_none.ensures c.if-is_none.false in
    let e : lowest ns (words_at t name) ≡ Some found.0 = ap (lowest ns) (sym (c.as_bytes.ensures.value ∙ c.words.ensures)) ∙ sym c.find.ensures ∙ found.1 in (
      tt,
      tt,
      placed_free s t own ns rest [] (set [] found.0 value)
          ∙ ap accepts (sym (placed_some s t own ns name value rest [] found.0 e))
          ∙ ap (λ ps. accepts (placed s t own ns (elements_of ps) [])) (sym c.in-Some.ensures.steps) ∙ c.loop-name.invariant.2,
    )

-- all pairs are taken where the entries are, over whatever values
whole : (g : given.Over) (c : After-into_iter-name-iterator g) (at : List ℕ)
    → accepts (placed c.args.reading.settings (view_of c.args.reading.rows.tape) (numbered c.args.reading.node) (g.N.NameIndex.names c.args.index.now) (elements_of (pairs_rest c.into_iter-name-iterator.result)) [])
    ≡ accepts (placed c.args.reading.settings (view_of c.args.reading.rows.tape) (numbered c.args.reading.node) (g.N.NameIndex.names c.args.index.now) (entries (view_of c.args.reading.rows.tape) c.args.p) at)
whole g c at =
    let t = c.args.reading.rows.tape in
    let own = numbered c.args.reading.node in
    let ns = g.N.NameIndex.names c.args.index.now in
    ap (λ es. accepts (placed c.args.reading.settings (view_of t) own ns es []))
    (elements-pairs (view_of t) t.opened c.args.p c.requires.position c.requires.object (ap pairs_rest c.into_iter-name-iterator.ensures.into_iter_gives ∙ c.pairs-name-items.ensures))
    ∙ placed_free c.args.reading.settings (view_of t) own ns (entries (view_of t) c.args.p) [] at

pub returns-then-is_none : goal.returns-then-is_none
returns-then-is_none g c =
    let s = c.args.reading.settings in
    let t = view_of c.args.reading.rows.tape in
    let own = numbered c.args.reading.node in
    let ns = g.N.NameIndex.names c.args.index.now in
    let name = c.in-Some.name in
    let rest = elements_of (pairs_rest c.next.new.self) in
    let e : lowest ns (words_at t name) ≡ None = ap (lowest ns) (sym (c.as_bytes.ensures.value ∙ c.words.ensures)) ∙ sym c.find.ensures ∙ none_found c.find.result c.is_none.result c.is_none.ensures c.if-is_none.true in
    λ at. ap accepts (sym (placed_unknown s t own ns name c.in-Some.field-0-1 rest [] e c.requires.strict))
    ∙ ap (λ ps. accepts (placed s t own ns (elements_of ps) [])) (sym c.in-Some.ensures.steps) ∙ c.loop-name.invariant.2
    ∙ whole g (goal.at.returns-then-is_none g c).After-into_iter-name-iterator at

pub returns : goal.returns
returns g c =
    let known = λ (ps : List (ℕ × ℕ)). accepts (placed c.args.reading.settings (view_of c.args.reading.rows.tape) (numbered c.args.reading.node) (g.N.NameIndex.names c.args.index.now) (elements_of ps) []) in
    λ at. ap known (sym c.in-None.ensures.steps.0) ∙ c.loop-name.invariant.2 ∙ whole g (goal.at.returns g c).After-into_iter-name-iterator at
