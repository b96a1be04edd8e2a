use Rattle.std.proofs.Common.{◌≡◌, ℕ, ◌∷◌, ◌+◌, ◌*◌, ◌<◌, length, replicate, sym, ap, ◌∙◌, subst, arith}
use Rattle.slip.specs.Slips.{is_got}
use Rattle.tape.specs.Ahead.{pairs_rest}
use Rattle.tape.specs.Opened.{view_of}
use Rattle.tape.specs.View.{entries, words_at}
use Rattle.tape.proofs.Ahead.{Pair, in_turn, pair_at}
use Rattle.names.specs.Lowest.{lowest}
use Rattle.batch.specs.Rows.{placed}
use Rattle.rows.specs.Kinds.{numbered}
use Rattle.rows.specs.Structs.{column}
use Rattle.rows.proofs.Placing.{Off, elements_of, elements-pairs, off_kept, placed-kept, spread_column, zero_column, lowest_within}
use Rattle.rows.proofs.structs.put_values.Given as given
use Rattle.rows.proofs.structs.put_values.Goals as goal
use Rattle.rows.proofs.structs.put_values.Goals.{In-Some, After-into_iter-name-iterator}

-- the pair that the loop is at
here : (g : given.Over) (c : In-Some g) → Pair (view_of c.args.reading.rows.tape) c.in-Some.name c.in-Some.field-0-1
here g c =
    let t = c.args.reading.rows.tape in
    (pair_at (view_of t) t.opened c.args.p c.requires.position c.requires.object c.loop-name.yielded _ (c.in-Some.name, c.in-Some.field-0-1)
    (in_turn pairs_rest c.loop-name.yielded c.into_iter-name-iterator.result c.loop-name.name-iterator (cc) c.loop-name.yielded_by c.in-Some.ensures.steps)).0

pub put_value-requires : goal.put_value-requires
put_value-requires g c =
    let h = here g (goal.at.put_value-requires g c).In-Some in
    record {
      position = h.name;
      name = h.letter;
      room = λ k l. omega (arith, c.requires.room k (omega (arith, c.requires.fields)), c.loop-name.auto.work, c.put_zeros.auto.work);
    }

-- all pairs placed over zeros
whole : (g : given.Over) (c : After-into_iter-name-iterator g)
    → placed c.args.reading.settings (view_of c.args.reading.rows.tape) (numbered c.args.reading.node) (g.N.NameIndex.names c.args.index.now) (elements_of (pairs_rest c.into_iter-name-iterator.result)) (column c.put_zeros.new.work c.args.place c.args.step c.args.fields)
    ≡ placed c.args.reading.settings (view_of c.args.reading.rows.tape) (numbered c.args.reading.node) (g.N.NameIndex.names c.args.index.now) (entries (view_of c.args.reading.rows.tape) c.args.p) (replicate c.args.fields 0)
whole g c =
    let t = c.args.reading.rows.tape in
    let put = placed c.args.reading.settings (view_of t) (numbered c.args.reading.node) (g.N.NameIndex.names c.args.index.now) in
    let Z = c.put_zeros.new.work in
    ap (λ es. put es (column Z c.args.place c.args.step c.args.fields)) (elements-pairs (view_of t) t.opened c.args.p c.requires.position c.requires.object (ap pairs_rest c.into_iter-name-iterator.ensures.into_iter_gives ∙ c.pairs-name-items.ensures))
    ∙ ap (put (entries (view_of t) c.args.p)) (zero_column c.args.place c.args.step c.args.fields c.args.work.now Z c.put_zeros.ensures)

pub loop-name-preserved : goal.loop-name-preserved
loop-name-preserved g c =
    let s = c.args.reading.settings in
    let t = view_of c.args.reading.rows.tape in
    let own = numbered c.args.reading.node in
    let ns = g.N.NameIndex.names c.args.index.now in
    let name = c.in-Some.name in
    let place = c.args.place in
    let step = c.args.step in
    let n = c.args.fields in
    let A = c.put_zeros.new.work in
    let B = c.loop-name.work in
    let at = goal.at.loop-name-preserved g c in
    let ahead = pairs_rest c.next.new.self in
    let e : pairs_rest c.loop-name.name-iterator ≡ (name, name + 1) ∷ ahead = c.in-Some.ensures.steps ∙ ap (λ v. (name, v) ∷ ahead) (here g at.In-Some).behind in
    let so_far = ap (λ ps. placed s t own ns (elements_of ps) (column B place step n)) (sym e) ∙ c.loop-name.invariant.2 in
    let room : (i : ℕ) → i < n → place + i * step < length B = λ i h. omega (arith, c.requires.room i h, c.loop-name.auto.work, c.put_zeros.auto.work) in (
      tt,
      tt,
      ap (λ b. placed s t own ns (elements_of ahead) (column b place step n)) c.put_value.ensures
          ∙ placed-kept s t own ns place step n B name (name + 1) (elements_of ahead) c.requires.fields c.requires.apart room (ap is_got (so_far ∙ whole g at.After-into_iter-name-iterator) ∙ c.requires.accepted) ∙ so_far,
      subst (Off place step n A) (sym c.put_value.ensures)
          (off_kept place step n (name + 1) A B (lowest ns (words_at t name)) (λ k e. omega (arith, c.requires.fields, lowest_within ns (words_at t name) k (sym e))) c.loop-name.invariant.3),
    )

pub returns : goal.returns
returns g c =
    let B = c.loop-name.work in
    record {
      item =
          sym (whole g (goal.at.returns g c).After-into_iter-name-iterator) ∙ sym c.loop-name.invariant.2
          ∙ ap (λ ps. placed c.args.reading.settings (view_of c.args.reading.rows.tape) (numbered c.args.reading.node) (g.N.NameIndex.names c.args.index.now) (elements_of ps) (column B c.args.place c.args.step c.args.fields)) c.in-None.ensures.steps.0;
      spread = spread_column c.args.place c.args.step c.args.fields c.args.work.now c.put_zeros.new.work B c.put_zeros.ensures c.loop-name.invariant.3;
    }
