use Rattle.std.proofs.Common.{◌≡◌, ◌∷◌, ◌++◌, length, get_or, sym, ap, ◌∙◌, arith}
use Rattle.std.proofs.lemmas.List.{length-append, get_or_at}
use Rattle.slip.specs.Slips.{slip, refuse}
use Rattle.tape.specs.Ahead.{rest}
use Rattle.tape.specs.Opened.{view_of}
use Rattle.tape.specs.View.{entries}
use Rattle.tape.proofs.Ahead.{in_turn, at_end}
use Rattle.rows.specs.Kinds.{numbered}
use Rattle.rows.proofs.Placing.{accepts, listed_extra, listed_few, listed-all}
use Rattle.rows.proofs.structs.check_entries.Goals as goal
use Rattle.rows.proofs.structs.check_entries.Goals.{In-None}

pub returns-then-n-fields : goal.returns-then-n-fields
returns-then-n-fields c =
    let es = entries (view_of c.args.reading.rows.tape) c.args.p in
    let own = numbered c.args.reading.node in
    let ys = c.loop-entry.yielded in
    let x = c.in-Some.entry in
    let ahead = rest c.next.new.self in
    let e : es ≡ ys ++ (x ∷ ahead) = in_turn rest ys c.into_iter-entry-iterator.result c.loop-entry.entry-iterator (cc) c.loop-entry.yielded_by c.in-Some.ensures.steps in
    let n : length ys ≡ c.args.fields = sym c.loop-entry.invariant.2 ∙ c.if-n-fields.true in
    let at : get_or es c.args.fields 0 ≡ x = ap (λ l. get_or l c.args.fields 0) e ∙ get_or_at ys x ahead 0 c.args.fields n in
    ap (λ q. refuse (slip 7 c.args.reading.node q)) (sym at)
    ∙ ap accepts (sym (listed_extra own c.args.fields c.args.p es (omega (arith, n, ap length e, length-append ys (x ∷ ahead)))))

-- the loop counts all entries
count : (c : In-None) → c.loop-entry.n ≡ length (entries (view_of c.args.reading.rows.tape) c.args.p)
count c =
    let e : entries (view_of c.args.reading.rows.tape) c.args.p ≡ c.loop-entry.yielded = at_end rest c.loop-entry.yielded c.into_iter-entry-iterator.result c.loop-entry.entry-iterator (cc) c.loop-entry.yielded_by c.in-None.ensures.steps.0 in
    c.loop-entry.invariant.2 ∙ ap length (sym e)

pub returns-then-n-fields-2 : goal.returns-then-n-fields-2
returns-then-n-fields-2 c =
    let n = count (goal.at.returns-then-n-fields-2 c).In-None in
    ap accepts (sym (listed_few (numbered c.args.reading.node) c.args.fields c.args.p (entries (view_of c.args.reading.rows.tape) c.args.p) (omega (arith, n, c.if-n-fields-2.true))))

pub returns : goal.returns
returns c =
    let n = count (goal.at.returns c).In-None in
    ap accepts (sym (listed-all (numbered c.args.reading.node) c.args.fields c.args.p (entries (view_of c.args.reading.rows.tape) c.args.p) (omega (arith, n, c.loop-entry.invariant.3, c.if-n-fields-2.false))))
