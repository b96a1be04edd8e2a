use Rattle.std.proofs.Common.{◌≡◌, ℕ, refl, ap, ◌∙◌, w32, w64, SFits, rules}
use Rattle.std.proofs.lemmas.Int.{to_z-of_z}
use Rattle.tape.specs.Ahead.{rest, by_twos, pairs_rest}
use Rattle.tape.specs.Opened.{view_of}
use Rattle.tape.specs.View.{entries}
use Rattle.tape.proofs.Ahead.{Pair, in_turn, entry_at, pair_at}
use Rattle.explain.proofs.Joins.{leads-all, leads_more}
use Rattle.explain.proofs.Elements.{items_text, members_text, list_text, object_text, list_bare, object_bare, items_more, members_more, puts_leaf, puts_name, puts_within}
use Rattle.explain.proofs.element.Shown.+put_put_list_put_object.Goals as goal
use Rattle.explain.proofs.element.Shown.+put_put_list_put_object.Goals.{put_object-In-Some, put_list-then-self-gt0+in-None, put_list-else-self-gt0, put_object-then-self-gt0+in-None, put_object-else-self-gt0}

-- an element by itself

pub put-returns-in-String : goal.put-returns-in-String
put-returns-in-String t c = puts_leaf c.args.self _ c.in-String.ensures (λ xs ys. refl) c.quoted.ensures

pub put-returns-in-Number : goal.put-returns-in-Number
put-returns-in-Number t c = puts_leaf c.args.self _ c.in-Number.ensures (λ xs ys. refl) c.put.ensures

pub put-returns-in-I64 : goal.put-returns-in-I64
put-returns-in-I64 t c =
    let f : SFits w64 c.in-I64.n = search rules in
    puts_leaf c.args.self _ c.in-I64.ensures (λ xs ys. refl) (simp to_z-of_z at c.number.ensures)

pub put-returns-in-I32 : goal.put-returns-in-I32
put-returns-in-I32 t c =
    let f : SFits w32 c.in-I32.n = search rules in
    puts_leaf c.args.self _ c.in-I32.ensures (λ xs ys. refl) (simp to_z-of_z at c.number-in-I32.ensures)

pub put-returns-in-True : goal.put-returns-in-True
put-returns-in-True t c = puts_leaf c.args.self _ c.in-True.ensures (λ xs ys. refl) c.put-in-True.ensures

pub put-returns-in-False : goal.put-returns-in-False
put-returns-in-False t c = puts_leaf c.args.self _ c.in-False.ensures (λ xs ys. refl) c.put-in-False.ensures

pub put-returns-in-Null : goal.put-returns-in-Null
put-returns-in-Null t c = puts_leaf c.args.self _ c.in-Null.ensures (λ xs ys. refl) c.put-in-Null.ensures

-- list

pub put_list-invariant_of-item : goal.put_list-invariant_of-item
put_list-invariant_of-item t c =
    let e : rest c.into_iter-item-iterator.result ≡ entries (view_of c.args.self.tape) c.args.self.p = ap rest c.into_iter-item-iterator.ensures.into_iter_gives ∙ c.entries-item-items.ensures in
    let n = in_turn rest c.loop-item.yielded c.into_iter-item-iterator.result c.loop-item.item-iterator e c.loop-item.yielded_by c.in-Some.ensures.steps in
    record { position = (entry_at (view_of c.args.self.tape) c.args.self.tape.opened c.args.self.p c.args.self.position (search rules) c.loop-item.yielded _ c.in-Some.item n).0 }

pub put_list-loop-item-preserved : goal.put_list-loop-item-preserved
put_list-loop-item-preserved t c = (
  tt,
  tt,
  leads_more (leads_more c.loop-item.invariant.2 (items_more c.args.self c.loop-item.between.now c.in-Some.ensures.steps) c.put-in-loop-item.ensures) refl c.put-in-loop-item-2.ensures,
)

pub put_list-returns : goal.put_list-returns
put_list-returns t c =
    elim c.if-self-gt0.branch [
      | put_list-then-self-gt0+in-None w ↦
          puts_within (list_text c.args.self c.requires w.if-self-gt0.true (ap rest w.into_iter-item-iterator.ensures.into_iter_gives ∙ w.entries-item-items.ensures)) (ap (items_text c.args.self _) w.in-None.ensures.steps.0) c.put.ensures w.loop-item.invariant.2 w.w-is c.put-2.ensures
      | put_list-else-self-gt0 w ↦
          puts_within (list_bare c.args.self c.requires w.if-self-gt0.false) refl c.put.ensures (leads-all refl) w.w-is c.put-2.ensures
    ]

-- object

-- the pair that the loop is at
pair_here : (t : ℕ) (c : put_object-In-Some t) → Pair (view_of c.args.self.tape) c.in-Some.name c.in-Some.value
pair_here t c =
    let e : pairs_rest c.into_iter-name-iterator.result ≡ by_twos (entries (view_of c.args.self.tape) c.args.self.p) = ap pairs_rest c.into_iter-name-iterator.ensures.into_iter_gives ∙ c.pairs-name-items.ensures in
    let n = in_turn pairs_rest c.loop-name.yielded c.into_iter-name-iterator.result c.loop-name.name-iterator e c.loop-name.yielded_by c.in-Some.ensures.steps in
    (pair_at (view_of c.args.self.tape) c.args.self.tape.opened c.args.self.p c.args.self.position c.requires c.loop-name.yielded _ (c.in-Some.name, c.in-Some.value) n).0

pub put_object-words-requires-clause-position : goal.put_object-words-requires-clause-position
put_object-words-requires-clause-position t c = (pair_here t (goal.at.put_object-words-requires-clause-position t c).In-Some).name

pub put_object-words-requires-clause-string : goal.put_object-words-requires-clause-string
put_object-words-requires-clause-string t c = (pair_here t (goal.at.put_object-words-requires-clause-string t c).In-Some).letter

pub put_object-invariant_of-value : goal.put_object-invariant_of-value
put_object-invariant_of-value t c = record { position = (pair_here t (goal.at.put_object-invariant_of-value t c).In-Some).value }

pub put_object-loop-name-preserved : goal.put_object-loop-name-preserved
put_object-loop-name-preserved t c = (
  tt,
  tt,
  leads_more (leads_more (leads_more c.loop-name.invariant.2 (members_more c.args.self c.in-Some.ensures.steps)
      (puts_name c.args.self c.in-Some.name (pair_here t (goal.at.put_object-loop-name-preserved t c).In-Some).letter (c.as_bytes.ensures.value ∙ c.words.ensures) c.quoted.ensures)) refl c.put-in-loop-name.ensures) refl c.put-in-loop-name-2.ensures,
)

pub put_object-returns : goal.put_object-returns
put_object-returns t c =
    elim c.if-self-gt0.branch [
      | put_object-then-self-gt0+in-None w ↦
          puts_within (object_text c.args.self c.requires w.if-self-gt0.true (ap pairs_rest w.into_iter-name-iterator.ensures.into_iter_gives ∙ w.pairs-name-items.ensures)) (ap (members_text c.args.self) w.in-None.ensures.steps.0) c.put.ensures w.loop-name.invariant.2 w.w-is c.put-2.ensures
      | put_object-else-self-gt0 w ↦
          puts_within (object_bare c.args.self c.requires w.if-self-gt0.false) refl c.put.ensures (leads-all refl) w.w-is c.put-2.ensures
    ]
