-- The steps of a walk, over plain values.
use Rattle.std.proofs.Common.{◌≡◌, ℕ, ◌+◌, ◌-◌, ◌*◌, ◌<◌, ◌≤◌, Bool, ◌||◌, List, [], ◌++◌, map, length, drop, replicate, IfOk, Ok, Err, Result, sym, ap, ◌∙◌, arith, length-append, rules}
use Rattle.std.proofs.lemmas.List.{places, same_lists, drop-drop, drop-replicate}
use Rattle.octets.specs.Lists.{splice, first, rest}
use Rattle.slip.specs.declared.Fault.{Fault}
use Rattle.slip.specs.Slips.{Got, refuse, got, then, answer_of, slip_of}
use Rattle.tape.specs.View.{TapeView}
use Rattle.schema.specs.Tree.{Node, Fields, field_of, children_of, many, nodes, nodes_in}
use Rattle.schema.specs.Layout.{end_at}
use Rattle.schema.proofs.Nodes.{held_written}
use Rattle.batch.specs.Values.{Setup}
use Rattle.batch.specs.Format.{Column}
use Rattle.batch.specs.Batch.{records, buffers}
use Rattle.columns.specs.Areas.{written, Blank}
use Rattle.columns.proofs.Writes.{written_none, written-append, length-written, length-records}
use Rattle.octets.proofs.Splices.{length-splice}
use Rattle.laws.specs.Shelf.{walk, walk_in}
use Rattle.nodes.specs.Nodes.{below_of, items_in, entering, leaving, cols, cols_in}
use Rattle.nodes.specs.Contract.{Seen, visited, setup_in, ends_at, Walked}
use Rattle.nodes.proofs.Cols.{length-cols, length-cols_in, walk_end, walk_unroll}
use Rattle.nodes.proofs.Kids.{Kids, First, own_positions, left-kids, no_kids}

pub made_always : {A : Type 0} (r : Result A Fault) (P : Type 0) → P → IfOk r (λ _. P)
made_always (Ok x) P p = p
made_always (Err y) P p = tt

pub refused_made : {A : Type 0} (r : Result A Fault) (y : Fault) (P : A → Type 0) → r ≡ Err y → IfOk r P
refused_made (Ok x) y P e = absurd (let z : ◌≡◌ {A = ℕ} 0 1 = cc in omega arith)
refused_made (Err z) y P e = tt

-- nothing is written behind a write
drop-splice : (A : List ℕ) (i : ℕ) (xs : List ℕ) (n : ℕ) → i + length xs ≤ n → i + length xs ≤ length A → drop n (splice A i xs) ≡ drop n A
drop-splice A i xs n h l = same_lists _ _ (search (rules, places)) (λ k d g. grind (arith, places))

blank_later : (A : List ℕ) (top end : ℕ) → top ≤ end → end ≤ length A → Blank A top → Blank A end
blank_later A top end h l b =
    let k = end - top in
    let e : top + k ≡ end = omega arith in
    let n : (length A - top) - k ≡ length A - end = omega arith in
    ap (λ j. drop j A) (sym e) ∙ sym (drop-drop k top A) ∙ ap (drop k) b ∙ drop-replicate k (length A - top) 0 ∙ ap (λ j. replicate j 0) n

pub blank_written : (A : List ℕ) (node top : ℕ) (cs : _) → 32 * (node + length cs) ≤ top → top + length (buffers cs) ≤ length A → Blank A top
    → Blank (written A node top cs) (top + length (buffers cs))
blank_written A node top cs apart within b =
    let end = top + length (buffers cs) in
    let r = length-records top cs in
    let X = splice A (32 * node) (records top cs) in
    let x : length X ≡ length A = length-splice A (32 * node) (records top cs) (omega (arith, r)) in
    let n : length (written A node top cs) ≡ length A = length-written A node top cs apart within in
    drop-splice X top (buffers cs) end (omega arith) (omega (arith, x))
    ∙ drop-splice A (32 * node) (records top cs) end (omega (arith, r)) (omega (arith, r))
    ∙ blank_later A top end (omega arith) within b
    ∙ ap (λ j. replicate (j - end) 0) (sym n)

-- what the children of a node leave to do
module _ (v : Seen) (root : Node) (size : ℕ) (T : Node) (stride free deep start : ℕ) (B : List ℕ) where
  abbrev st : Setup
  st = setup_in v root size

  -- whether a child is nullable in force, and the items of all children
  abbrev down : Node → Bool
  down c = below_of T v.in_force || (field_of c).nullable

  abbrev all : List (List ℕ)
  all = items_in st v.tape T v.in_force v.positions

  abbrev walk_left : Fields → List (List ℕ) → (next w : ℕ) → Got ℕ
  walk_left cs items next w = walk_in st v.tape free (w + deep) cs (below_of T v.in_force) items next w

  abbrev cols_left : Fields → List (List ℕ) → List Column
  cols_left cs items = cols_in st v.tape cs (below_of T v.in_force) items

  -- between two children: what is left gives what the whole gives
  pub record Middle (mine coming area : List ℕ) (next : ℕ) : Type 0 where
    pub kids : Kids v stride mine coming
    pub ends : kids.here + length (nodes_in kids.others) ≡ v.node + 1 + length (nodes_in (children_of T))
    pub after : v.node < kids.here
    pub above : start ≤ next
    pub outcome : (w : ℕ) → walk_left kids.others kids.items next w ≡ walk_left (children_of T) all start w
    pub content : written area kids.here next (cols_left kids.others kids.items) ≡ written B (v.node + 1) start (cols_left (children_of T) all)

  module _ (mine coming area : List ℕ) (next : ℕ) (m : Middle mine coming area next) where
    module _ (x : ℕ) (after : List ℕ) (f : First v stride m.kids.others m.kids.here x after) where
      child_ends : end_at v.records x ≡ x + length (nodes f.child)
      child_ends = (held_written f.there).end

      -- a child and the others end where the node does
      pub others_end : end_at v.records x + length (nodes_in f.more) ≡ v.node + 1 + length (nodes_in (children_of T))
      others_end =
          omega (arith, m.ends, f.at, ap (λ cs. length (nodes_in cs)) f.are, length-append (nodes f.child) (nodes_in f.more), child_ends)

      pub child_after : v.node < x
      child_after = omega (arith, m.after, f.at)

      module _ (qs others to : List ℕ) (next' : ℕ) (forced : Bool) (split : mine ≡ qs ++ others) (short : length qs ≡ stride) (long : length area ≡ free) (is-forced : forced ≡ down f.child) where
        own : qs ≡ map first m.kids.items
        own = own_positions v stride mine coming m.kids x after f qs others split short

        behind : (w : ℕ) → then (walk st v.tape free (w + deep) f.child (down f.child) (map first m.kids.items) next w) (λ n. walk_left f.more (map rest m.kids.items) n w) ≡ walk_left (children_of T) all start w
        behind w = ap (λ cs. walk_left cs m.kids.items next w) (sym f.are) ∙ m.outcome w

        -- what the child answered
        told : (r : Result (Unit {0}) Fault) → Walked (visited v x forced qs) deep area to next next' r → (w : ℕ)
            → answer_of (ends_at next' r) ≡ walk st v.tape free (w + deep) f.child (down f.child) (map first m.kids.items) next w
        told r a w =
            a.outcome root size f.child f.there w
            ∙ ap (λ n. walk st v.tape n (w + deep) f.child forced qs next w) long
            ∙ ap (λ b. walk st v.tape free (w + deep) f.child b qs next w) is-forced
            ∙ ap (λ ps. walk st v.tape free (w + deep) f.child (down f.child) ps next w) own

        -- a child that was refused
        pub broke : (y : Fault) → Walked (visited v x forced qs) deep area to next next' (Err y) → (w : ℕ) → walk_left (children_of T) all start w ≡ refuse (slip_of y)
        broke y a w = sym (behind w) ∙ ap (λ g. then g (λ n. walk_left f.more (map rest m.kids.items) n w)) (sym (told (Err y) a w))

        -- one child more
        pub step : 32 * (v.node + 1 + length (nodes_in (children_of T))) ≤ start → next ≤ length area → Walked (visited v x forced qs) deep area to next next' (Ok tt) → Middle others after to next'
        unfolding left-kids
        step apart within a =
            let c = f.child in
            let ps = map first m.kids.items in
            let X = cols st v.tape c (down c) ps in
            let Y = cols_left f.more (map rest m.kids.items) in
            let went : (w : ℕ) → got next' ≡ walk st v.tape free (w + deep) c (down c) ps next w = told (Ok tt) a in
            let ended = walk_end st v.tape free c (down c) ps (0 + deep) next 0 next' (went 0) in
            let size_is : end_at v.records x ≡ x + length X = child_ends ∙ ap (λ n. x + n) (sym (length-cols st v.tape c (down c) ps)) in
            let low : 32 * (x + length X + length Y) ≤ next = omega (arith, size_is, length-cols_in st v.tape f.more (below_of T v.in_force) (map rest m.kids.items), others_end, m.above, apart) in
            let wrote : to ≡ written area x next X =
            a.content root size c f.there ∙ ap (λ b. written area x next (cols st v.tape c b qs)) is-forced ∙ ap (λ q. written area x next (cols st v.tape c (down c) q)) own in
            let before : written area x next (X ++ Y) ≡ written B (v.node + 1) start (cols_left (children_of T) all) =
            ap (λ h. written area h next (X ++ Y)) (sym f.at) ∙ ap (λ cs. written area m.kids.here next (cols_left cs m.kids.items)) (sym f.are) ∙ m.content in
            record {
              kids = left-kids v stride mine coming m.kids x after f qs others split short;
              ends = others_end;
              after = omega (arith, child_after, child_ends);
              above = omega (arith, m.above, ended.0);
              outcome = λ w. ap (λ g. then g (λ n. walk_left f.more (map rest m.kids.items) n w)) (went w) ∙ behind w;
              content =
                  ap (λ h. written to h next' Y) size_is
                  ∙ ap (λ n. written to (x + length X) n Y) ended.0
                  ∙ ap (λ A. written A (x + length X) (next + length (buffers X)) Y) wrote
                  ∙ written-append area x next X Y low within
                  ∙ before;
            }

    pub last : coming ≡ [] → ((w : ℕ) → walk_left (children_of T) all start w ≡ got next) × (area ≡ written B (v.node + 1) start (cols_left (children_of T) all))
    last e =
        let are = no_kids v stride mine coming m.kids e in (
          λ w. sym (m.outcome w) ∙ ap (λ cs. walk_left cs m.kids.items next w) are,
          sym (written_none area m.kids.here next) ∙ sym (ap (λ cs. written area m.kids.here next (cols_left cs m.kids.items)) are) ∙ m.content,
        )

-- a node's answer, from its entry, its children and the test that leaves it
module _ (st : Setup) (t : TapeView) (free : ℕ) (T : Node) (inForce : Bool) (ps : List ℕ) (left top : ℕ) where
  pub never_entered : (y : Fault) → refuse (slip_of y) ≡ entering st t free left T inForce ps top → (w : ℕ) → refuse (slip_of y) ≡ walk st t free (w + left) T inForce ps top w
  never_entered y e w =
      ap (λ g. then g (λ next.
      then (walk_in st t free (w + left) (children_of T) (below_of T inForce) (items_in st t T inForce ps) next (w + many (children_of T) * length (items_in st t T inForce ps))) (λ end.
      then (leaving st t T inForce ps) (λ _. got end)))) e
      ∙ sym (walk_unroll st t free T inForce ps left top w)

  pub entered :
      (next deep : ℕ) → got next ≡ entering st t free left T inForce ps top → deep + many (children_of T) * length (items_in st t T inForce ps) ≡ left →
      (children : Got ℕ) → ((w : ℕ) → walk_in st t free (w + deep) (children_of T) (below_of T inForce) (items_in st t T inForce ps) next w ≡ children) →
      (w : ℕ) → walk st t free (w + left) T inForce ps top w ≡ then children (λ end. then (leaving st t T inForce ps) (λ _. got end))
  entered next deep e d children is w =
      let items = items_in st t T inForce ps in
      let cs = children_of T in
      let more = many cs * length items in
      let lent : w + left ≡ (w + more) + deep = omega (arith, d) in
      walk_unroll st t free T inForce ps left top w
      ∙ sym (ap (λ g. then g (λ next.
      then (walk_in st t free (w + left) cs (below_of T inForce) items next (w + more)) (λ end. then (leaving st t T inForce ps) (λ _. got end)))) e)
      ∙ ap (λ l. then (walk_in st t free l cs (below_of T inForce) items next (w + more)) (λ end. then (leaving st t T inForce ps) (λ _. got end))) lent
      ∙ ap (λ g. then g (λ end. then (leaving st t T inForce ps) (λ _. got end))) (is (w + more))

pub left_as : (end : ℕ) (r : Result (Unit {0}) Fault) (L : Got (Unit {0})) → answer_of r ≡ L → answer_of (ends_at end r) ≡ then L (λ _. got end)
left_as end (Ok x) L e = ap (λ g. then g (λ _. got end)) e
left_as end (Err y) L e = ap (λ g. then g (λ _. got end)) e
