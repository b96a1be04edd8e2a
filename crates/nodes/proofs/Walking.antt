-- A node's walk: from its entry, through its children, to the test that leaves it.
use Rattle.std.proofs.Common.{◌≡◌, ℕ, ◌+◌, ◌-◌, ◌*◌, ◌^◌, ◌<◌, ◌≤◌, Bool, ◌||◌, List, [], ◌∷◌, ◌++◌, length, get_or, take, drop, Ok, Err, Result, sym, refl, ap, ◌∙◌, subst, mul-le-mul_right, add-mul, one-mul, arith, length-append, length-drop}
use Rattle.std.proofs.lemmas.List.{get_or_append_left, take-append-le, drop-append-le}
use Rattle.octets.specs.Lists.{part}
use Rattle.slip.specs.declared.Fault.{Fault}
use Rattle.slip.specs.Slips.{refuse, got, each, answer_of, slip_of}
use Rattle.tape.specs.View.{TapeView, is_position}
use Rattle.schema.specs.Tree.{Node, branch, leaf, field_of, children_of, many, numbers, nodes_in}
use Rattle.schema.specs.Layout.{end_at}
use Rattle.schema.specs.Held.{Held}
use Rattle.schema.proofs.Nodes.{held_children, held_end, held_size}
use Rattle.batch.specs.Values.{Setup, meaning, leaf_at}
use Rattle.batch.specs.Format.{text_width}
use Rattle.batch.specs.Batch.{size_of, branch_column, leaf_column, buffers}
use Rattle.columns.specs.Areas.{written, Blank}
use Rattle.columns.proofs.Writes.{written-append, length_buffer}
use Rattle.rows.specs.Entering.{rows_at, items_of, child_at}
use Rattle.rows.specs.declared.Entered.{Entered}
use Rattle.laws.specs.Shelf.{walk_in}
use Rattle.nodes.specs.Nodes.{gotten, below_of, own_of, items_in, entering, leaving, cols_in}
use Rattle.leaf.specs.Meaning.{Meaning}
use Rattle.tape.specs.Opened.{view_of}
use Rattle.nodes.specs.declared.Frame.{Frame}
use Rattle.nodes.specs.declared.Visit.{Visit}
use Rattle.nodes.specs.Contract.{Seen, seen, visited, setup_in, Positions, HeldHere, Ready, Enters, Lying, Leaves, ends_at, Walked}
use Rattle.nodes.proofs.Gets.{then_got, space_got}
use Rattle.nodes.proofs.Cols.{cols_unroll, length-cols_in}
use Rattle.nodes.proofs.Kids.{First, first-kid, enough}
use Rattle.nodes.proofs.Steps.{Middle, others_end, child_after, step, broke, last, never_entered, entered, left_as, made_always, refused_made, blank_written}

-- a node that was entered had space
pub entering_got : (st : Setup) (t : TapeView) (free left : ℕ) (T : Node) (inForce : Bool) (ps : List ℕ) (top n : ℕ) → got n ≡ entering st t free left T inForce ps top
    → (n ≡ top + size_of (own_of st t T inForce ps)) × (n ≤ free) × (many (children_of T) * length (items_in st t T inForce ps) ≤ left)
entering_got st t free left (branch f b cs) inForce ps top n e =
    let o = then_got (rows_at st.settings t f b cs inForce ps) _ n e in
    let rows = o.0 in
    let g : gotten (rows_at st.settings t f b cs inForce ps) ≡ rows = ap gotten o.1 in
    let x = space_got free top (branch_column b rows) left f.number (many cs * length (items_of b cs rows)) n o.2 in
    (x.0 ∙ ap (λ rs. top + size_of (branch_column b rs)) (sym g), x.1, subst (λ rs. many cs * length (items_of b cs rs) ≤ left) (sym g) x.2)
entering_got st t free left (leaf f k) inForce ps top n e =
    let o = then_got (each (leaf_at st t f k) ps) _ n e in
    let g : gotten (each (leaf_at st t f k) ps) ≡ o.0 = ap gotten o.1 in
    let x = space_got free top (leaf_column (meaning st k).layout (text_width k) o.0) left f.number 0 n o.2 in
    (x.0 ∙ ap (λ os. top + size_of (leaf_column (meaning st k).layout (text_width k) os)) (sym g), x.1, omega arith)

-- a part of the front of a list
part-front : (xs ys : List ℕ) (i n : ℕ) → i + n ≤ length xs → part (xs ++ ys) i n ≡ part xs i n
part-front xs ys i n h =
    ap (take n) (drop-append-le i xs ys (omega arith)) ∙ take-append-le n (drop i xs) ys (omega (arith, length-drop i xs))

row_within : (k kids n : ℕ) → k < kids → k * n + n ≤ kids * n
row_within k kids n h =
    let r : (k + 1) * n ≤ kids * n = mul-le-mul_right n (omega arith) in
    let m : (k + 1) * n ≡ k * n + 1 * n = add-mul k 1 n in
    omega (arith, r, m, one-mul n)

pub end_is : (v : Seen) (T : Node) → HeldHere v T → end_at v.records v.node ≡ v.node + 1 + length (nodes_in (children_of T))
end_is v T h = held_size h

-- what the visit of a child sees
pub seen_child : {X : Type 0} (m : X → Meaning) (frame : Frame X) (visit child : Visit) → child.rows.tape ≡ visit.rows.tape → seen m frame child ≡ visited (seen m frame visit) child.node child.in_force child.rows.positions.now
seen_child m frame visit child e = ap (λ tape. record (seen m frame child) { tape = view_of tape }) e

-- refused on entering
pub not_entered : (v : Seen) (A work : List ℕ) (top : ℕ) → Ready v work A top → (B lent : List ℕ) (y z : Fault) (r : Result (Unit {0}) Fault) → r ≡ Err y → y ≡ z → Enters v top A B work lent (Err z)
    → Walked v (length work) A B top top r
not_entered v A work top pre B lent y z r e' y-is o =
    let e : r ≡ Err z = e' ∙ ap Err y-is in
    let same : B ≡ A = o.unwritten in
    record {
      outcome = λ root size T h w. ap (λ q. answer_of (ends_at top q)) e ∙ never_entered (setup_in v root size) v.tape (length A) T v.in_force v.positions (length work) top z (o.outcome root size T h) w;
      content = refused_made r z _ e;
      blank = subst (λ b. Blank b top) (sym same) pre.blank;
      within = subst (λ b. top ≤ length b) (sym same) pre.within;
    }

-- between two children
abbrev pub Between : (v : Seen) (stride : ℕ) (B : List ℕ) (deep start : ℕ) (others coming area : List ℕ) (next : ℕ) → Type 0
Between v stride B deep start others coming area next = (root : Node) (size : ℕ) (T : Node) → HeldHere v T → Middle v root size T stride (length B) deep start B others coming area next

-- a node that was entered, with the area and the work list after that
pub record Inside (v : Seen) (A work : List ℕ) (top : ℕ) (B lent : List ℕ) (e : Entered) : Type 0 where
  pub ready : Ready v work A top
  pub enters : Enters v top A B work lent (Ok e)
  pub long : length B ≡ length A
  pub lent-long : length lent ≡ length work

module _ {v : Seen} {A work : List ℕ} {top : ℕ} {B lent : List ℕ} {e : Entered} (i : Inside v A work top B lent e) where
  abbrev T₀ : Node
  T₀ = i.ready.formed.0

  abbrev h₀ : HeldHere v T₀
  h₀ = i.ready.formed.1

  own-space : (root : Node) (size : ℕ) (T : Node) (h : HeldHere v T) → (e.next ≡ top + size_of (own_of (setup_in v root size) v.tape T v.in_force v.positions)) × (e.next ≤ length A) × (many (children_of T) * length (items_in (setup_in v root size) v.tape T v.in_force v.positions) ≤ length work)
  own-space root size T h = entering_got (setup_in v root size) v.tape (length A) (length work) T v.in_force v.positions top e.next (i.enters.outcome root size T h)

  pub kids_fit : e.kids * e.stride ≤ length lent
  kids_fit = (i.enters.content T₀ 0 T₀ h₀).fits

  pub kids_few : e.kids * e.stride ≤ 2 ^ 24
  kids_few = omega (arith, kids_fit, i.lent-long, i.ready.lent)

  above : top ≤ e.next
  above = omega (arith, (own-space T₀ 0 T₀ h₀).0)

  low : (T : Node) → HeldHere v T → 32 * (v.node + 1 + length (nodes_in (children_of T))) ≤ top
  low T h = omega (arith, i.ready.apart, end_is v T h)

  pub next_within : e.next ≤ length B
  next_within = omega (arith, (own-space T₀ 0 T₀ h₀).1, i.long)

  pub next_blank : Blank B e.next
  next_blank =
      let c = own_of (setup_in v T₀ 0) v.tape T₀ v.in_force v.positions in
      let x = own-space T₀ 0 T₀ h₀ in
      let n : e.next ≡ top + length (buffers (c ∷ [])) = x.0 ∙ ap (λ k. top + k) (sym (length_buffer c)) in
      subst (λ k. Blank B k) (sym n)
      (subst (λ b. Blank b (top + length (buffers (c ∷ [])))) (sym (i.enters.content T₀ 0 T₀ h₀).page) (blank_written A v.node top (c ∷ []) (omega (arith, low T₀ h₀)) (omega (arith, n, x.1)) i.ready.blank))

  module _ (mine deeper : List ℕ) (split : lent ≡ mine ++ deeper) (front : length mine ≡ e.kids * e.stride) where
    pub mine_positions : Positions v.tape mine
    mine_positions k l =
        ap (is_position v.tape) (sym (get_or_append_left mine deeper 0 k l) ∙ ap (λ xs. get_or xs k 0) (sym split)) ∙ (i.enters.content T₀ 0 T₀ h₀).positions k (omega (arith, front))

    pub mine_few : length mine ≤ 2 ^ 24
    mine_few = omega (arith, front, kids_few)

    mine_parts : (root : Node) (size : ℕ) (T : Node) (h : HeldHere v T) (j : ℕ) → j < many (children_of T) → part mine (j * e.stride) e.stride ≡ child_at j (items_in (setup_in v root size) v.tape T v.in_force v.positions)
    mine_parts root size T h j l =
        let g = i.enters.content root size T h in
        let fit = row_within j e.kids e.stride (omega (arith, g.kids)) in
        sym (part-front mine deeper (j * e.stride) e.stride (omega (arith, fit, front)))
        ∙ ap (λ xs. part xs (j * e.stride) e.stride) (sym split)
        ∙ g.parts j l

    mine_size : (root : Node) (size : ℕ) (T : Node) (h : HeldHere v T) → length mine ≡ many (children_of T) * e.stride
    mine_size root size T h = front ∙ ap (λ n. n * e.stride) (i.enters.content root size T h).kids

    -- before the first
    pub begun : (coming : List ℕ) → ((T : Node) → HeldHere v T → coming ≡ numbers (children_of T)) → Between v e.stride B (length deeper) e.next mine coming B e.next
    begun coming are = λ root size T h.
        record {
          kids =
              record {
                here = v.node + 1;
                others = children_of T;
                items = items_in (setup_in v root size) v.tape T v.in_force v.positions;
                placed = held_children h;
                numbered = are T h;
                size = mine_size root size T h;
                parts = mine_parts root size T h;
              };
          ends = refl;
          after = omega arith;
          above = omega arith;
          outcome = λ w. refl;
          content = refl;
        }

    -- as much as the deeper work list and the children's positions take
    all_lent : length deeper + e.kids * e.stride ≡ length work
    all_lent = omega (arith, ap length split, length-append mine deeper, front, i.lent-long)

    lent_is : (root : Node) (size : ℕ) (T : Node) → HeldHere v T → length deeper + many (children_of T) * length (items_in (setup_in v root size) v.tape T v.in_force v.positions) ≡ length work
    lent_is root size T h =
        let g = i.enters.content root size T h in
        ap (λ n. length deeper + n * length (items_in (setup_in v root size) v.tape T v.in_force v.positions)) (sym g.kids) ∙ ap (λ n. length deeper + e.kids * n) (sym g.stride) ∙ all_lent

    -- the children's positions lie in the list
    pub lies : Lying v e.stride mine
    lies =
        record {
          formed = i.ready.formed;
          all = λ root size T h.
              record {
                accepted = (e.next, length A, length work, top, sym (i.enters.outcome root size T h));
                stride_is = (i.enters.content root size T h).stride;
                size = mine_size root size T h;
                parts = mine_parts root size T h;
              };
        }

    module _ (others coming area : List ℕ) (next : ℕ) (b : Between v e.stride B (length deeper) e.next others coming area next) where
      module _ {x : ℕ} {after : List ℕ} (is : coming ≡ x ∷ after) where
        first_at : (root : Node) (size : ℕ) (T : Node) (h : HeldHere v T) → First v e.stride (b root size T h).kids.others (b root size T h).kids.here x after
        first_at root size T h = first-kid v e.stride others coming (b root size T h).kids is

        -- the child that is next
        pub child_is : (c : Node) × Held v.records v.names x c
        child_is = let f = first_at T₀ 0 T₀ h₀ in (f.child, f.there)

        pub child_below : (end_at v.records x - x) < (end_at v.records v.node - v.node)
        child_below =
            let m = b T₀ 0 T₀ h₀ in
            let f = first_at T₀ 0 T₀ h₀ in
            omega (arith, others_end v T₀ 0 T₀ e.stride (length B) (length deeper) e.next B others coming area next m x after f, child_after v T₀ 0 T₀ e.stride (length B) (length deeper) e.next B others coming area next m x after f, (held_end f.there).0, end_is v T₀ h₀)

        -- it has its positions
        pub child_enough : e.stride ≤ length others
        child_enough = enough v e.stride others coming (b T₀ 0 T₀ h₀).kids x after (first_at T₀ 0 T₀ h₀)

        pub child_ready : (forced : Bool) (qs deep' : List ℕ) → length qs ≤ 2 ^ 24 → length deep' ≡ length deeper → next ≤ length area → Blank area next → length area ≡ length B
            → Ready (visited v x forced qs) deep' area next
        child_ready forced qs deep' few same within blank long' =
            let m = b T₀ 0 T₀ h₀ in
            let f = first_at T₀ 0 T₀ h₀ in
            record {
              formed = child_is;
              few = few;
              lent = omega (arith, same, ap length split, length-append mine deeper, i.lent-long, i.ready.lent);
              apart = omega (arith, others_end v T₀ 0 T₀ e.stride (length B) (length deeper) e.next B others coming area next m x after f, m.above, low T₀ h₀, above);
              within = within;
              page = omega (arith, long', i.long, i.ready.page);
              blank = blank;
            }

        module _ (qs left to : List ℕ) (next' deep : ℕ) (forced : Bool) (halves : others ≡ qs ++ left) (short : length qs ≡ e.stride) (deep_is : deep ≡ length deeper) (long' : length area ≡ length B)
            (is-forced : (T : Node) → HeldHere v T → (c : Node) → Held v.records v.names x c → forced ≡ (below_of T v.in_force || (field_of c).nullable)) where
          settled : (r : Result (Unit {0}) Fault) → Walked (visited v x forced qs) deep area to next next' r → Walked (visited v x forced qs) (length deeper) area to next next' r
          settled r a = subst (λ d. Walked (visited v x forced qs) d area to next next' r) deep_is a

          -- one child more
          pub walked_one : next ≤ length area → Walked (visited v x forced qs) deep area to next next' (Ok tt) → Between v e.stride B (length deeper) e.next left after to next'
          walked_one within a = λ root size T h.
              let f = first_at root size T h in
              step v root size T e.stride (length B) (length deeper) e.next B others coming area next (b root size T h) x after
              f qs left to next' forced halves short long' (is-forced T h f.child f.there)
              (omega (arith, low T h, above)) within (settled (Ok tt) a)

          -- a child that was refused
          pub walked_none : (z y : Fault) (r : Result (Unit {0}) Fault) → r ≡ Err z → z ≡ y → Walked (visited v x forced qs) deep area to next next' (Err y) → Walked v (length work) A to top next' r
          walked_none z y r is' z-is a =
              let err : r ≡ Err y = is' ∙ ap Err z-is in
              record {
                outcome = λ root size T h w.
                    let st = setup_in v root size in
                    let f = first_at root size T h in
                    let bad : (w : ℕ) → walk_in st v.tape (length A) (w + length deeper) (children_of T) (below_of T v.in_force) (items_in st v.tape T v.in_force v.positions) e.next w ≡ refuse (slip_of y) = λ w.
                    ap (λ n. walk_in st v.tape n (w + length deeper) (children_of T) (below_of T v.in_force) (items_in st v.tape T v.in_force v.positions) e.next w) (sym i.long)
                    ∙ broke v root size T e.stride (length B) (length deeper) e.next B others coming area next (b root size T h) x after
                    f qs left to next' forced halves short long' (is-forced T h f.child f.there) y (settled (Err y) a) w in
                    ap (λ q. answer_of (ends_at next' q)) err
                    ∙ sym (entered st v.tape (length A) T v.in_force v.positions (length work) top e.next (length deeper) (i.enters.outcome root size T h) (lent_is root size T h) (refuse (slip_of y)) bad w);
                content = refused_made r y _ err;
                blank = a.blank;
                within = a.within;
              }

      -- all children are walked
      pub walked_all : coming ≡ [] → (r : Result (Unit {0}) Fault) → Leaves v r → next ≤ length area → Blank area next → Walked v (length work) A area top next r
      walked_all none r leaves within blank =
          let end = λ (root : Node) (size : ℕ) (T : Node) (h : HeldHere v T). last v root size T e.stride (length B) (length deeper) e.next B others coming area next (b root size T h) none in
          record {
            outcome = λ root size T h w.
                let st = setup_in v root size in
                let fine : (w : ℕ) → walk_in st v.tape (length A) (w + length deeper) (children_of T) (below_of T v.in_force) (items_in st v.tape T v.in_force v.positions) e.next w ≡ got next = λ w.
                ap (λ n. walk_in st v.tape n (w + length deeper) (children_of T) (below_of T v.in_force) (items_in st v.tape T v.in_force v.positions) e.next w) (sym i.long) ∙ (end root size T h).0 w in
                left_as next r (leaving st v.tape T v.in_force v.positions) (leaves root size T h)
                ∙ sym (entered st v.tape (length A) T v.in_force v.positions (length work) top e.next (length deeper) (i.enters.outcome root size T h) (lent_is root size T h) (got next) fine w);
            content = made_always r _ (λ root size T h.
                let st = setup_in v root size in
                let c = own_of st v.tape T v.in_force v.positions in
                let F = cols_in st v.tape (children_of T) (below_of T v.in_force) (items_in st v.tape T v.in_force v.positions) in
                let x = own-space root size T h in
                let n : e.next ≡ top + length (buffers (c ∷ [])) = x.0 ∙ ap (λ k. top + k) (sym (length_buffer c)) in
                let lower : 32 * (v.node + 1 + length F) ≤ top = omega (arith, length-cols_in st v.tape (children_of T) (below_of T v.in_force) (items_in st v.tape T v.in_force v.positions), low T h) in
                (end root size T h).1
                ∙ ap (λ b. written b (v.node + 1) e.next F) (i.enters.content root size T h).page
                ∙ ap (λ j. written (written A v.node top (c ∷ [])) (v.node + 1) j F) n
                ∙ written-append A v.node top (c ∷ []) F lower i.ready.within
                ∙ ap (written A v.node top) (sym (cols_unroll st v.tape T v.in_force v.positions)));
            blank = blank;
            within = within;
          }
