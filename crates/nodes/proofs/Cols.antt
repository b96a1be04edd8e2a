-- A walk is an entry, then the children, and then a test; where it ends, and how many columns it writes.
use Rattle.std.proofs.Common.{◌≡◌, ℕ, ◌+◌, ◌*◌, ◌≤◌, Bool, ◌||◌, List, [], ◌∷◌, map, length, get_or, sym, refl, ap, ◌∙◌, add-one, arith, length-append}
use mathlib.Core.Option.{Option}
use Rattle.octets.specs.Lists.{first, rest, joined}
use Rattle.slip.specs.Slips.{Got, refuse, got, then, each}
use Rattle.tape.specs.View.{TapeView}
use Rattle.schema.specs.Tree.{Node, Fields, branch, leaf, ◌⊕◌, field_of, children_of, many, nodes, nodes_in}
use Rattle.batch.specs.Values.{Setup, meaning, below, leaf_at}
use Rattle.batch.specs.Format.{Column, text_width}
use Rattle.batch.specs.Batch.{branch_column, leaf_column, buffers}
use Rattle.columns.specs.Areas.{space}
use Rattle.columns.proofs.Writes.{length-buffers, buffers-append}
use Rattle.rows.specs.Entering.{rows_at, items_of, child_at}
use Rattle.laws.specs.Shelf.{room, slots_of, bare, walk, walk_in}
use Rattle.nodes.specs.Nodes.{gotten, below_of, own_of, items_in, entering, leaving, cols, cols_in}
use Rattle.nodes.proofs.Gets.{then_got, got_same, room_got, room_is}

then_eta : {A : Type 0} (a : Got A) → then a (λ x. got x) ≡ a
then_eta (refuse r) = refl
then_eta (got x) = refl

-- the positions of the first child, and of those behind it
pub child_first : (items : List (List ℕ)) → child_at 0 items ≡ map first items
child_first [] = refl
child_first ([] ∷ items) = ap (λ r. 0 ∷ r) (child_first items)
child_first ((p ∷ ps) ∷ items) = ap (λ r. p ∷ r) (child_first items)

get_rest : (j : ℕ) (i : List ℕ) → get_or i (j + 1) 0 ≡ get_or (rest i) j 0
get_rest j [] = refl
get_rest j (p ∷ ps) = rw (add-one j)

pub child_rest : (j : ℕ) (items : List (List ℕ)) → child_at (j + 1) items ≡ child_at j (map rest items)
child_rest j [] = refl
child_rest j (i ∷ items) = ap (λ x. x ∷ child_at (j + 1) items) (get_rest j i) ∙ ap (λ r. get_or (rest i) j 0 ∷ r) (child_rest j items)

module _ (st : Setup) (t : TapeView) where
  pub cols_unroll : (T : Node) (inForce : Bool) (ps : List ℕ) → cols st t T inForce ps ≡ own_of st t T inForce ps ∷ cols_in st t (children_of T) (below_of T inForce) (items_in st t T inForce ps)
  cols_unroll (branch f b cs) inForce ps = refl
  cols_unroll (leaf f k) inForce ps = refl

  mutual
    pub length-cols : (T : Node) (inForce : Bool) (ps : List ℕ) → length (cols st t T inForce ps) ≡ length (nodes T)
    length-cols (branch f b cs) inForce ps = omega (arith, length-cols_in cs (below b inForce) (items_of b cs (gotten (rows_at st.settings t f b cs inForce ps))))
    length-cols (leaf f k) inForce ps = refl

    pub length-cols_in : (cs : Fields) (inForce : Bool) (items : List (List ℕ)) → length (cols_in st t cs inForce items) ≡ length (nodes_in cs)
    length-cols_in Fields.none inForce items = refl
    length-cols_in (c ⊕ cs) inForce items =
        length-append (cols st t c (inForce || (field_of c).nullable) (map first items)) (cols_in st t cs inForce (map rest items))
        ∙ omega (arith, length-cols c (inForce || (field_of c).nullable) (map first items), length-cols_in cs inForce (map rest items), length-append (nodes c) (nodes_in cs))

  module _ (free : ℕ) where
    -- where an accepted walk ends
    mutual
      pub walk_end : (T : Node) (inForce : Bool) (ps : List ℕ) (lent top work m : ℕ) → got m ≡ walk st t free lent T inForce ps top work
          → (m ≡ top + length (buffers (cols st t T inForce ps))) × (m ≤ free)
      walk_end (branch f b cs) inForce ps lent top work m e =
          let o = then_got (rows_at st.settings t f b cs inForce ps) _ m e in
          let rows = o.0 in
          let items = items_of b cs rows in
          let p = then_got (room free lent f.number top work (branch_column b rows) (many cs * length items)) _ m o.2 in
          let q = then_got (walk_in st t free lent cs (below b inForce) items p.0 (work + many cs * length items)) _ m p.2 in
          let r = then_got (bare st t cs (below b inForce) (joined (map (slots_of b) rows))) (λ _. got q.0) m q.2 in
          let n = room_got free top (branch_column b rows) lent f.number work (many cs * length items) p.0 (sym p.1) in
          let h = fields_end cs (below b inForce) items lent p.0 (work + many cs * length items) q.0 (sym q.1) n.1 in
          let same = got_same m q.0 r.2 in
          let g : gotten (rows_at st.settings t f b cs inForce ps) ≡ rows = ap gotten o.1 in
          let F = λ (rs : List (Option (List (List ℕ)))). length (buffers (branch_column b rs ∷ cols_in st t cs (below b inForce) (items_of b cs rs))) in
          (omega (arith, same, h.0, n.0, ap F g, length-buffers (branch_column b rows) (cols_in st t cs (below b inForce) items)), omega (arith, same, h.1))
      walk_end (leaf f k) inForce ps lent top work m e =
          let o = then_got (each (leaf_at st t f k) ps) _ m e in
          let c = leaf_column (meaning st k).layout (text_width k) o.0 in
          let n = room_got free top c lent f.number work 0 m o.2 in
          let g : gotten (each (leaf_at st t f k) ps) ≡ o.0 = ap gotten o.1 in
          let F = λ (os : List (Option (List ℕ))). length (buffers (leaf_column (meaning st k).layout (text_width k) os ∷ [])) in
          (omega (arith, n.0, ap F g, length-buffers c []), n.1)

      pub fields_end : (cs : Fields) (inForce : Bool) (items : List (List ℕ)) (lent top work m : ℕ) → got m ≡ walk_in st t free lent cs inForce items top work → top ≤ free
          → (m ≡ top + length (buffers (cols_in st t cs inForce items))) × (m ≤ free)
      fields_end Fields.none inForce items lent top work m e h = let s = got_same m top e in (omega (arith, s), omega (arith, s, h))
      fields_end (c ⊕ cs) inForce items lent top work m e h =
          let o = then_got (walk st t free lent c (inForce || (field_of c).nullable) (map first items) top work) (λ next. walk_in st t free lent cs inForce (map rest items) next work) m e in
          let w = walk_end c (inForce || (field_of c).nullable) (map first items) lent top work o.0 (sym o.1) in
          let x = fields_end cs inForce (map rest items) lent o.0 work m o.2 w.1 in
          let A = cols st t c (inForce || (field_of c).nullable) (map first items) in
          let B = cols_in st t cs inForce (map rest items) in
          (omega (arith, w.0, x.0, ap length (buffers-append A B), length-append (buffers A) (buffers B)), x.1)

    -- a walk is its entry, then its children, and then a test of them
    abbrev pub unrolled : (T : Node) (inForce : Bool) (ps : List ℕ) (left top w : ℕ) → Got ℕ
    unrolled T inForce ps left top w =
        then (entering st t free left T inForce ps top) (λ next.
        then (walk_in st t free (w + left) (children_of T) (below_of T inForce) (items_in st t T inForce ps) next (w + many (children_of T) * length (items_in st t T inForce ps))) (λ end.
        then (leaving st t T inForce ps) (λ _. got end)))

    branch_unroll :
        {R : Type 0} (m : Got (List R)) (c : List R → Column) (more : List R → ℕ) (number left top w : ℕ) (K : List R → ℕ → Got ℕ) →
        then m (λ rows. then (room free (w + left) number top w (c rows) (more rows)) (K rows))
        ≡ then (then m (λ rows. space free left number top (c rows) (more rows))) (K (gotten m))
    branch_unroll (refuse r) c more number left top w K = refl
    branch_unroll (got rows) c more number left top w K = ap (λ g. then g (K rows)) (room_is free top (c rows) left number w (more rows))

    leaf_unroll :
        {R : Type 0} (m : Got (List R)) (c : List R → Column) (number left top w : ℕ) →
        then m (λ rows. room free (w + left) number top w (c rows) 0) ≡ then (then m (λ rows. space free left number top (c rows) 0)) (λ next. got next)
    leaf_unroll (refuse r) c number left top w = refl
    leaf_unroll (got rows) c number left top w = room_is free top (c rows) left number w 0 ∙ sym (then_eta (space free left number top (c rows) 0))

    pub walk_unroll : (T : Node) (inForce : Bool) (ps : List ℕ) (left top w : ℕ) → walk st t free (w + left) T inForce ps top w ≡ unrolled T inForce ps left top w
    walk_unroll (branch f b cs) inForce ps left top w =
        branch_unroll (rows_at st.settings t f b cs inForce ps) (branch_column b) (λ rows. many cs * length (items_of b cs rows)) f.number left top w
        (λ rows next.
        then (walk_in st t free (w + left) cs (below b inForce) (items_of b cs rows) next (w + many cs * length (items_of b cs rows))) (λ end.
        then (bare st t cs (below b inForce) (joined (map (slots_of b) rows))) (λ _. got end)))
    walk_unroll (leaf f k) inForce ps left top w =
        leaf_unroll (each (leaf_at st t f k) ps) (leaf_column (meaning st k).layout (text_width k)) f.number left top w
