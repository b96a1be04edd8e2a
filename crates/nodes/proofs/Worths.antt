-- What an accepted walk writes are the columns of the values at its positions.
use Rattle.std.proofs.Common.{◌≡◌, ℕ, ◌+◌, ◌*◌, Bool, ◌||◌, List, [], ◌∷◌, ◌++◌, map, length, sym, refl, ap, ◌∙◌, arith}
use mathlib.Core.Option.{Option}
use Rattle.octets.specs.Lists.{first, rest}
use Rattle.slip.specs.Slips.{Got, refuse, got, then, each, accepted}
use Rattle.tape.specs.View.{TapeView}
use Rattle.schema.specs.Tree.{Node, Fields, branch, leaf, ◌⊕◌, field_of, many}
use Rattle.batch.specs.Rows.{row_at}
use Rattle.batch.specs.Values.{NullFirst, Setup, meaning, below, leaf_at}
use Rattle.batch.specs.Format.{Column, text_width}
use Rattle.batch.specs.Batch.{branch_column, leaf_column, columns, columns_in}
use Rattle.batch.proofs.Worth.{worth, worth_item}
use Rattle.batch.proofs.HiddenRows.{branch_columns, item-columns}
use Rattle.rows.specs.Entering.{rows_at, items_of}
use Rattle.laws.specs.Shelf.{room, walk, walk_in}
use Rattle.nodes.specs.Nodes.{gotten, cols, cols_in}
use Rattle.nodes.proofs.Gets.{then_got}

each-accepted : {A : Type 0} (f : ℕ → Got (Option A)) (ps : List ℕ) (xs : List (Option A)) → each f ps ≡ got xs → xs ≡ map (λ p. accepted (f p)) ps
each-accepted f [] xs e = cc
each-accepted {A} f (p ∷ ps) xs e = go (f p) (each f ps) refl e (each-accepted f ps)
  where
    go : (m : Got (Option A)) (n : Got (List (Option A))) → each f ps ≡ n → then m (λ x. then n (λ ys. got (x ∷ ys))) ≡ got xs
        → ((ys : List (Option A)) → each f ps ≡ got ys → ys ≡ map (λ p. accepted (f p)) ps) → xs ≡ accepted m ∷ map (λ p. accepted (f p)) ps
    go (refuse r) n q h under = absurd (let z : ◌≡◌ {A = ℕ} 0 1 = cc in omega arith)
    go (got x) (refuse r) q h under = absurd (let z : ◌≡◌ {A = ℕ} 0 1 = cc in omega arith)
    go (got x) (got ys) q h under =
        let is : xs ≡ x ∷ ys = cc in
        is ∙ ap (λ r. x ∷ r) (under ys q)

module _ (st : Setup) (t : TapeView) (null : NullFirst t) (free lent : ℕ) where
  mutual
    pub cols_are : (c : Node) (inForce : Bool) (ps : List ℕ) (top work end : ℕ) → got end ≡ walk st t free lent c inForce ps top work
        → cols st t c inForce ps ≡ columns st c (map (worth st t c inForce) ps)
    cols_are (branch f b cs) inForce ps top work end e =
        let row = row_at st.settings t f b cs inForce in
        let o = then_got (rows_at st.settings t f b cs inForce ps) _ end e in
        let rows = o.0 in
        let items = items_of b cs rows in
        let p = then_got (room free lent f.number top work (branch_column b rows) (many cs * length items)) _ end o.2 in
        let q = then_got (walk_in st t free lent cs (below b inForce) items p.0 (work + many cs * length items)) _ end p.2 in
        let under = cols_in_are cs (below b inForce) items p.0 (work + many cs * length items) q.0 (sym q.1) in
        let F = λ (rs : List (Option (List (List ℕ)))). branch_column b rs ∷ cols_in st t cs (below b inForce) (items_of b cs rs) in
        let G = λ (rs : List (Option (List (List ℕ)))). branch_column b rs ∷ columns_in st cs (map (worth_item st t cs (below b inForce)) (items_of b cs rs)) in
        ap F (ap gotten o.1)
        ∙ ap (λ (xs : List Column). branch_column b rows ∷ xs) under
        ∙ ap G (each-accepted row ps rows o.1)
        ∙ sym (branch_columns st t null f b cs inForce ps)
    cols_are (leaf f k) inForce ps top work end e =
        let o = then_got (each (leaf_at st t f k) ps) _ end e in
        ap (λ (os : List (Option (List ℕ))). leaf_column (meaning st k).layout (text_width k) os ∷ []) (ap gotten o.1 ∙ each-accepted (leaf_at st t f k) ps o.0 o.1)

    pub cols_in_are : (cs : Fields) (inForce : Bool) (items : List (List ℕ)) (top work end : ℕ) → got end ≡ walk_in st t free lent cs inForce items top work
        → cols_in st t cs inForce items ≡ columns_in st cs (map (worth_item st t cs inForce) items)
    cols_in_are Fields.none inForce items top work end e = refl
    cols_in_are (c ⊕ cs) inForce items top work end e =
        let down = inForce || (field_of c).nullable in
        let o = then_got (walk st t free lent c down (map first items) top work) (λ next. walk_in st t free lent cs inForce (map rest items) next work) end e in
        let x = cols_are c down (map first items) top work o.0 (sym o.1) in
        let y = cols_in_are cs inForce (map rest items) o.0 work end o.2 in
        ap (λ (xs : List Column). xs ++ cols_in st t cs inForce (map rest items)) x
        ∙ ap (λ (ys : List Column). columns st c (map (worth st t c down) (map first items)) ++ ys) y
        ∙ sym (item-columns st t null c cs inForce items)
