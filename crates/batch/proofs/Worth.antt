-- A value made total: what is refused counts as null, so that the columns of any positions can be spoken of.
use Rattle.std.proofs.Common.{◌≡◌, ℕ, zero, suc, ◌<◌, Bool, true, false, ◌&&◌, ◌||◌, List, [], ◌∷◌, map, length, get_or, sym, refl, ap, ◌∙◌, ap₂, le_of_suc-le-suc, not-suc-le-zero, arith}
use mathlib.Core.Option.{Option, none, some}
use Rattle.std.proofs.lemmas.Bool.{both_ways, and_parts}
use Rattle.octets.specs.Lists.{via, all, or_else, first, rest}
use Rattle.schema.specs.Tree.{Node, Fields, branch, leaf, ◌⊕◌, field_of}
use Rattle.tape.specs.View.{TapeView}
use Rattle.slip.specs.Slips.{Got, refuse, got, then, each, is_got, accepted}
use Rattle.batch.specs.Rows.{row_at}
use Rattle.batch.specs.Values.{Setup, Value, Item, below, leaf_at, value, item, inside, fits, fit_item, filled, taken, zeros}

module _ (st : Setup) (t : TapeView) where
  abbrev mutual
    pub worth : (c : Node) → (inForce : Bool) → ℕ → Value c
    worth (branch f b cs) inForce p = via (map (worth_item cs (below b inForce))) (accepted (row_at st.settings t f b cs inForce p))
    worth (leaf f k) inForce p = accepted (leaf_at st t f k p)

    pub worth_item : (cs : Fields) → Bool → List ℕ → Item cs
    worth_item Fields.none inForce ps = tt
    worth_item (c ⊕ cs) inForce ps = (worth c (inForce || (field_of c).nullable) (first ps), worth_item cs inForce (rest ps))

  abbrev pub worths : List ℕ → List (Value st.root)
  worths ps = map (worth st.root (field_of st.root).nullable) ps

-- each is got where a test passes
pub each_got : {A B : Type 0} (f : A → Got B) (g : A → B) (test : A → Bool) → ((x : A) → test x ≡ true → f x ≡ got (g x)) → (xs : List A) → all test xs ≡ true → each f xs ≡ got (map g xs)
each_got f g test h [] e = refl
each_got f g test h (x ∷ xs) e =
    let both = and_parts (test x) (all test xs) e in
    rw (h x both.0, each_got f g test h xs both.1)

got_accepted : {A : Type 0} (m : Got (Option A)) → is_got m ≡ true → m ≡ got (accepted m)
got_accepted (refuse r) e = absurd (both_ways false refl e)
got_accepted (got o) e = refl

module _ (st : Setup) (t : TapeView) where
  -- what fits has its value
  mutual
    pub worth_is : (c : Node) (force : Bool) (p : ℕ) → fits st t c force p ≡ true → value st t c force p ≡ got (worth st t c force p)
    worth_is (branch f b cs) force p e = go (item st t cs (below b force)) (worth_item st t cs (below b force)) (worth_items cs (below b force)) (row_at st.settings t f b cs force p) e
      where
        go : (g : List ℕ → Got (Item cs)) (w : List ℕ → Item cs) → ((ps : List ℕ) → fit_item st t cs (below b force) ps ≡ true → g ps ≡ got (w ps)) → (row : Got (Option (List (List ℕ))))
            → (is_got row && (all (fit_item st t cs (below b force)) (taken b (zeros cs) (accepted row)) && all (filled st t cs (below b force)) (or_else [] (accepted row)))) ≡ true
            → then row (inside g) ≡ got (via (map w) (accepted row))
        go g w h (refuse r) e = absurd (both_ways false refl e)
        go g w h (got none) e = refl
        go g w h (got (some is)) e =
            rw (each_got g w (fit_item st t cs (below b force)) h is (and_parts (all (fit_item st t cs (below b force)) is) (all (filled st t cs (below b force)) is) e).0)
    worth_is (leaf f k) force p e = got_accepted (leaf_at st t f k p) e

    worth_items : (cs : Fields) (force : Bool) (ps : List ℕ) → fit_item st t cs force ps ≡ true → item st t cs force ps ≡ got (worth_item st t cs force ps)
    worth_items Fields.none force ps e = refl
    worth_items (c ⊕ cs) force ps e =
        let both = and_parts (fits st t c (force || (field_of c).nullable) (first ps)) (fit_item st t cs force (rest ps)) e in
        rw (worth_is c (force || (field_of c).nullable) (first ps) both.0, worth_items cs force (rest ps) both.1)

-- what is got of each, where each is got as a function says
pub each_worth : {A B : Type 0} (f : A → Got B) (g : A → B) → ((x : A) (y : B) → f x ≡ got y → y ≡ g x) → (xs : List A) (ys : List B) → each f xs ≡ got ys → ys ≡ map g xs
each_worth f g h [] ys e = let q : ys ≡ [] = cc in q
each_worth {A} {B} f g h (x ∷ xs) ys e = go (f x) refl (each f xs) (each_worth f g h xs) e
  where
    go : (m : Got B) → f x ≡ m → (n : Got (List B)) → ((zs : List B) → n ≡ got zs → zs ≡ map g xs) → then m (λ y. then n (λ zs. got (y ∷ zs))) ≡ got ys → ys ≡ map g (x ∷ xs)
    go (refuse r) p n q e = absurd (let z : ◌≡◌ {A = ℕ} 0 1 = cc in omega arith)
    go (got y) p (refuse r) q e = absurd (let z : ◌≡◌ {A = ℕ} 0 1 = cc in omega arith)
    go (got y) p (got zs) q e =
        let is : ys ≡ y ∷ zs = cc in
        is ∙ ap₂ (λ a r. a ∷ r) (h x y p) (q zs refl)

module _ (st : Setup) (t : TapeView) where
  -- a value that there is
  mutual
    pub value_worth : (c : Node) (force : Bool) (p : ℕ) (v : Value c) → value st t c force p ≡ got v → v ≡ worth st t c force p
    value_worth (branch f b cs) force p v e = go (item st t cs (below b force)) (worth_item st t cs (below b force)) (item_worth cs (below b force)) (row_at st.settings t f b cs force p) e
      where
        one : (w : List ℕ → Item cs) (is : List (List ℕ)) (m : Got (List (Item cs))) → ((xs : List (Item cs)) → m ≡ got xs → xs ≡ map w is) → then m (λ xs. got (some xs)) ≡ got v → v ≡ some (map w is)
        one w is (refuse r) h e = absurd (let z : ◌≡◌ {A = ℕ} 0 1 = cc in omega arith)
        one w is (got xs) h e = let q : v ≡ some xs = cc in q ∙ ap some (h xs refl)

        go : (g : List ℕ → Got (Item cs)) (w : List ℕ → Item cs) → ((ps : List ℕ) (i : Item cs) → g ps ≡ got i → i ≡ w ps) → (row : Got (Option (List (List ℕ)))) → then row (inside g) ≡ got v
            → v ≡ via (map w) (accepted row)
        go g w h (refuse r) e = absurd (let z : ◌≡◌ {A = ℕ} 0 1 = cc in omega arith)
        go g w h (got none) e = let q : v ≡ none = cc in q
        go g w h (got (some is)) e = one w is (each g is) (each_worth g w h is) e
    value_worth (leaf f k) force p v e = sym (ap accepted e)

    item_worth : (cs : Fields) (force : Bool) (ps : List ℕ) (i : Item cs) → item st t cs force ps ≡ got i → i ≡ worth_item st t cs force ps
    item_worth Fields.none force ps i e = refl
    item_worth (c ⊕ cs) force ps i e = go (value st t c F (first ps)) (value_worth c F (first ps)) (item st t cs force (rest ps)) (item_worth cs force (rest ps)) e
      where
        F : Bool
        F = force || (field_of c).nullable

        go : (m : Got (Value c)) → ((v : Value c) → m ≡ got v → v ≡ worth st t c F (first ps)) → (n : Got (Item cs)) → ((j : Item cs) → n ≡ got j → j ≡ worth_item st t cs force (rest ps))
            → then m (λ x. then n (λ is. got (x, is))) ≡ got i → i ≡ (worth st t c F (first ps), worth_item st t cs force (rest ps))
        go (refuse r) h n k e = absurd (let z : ◌≡◌ {A = ℕ} 0 1 = cc in omega arith)
        go (got x) h (refuse r) k e = absurd (let z : ◌≡◌ {A = ℕ} 0 1 = cc in omega arith)
        go (got x) h (got is) k e = let q : i ≡ (x, is) = cc in q ∙ (λ j. (h x refl j, k is refl j))

-- the parts of what is got of each
pub each_parts : {A B : Type 0} (f : A → Got B) (xs : List A) (ys : List B) → each f xs ≡ got ys
    → (length ys ≡ length xs) × ((k : ℕ) (d : A) (e : B) → k < length xs → f (get_or xs k d) ≡ got (get_or ys k e))
each_parts f [] ys h = let q : ys ≡ [] = cc in rw q (refl, λ k d e l. absurd (not-suc-le-zero l))
each_parts {A} {B} f (x ∷ xs) ys h = go (f x) refl (each f xs) refl h (each_parts f xs)
  where
    go : (m : Got B) → f x ≡ m → (n : Got (List B)) → each f xs ≡ n → then m (λ y. then n (λ zs. got (y ∷ zs))) ≡ got ys
        → ((zs : List B) → each f xs ≡ got zs → (length zs ≡ length xs) × ((k : ℕ) (d : A) (e : B) → k < length xs → f (get_or xs k d) ≡ got (get_or zs k e)))
        → (length ys ≡ length (x ∷ xs)) × ((k : ℕ) (d : A) (e : B) → k < length (x ∷ xs) → f (get_or (x ∷ xs) k d) ≡ got (get_or ys k e))
    go (refuse r) p n q h under = absurd (let z : ◌≡◌ {A = ℕ} 0 1 = cc in omega arith)
    go (got y) p (refuse r) q h under = absurd (let z : ◌≡◌ {A = ℕ} 0 1 = cc in omega arith)
    go (got y) p (got zs) q h under =
        let is : ys ≡ y ∷ zs = cc in
        let more = under zs q in
        rw is (ap suc more.0, λ k d e l. elim k as (λ k. k < length (x ∷ xs) → f (get_or (x ∷ xs) k d) ≡ got (get_or (y ∷ zs) k e)) [ zero ↦ λ l. p | suc k ↦ λ l. more.1 k d e (le_of_suc-le-suc l) ] l)
