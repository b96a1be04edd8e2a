-- What is told of a row, and what a row of each kind gives.
use Rattle.std.proofs.Common.{◌≡◌, ℕ, zero, suc, ◌-◌, ◌/◌, ◌^◌, ◌≤◌, Bool, true, false, cond, not, List, [], ◌∷◌, ◌++◌, length, get_or, replicate, sym, refl, ap, ◌∙◌, subst, ⊎_elim, arith}
use mathlib.Core.Option.{Option, some}
use Rattle.std.proofs.lemmas.List.{get_or_past, get_or-map, length-map, get_or-replicate, length-replicate, get_or_append_left, get_or-append_right}
use Rattle.std.proofs.lemmas.Bool.{cases_lt, cases_eq, eq-eqb, ne_eqb, and_parts}
use Rattle.octets.specs.Lists.{all, is_some}
use Rattle.slip.specs.Slips.{Slip, slip, Got, refuse, got, then, is_got, accepted}
use Rattle.tape.specs.Layout.{the}
use Rattle.tape.specs.Opens.{Untorn}
use Rattle.tape.specs.Opened.{view_of}
use Rattle.tape.specs.View.{TapeView, is_at, is_position, entries}
use Rattle.tape.specs.Walk.{Bracketed}
use Rattle.tape.proofs.Walks.{list_law, object_law, first_law, all-at}
use Rattle.schema.specs.Tree.{Fields}
use Rattle.schema.specs.declared.kind.Branch.{Branch}
use Rattle.schema.specs.declared.kind.Branch.TheVariants.{Fixed as fixed}
use Rattle.batch.specs.Rows.{singles, pairs}
use Rattle.batch.specs.Values.{taken, zeros}
use Rattle.rows.specs.declared.Reading.{Reading}
use Rattle.rows.specs.Kinds.{begins_at, row_in, row_size, row_there, items_in}
use Rattle.rows.specs.Filling.{Filled, Positions}
use Rattle.rows.proofs.Starts.{bracket-there}

module _ (r : Reading) (b : Branch) (cs : Fields) (p : ℕ) where
  pub said_got : (o : Option (List (List ℕ))) → row_in r b cs p ≡ got o → got (row_size b cs o) ≡ then (row_in r b cs p) (λ o. got (row_size b cs o))
  said_got o e = ap (λ x. then x (λ o. got (row_size b cs o))) (sym e)

  pub said_refused : (s : Slip) → row_in r b cs p ≡ refuse s → refuse s ≡ then (row_in r b cs p) (λ o. got (row_size b cs o))
  said_refused s e = ap (λ x. then x (λ o. got (row_size b cs o))) (sym e)

  pub count_got : (o : Option (List (List ℕ))) → row_in r b cs p ≡ got o → got (length (taken b (zeros cs) o)) ≡ then (row_in r b cs p) (λ o. got (length (taken b (zeros cs) o)))
  count_got o e = ap (λ x. then x (λ o. got (length (taken b (zeros cs) o)))) (sym e)

  pub count_refused : (s : Slip) → row_in r b cs p ≡ refuse s → refuse s ≡ then (row_in r b cs p) (λ o. got (length (taken b (zeros cs) o)))
  count_refused s e = ap (λ x. then x (λ o. got (length (taken b (zeros cs) o)))) (sym e)

  pub there_got : (o : Option (List (List ℕ))) → row_in r b cs p ≡ got o → row_there r b cs p ≡ o
  there_got o e = ap accepted e

-- what a filled row tells, by what the row is
module _ (r : Reading) (b : Branch) (cs : Fields) (p : ℕ) (o : Option (List (List ℕ))) (e : row_there r b cs p ≡ o) where
  pub items_there : items_in r b cs p ≡ taken b (zeros cs) o
  items_there = ap (taken b (zeros cs)) e

  pub size_there : row_size b cs o ≡ row_size b cs (row_there r b cs p)
  size_there = ap (row_size b cs) (sym e)

  pub filled-there : {kids stride at : ℕ} {A B : List ℕ} → Filled kids stride at (taken b (zeros cs) o) A B → Filled kids stride at (items_in r b cs p) A B
  filled-there {kids} {stride} {at} {A} {B} f = subst (λ xs. Filled kids stride at xs A B) (sym items_there) f

  pub positions_there : (t : TapeView) → Positions t (taken b (zeros cs) o) → Positions t (items_in r b cs p)
  positions_there t f = subst (Positions t) (sym items_there) f

-- a row that begins as it should has its bracket
pub begins_bracket : (r : Reading) (l p : ℕ) → begins_at r l p ≡ got true → is_at (view_of r.rows.tape) l p ≡ true
begins_bracket r l p e = pick (is_at (view_of r.rows.tape) l p) _ (slip 5 r.node p) e
  where
    pick : (x y : Bool) (s : Slip) → cond x (got true) (cond y (got false) (refuse s)) ≡ got true → x ≡ true
    pick true y s e = refl
    pick false true s e = cc
    pick false false s e = absurd (let z : ◌≡◌ {A = ℕ} 0 1 = cc in omega arith)

-- no more entries than a tape has elements
pub few_entries : (t : TapeView) → Untorn t → {c : ℕ} (p : ℕ) → Bracketed t c p → length (entries t p) ≤ 2 ^ 24
few_entries t o p b = omega (arith, b.few, o.few_elements)

-- positions
pub position_at : (t : TapeView) → Untorn t → (es : List ℕ) → all (is_position t) es ≡ true → (k : ℕ) → is_position t (get_or es k 0) ≡ true
position_at t o es h k = ⊎_elim (λ l. all-at (is_position t) es k 0 h l) (λ l. ap (is_position t) (get_or_past es k 0 l) ∙ (first_law t o).0) (cases_lt k (length es))

module _ (t : TapeView) (o : Untorn t) where
  pub zero_position : is_position t 0 ≡ true
  zero_position = (first_law t o).0

  -- past the end there is position 0
  pub past_position : (items : List (List ℕ)) (i k : ℕ) → length items ≤ i → is_position t (get_or (get_or items i []) k 0) ≡ true
  past_position items i k l = ap (λ a. is_position t (get_or a k 0)) (get_or_past items i [] l) ∙ zero_position

  pub singles_positions : (es : List ℕ) → all (is_position t) es ≡ true → Positions t (singles es)
  singles_positions es h i k =
      ⊎_elim
      (λ l. ap (λ a. is_position t (get_or a k 0)) (get_or-map (λ e. e ∷ []) es i 0 [] l) ∙ one (get_or es i 0) k (position_at t o es h i))
      (λ l. past_position (singles es) i k (omega (arith, length-map es (λ e. e ∷ []))))
      (cases_lt i (length es))
    where
      one : (x k : ℕ) → is_position t x ≡ true → is_position t (get_or (x ∷ []) k 0) ≡ true
      one x zero e = e
      one x (suc k) e = zero_position

  pub zeros_position : (m k : ℕ) → is_position t (get_or (replicate m 0) k 0) ≡ true
  zeros_position m k =
      ⊎_elim
      (λ l. ap (is_position t) (get_or-replicate m k 0 0 l) ∙ zero_position)
      (λ l. ap (is_position t) (get_or_past (replicate m 0) k 0 (omega (arith, length-replicate {A = ℕ} m 0))) ∙ zero_position)
      (cases_lt k m)

  pub zeros_positions : (n m : ℕ) → Positions t (replicate n (replicate m 0))
  zeros_positions n m i k =
      ⊎_elim
      (λ l. ap (λ a. is_position t (get_or a k 0)) (get_or-replicate n i (replicate m 0) [] l) ∙ zeros_position m k)
      (λ l. past_position (replicate n (replicate m 0)) i k (omega (arith, length-replicate n (replicate {A = ℕ} m 0))))
      (cases_lt i n)

  pub one_position : (item : List ℕ) → ((k : ℕ) → is_position t (get_or item k 0) ≡ true) → Positions t (item ∷ [])
  one_position item h zero k = h k
  one_position item h (suc i) k = zero_position

-- items one after another
pub append_positions : (t : TapeView) (xs ys : List (List ℕ)) → Positions t xs → Positions t ys → Positions t (xs ++ ys)
append_positions t xs ys v w i k =
    ⊎_elim
    (λ l. ap (λ a. is_position t (get_or a k 0)) (get_or_append_left xs ys [] i l) ∙ v i k)
    (λ l. ap (λ a. is_position t (get_or a k 0)) (get_or-append_right xs ys (length xs) i [] refl l) ∙ w (i - length xs) k)
    (cases_lt i (length xs))

-- the entries of a list row
module _ (r : Reading) (cs : Fields) (p n : ℕ) where
  abbrev es : List ℕ
  es = entries (view_of r.rows.tape) p

  pub fixed_there : is_at (view_of r.rows.tape) (the "[") p ≡ true → length es ≡ n → row_in r (fixed n) cs p ≡ got (some (singles es))
  fixed_there e m = bracket-there r cs p (fixed n) e ∙ ap (λ x. then (cond x (got (singles es)) (refuse (slip 9 r.node p))) (λ is. got (some is))) (eq-eqb (length es) n m)

  pub fixed_wrong : is_at (view_of r.rows.tape) (the "[") p ≡ true → (length es ≡ n → ⊥) → row_in r (fixed n) cs p ≡ refuse (slip 9 r.node p)
  fixed_wrong e m = bracket-there r cs p (fixed n) e ∙ ap (λ x. then (cond x (got (singles es)) (refuse (slip 9 r.node p))) (λ is. got (some is))) (ne_eqb (length es) n m)

  pub fixed_count : is_at (view_of r.rows.tape) (the "[") p ≡ true → is_got (row_in r (fixed n) cs p) ≡ true → length es ≡ n
  fixed_count e g = ⊎_elim (λ m. m) (λ m. absurd (let f = ap is_got (fixed_wrong e m) in let z : ◌≡◌ {A = ℕ} 0 1 = cc in omega arith)) (cases_eq (length es) n)

-- the pairs of a map row
pub length_pairs : (es : List ℕ) → length (pairs es) ≡ length es / 2
length_pairs [] = refl
length_pairs (k ∷ []) = refl
length_pairs (k ∷ (v ∷ es)) = omega (arith, length_pairs es)

pub pairs_positions : (t : TapeView) → Untorn t → (es : List ℕ) → all (is_position t) es ≡ true → Positions t (pairs es)
pairs_positions t o [] h i k = zero_position t o
pairs_positions t o (a ∷ []) h i k = zero_position t o
pairs_positions t o (a ∷ (b ∷ _)) h zero zero = (and_parts (is_position t a) _ h).0
pairs_positions t o (a ∷ (b ∷ _)) h zero (suc zero) = (and_parts (is_position t b) _ (and_parts (is_position t a) _ h).1).0
pairs_positions t o (a ∷ (b ∷ _)) h zero (suc (suc k)) = zero_position t o
pairs_positions t o (a ∷ (b ∷ rest)) h (suc i) k = pairs_positions t o rest (and_parts (is_position t b) _ (and_parts (is_position t a) _ h).1).1 i k

-- the entries of either are positions
pub entries_positions : (t : TapeView) → Untorn t → (p : ℕ) → is_position t p ≡ true → (l : Bool) → is_at t (cond l (the "[") (the "{")) p ≡ true → all (is_position t) (entries t p) ≡ true
entries_positions t o p h true e = (list_law t o p h e).positions
entries_positions t o p h false e = (object_law t o p h e).bracketed.positions

-- a row that begins as it should is not null
pub some_got : {X : Type 0} (x : Got X) (o : Option X) → then x (λ is. got (some is)) ≡ got o → not (is_some o) ≡ false
some_got (refuse s) o e = absurd (let z : ◌≡◌ {A = ℕ} 0 1 = cc in omega arith)
some_got (got is) o e = let q : some is ≡ o = cc in ap (λ o. not (is_some o)) (sym q)

pub some_there : {X : Type 0} (x : Got X) (o : Got (Option X)) → o ≡ then x (λ is. got (some is)) → is_got o ≡ true → not (is_some (accepted o)) ≡ false
some_there (refuse s) o e g = absurd (let f = ap is_got (sym e) ∙ g in let z : ◌≡◌ {A = ℕ} 0 1 = cc in omega arith)
some_there (got is) o e g = ap (λ o. not (is_some (accepted o))) e
