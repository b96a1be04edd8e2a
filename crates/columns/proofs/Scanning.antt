-- The rows of a leaf, read one after another.
use Rattle.std.proofs.Common.{◌≡◌, ℕ, ◌+◌, ◌<◌, ◌≤◌, min, List, [], ◌∷◌, ◌++◌, length, get_or, take, drop, sym, refl, ap, ◌∙◌, arith}
use mathlib.Core.Option.{Option, none, some}
use Rattle.std.proofs.lemmas.List.{take_more, take_all, drop_more, take-append-drop, map-append, map_more}
use Rattle.slip.specs.Slips.{Slip, Got, refuse, got, then, each}
use Rattle.octets.specs.Lists.{or_else, sum}
use Rattle.tape.specs.View.{TapeView, element_at}
use Rattle.leaf.specs.Meaning.{Meaning, Answer, nothing, conflict, misfit, value, shown}
use Rattle.leaf.specs.Replies.{reply_of}
use Rattle.leaf.specs.declared.layout.Reply.TheVariants.{Null, Conflict, Misfit, Value}
use Rattle.batch.specs.Values.{kept}
use Rattle.batch.specs.Batch.{nulls, sizes}
use Rattle.columns.specs.Entering.{answers}
use Rattle.columns.specs.Leaves.{cell_at, cells}

-- what an answer was, from its reply
pub null-from : (a : Answer) → Null ≡ reply_of a → a ≡ nothing
null-from nothing e = refl
null-from conflict e = cc
null-from misfit e = cc
null-from (value bs) e = cc

pub conflict_from : (a : Answer) → Conflict ≡ reply_of a → a ≡ conflict
conflict_from nothing e = cc
conflict_from conflict e = refl
conflict_from misfit e = cc
conflict_from (value bs) e = cc

pub misfit_from : (a : Answer) → Misfit ≡ reply_of a → a ≡ misfit
misfit_from nothing e = cc
misfit_from conflict e = cc
misfit_from misfit e = refl
misfit_from (value bs) e = cc

pub value-from : (a : Answer) (n : ℕ) → Value n ≡ reply_of a → (bs : List ℕ) × (a ≡ value bs) × (n ≡ length bs)
value-from nothing n e = let z : ◌≡◌ {A = ℕ} 0 1 = cc in absurd (omega arith)
value-from conflict n e = let z : ◌≡◌ {A = ℕ} 0 1 = cc in absurd (omega arith)
value-from misfit n e = let z : ◌≡◌ {A = ℕ} 0 1 = cc in absurd (omega arith)
value-from (value bs) n e = (bs, refl, cc)

-- `each`, cut in two
module _ {A B : Type 0} (f : A → Got B) where
  then-then : {X Y Z : Type 0} (r : Got X) (h : X → Got Y) (k : Y → Got Z) → then (then r h) k ≡ then r (λ x. then (h x) k)
  then-then (refuse s) h k = refl
  then-then (got x) h k = refl

  none_got : (ys : List A) (os : List B) (r : Got (List B)) → [] ≡ os → r ≡ then r (λ bs. got (os ++ bs))
  none_got ys os (refuse s) z = refl
  none_got ys os (got bs) z = ap (λ t. got (t ++ bs)) z

  more_got : (xs ys : List A) (os : List B) (b : B) (r : Got (List B)) → ((bs : List B) → r ≡ got bs → each f (xs ++ ys) ≡ then (each f ys) (λ cs. got (bs ++ cs)))
      → then r (λ bs. got (b ∷ bs)) ≡ got os → then (each f (xs ++ ys)) (λ bs. got (b ∷ bs)) ≡ then (each f ys) (λ bs. got (os ++ bs))
  more_got xs ys os b (refuse s) q e = let z : ◌≡◌ {A = ℕ} 0 1 = cc in absurd (omega arith)
  more_got xs ys os b (got bs) q e =
      let same : b ∷ bs ≡ os = cc in
      rw (q bs refl) (then-then (each f ys) (λ cs. got (bs ++ cs)) (λ cs. got (b ∷ cs)) ∙ ap (λ t. then (each f ys) (λ cs. got (t ++ cs))) same)

  one_got : (xs ys : List A) (os : List B) (r : Got B) → ((bs : List B) → each f xs ≡ got bs → each f (xs ++ ys) ≡ then (each f ys) (λ cs. got (bs ++ cs)))
      → then r (λ b. then (each f xs) (λ bs. got (b ∷ bs))) ≡ got os → then r (λ b. then (each f (xs ++ ys)) (λ bs. got (b ∷ bs))) ≡ then (each f ys) (λ bs. got (os ++ bs))
  one_got xs ys os (refuse s) q e = let z : ◌≡◌ {A = ℕ} 0 1 = cc in absurd (omega arith)
  one_got xs ys os (got b) q e = more_got xs ys os b (each f xs) q e

  pub each_got : (xs ys : List A) (os : List B) → each f xs ≡ got os → each f (xs ++ ys) ≡ then (each f ys) (λ bs. got (os ++ bs))
  each_got [] ys os e = none_got ys os (each f ys) (cc)
  each_got (x ∷ xs) ys os e = one_got xs ys os (f x) (each_got xs ys) e

nulls_push : {A : Type 0} (os : List (Option A)) (o : Option A) → nulls (os ++ (o ∷ [])) ≡ nulls os + nulls (o ∷ [])
nulls_push [] none = refl
nulls_push [] (some x) = refl
nulls_push (none ∷ os) o = omega (arith, nulls_push os o)
nulls_push (some x ∷ os) o = nulls_push os o

pub sum_push : (ks : List ℕ) (k : ℕ) → sum (ks ++ (k ∷ [])) ≡ sum ks + k
sum_push [] k = omega arith
sum_push (j ∷ ks) k = omega (arith, sum_push ks k)

-- the sizes of cells, one more
pub sizes_push : (os : List (Option (List ℕ))) (o : Option (List ℕ)) → sum (sizes (os ++ (o ∷ []))) ≡ sum (sizes os) + length (or_else [] o)
sizes_push os o = ap sum (map-append _ os (o ∷ [])) ∙ sum_push (sizes os) (length (or_else [] o))

module _ (m : Meaning) (t : TapeView) (node : ℕ) (ps : List ℕ) where
  abbrev pub Scanning : ℕ → ℕ → ℕ → Type 0
  Scanning i nulls' bytes =
      (answers m t node (take i ps) ≡ got (cells m t (take i ps)))
      × (nulls' ≡ nulls (cells m t (take i ps)))
      × (bytes ≡ min (sum (sizes (cells m t (take i ps)))) 18446744073709551615)
      × (nulls' ≤ i)

  module _ (i nulls' bytes : ℕ) (h : i < length ps) (s : Scanning i nulls' bytes) where
    -- an answer that is kept
    kept_next : (o : Option (List ℕ)) → kept node (get_or ps i 0) (m.answer (element_at t (get_or ps i 0))) ≡ got o → cell_at m t (get_or ps i 0) ≡ o
        → (answers m t node (take (i + 1) ps) ≡ got (cells m t (take (i + 1) ps))) × (cells m t (take (i + 1) ps) ≡ cells m t (take i ps) ++ (o ∷ []))
    kept_next o e same =
        let more : cells m t (take (i + 1) ps) ≡ cells m t (take i ps) ++ (o ∷ []) = map_more (cell_at m t) ps i 0 h ∙ ap (λ x. cells m t (take i ps) ++ (x ∷ [])) same in
        (ap (answers m t node) (take_more ps i 0 h) ∙ each_got _ (take i ps) (get_or ps i 0 ∷ []) _ s.0 ∙ rw e (ap got (sym more)), more)

    pub next_null : (n b : ℕ) → Null ≡ reply_of (m.answer (element_at t (get_or ps i 0))) → n ≡ nulls' + 1 → b ≡ bytes → Scanning (i + 1) n b
    next_null n b r en eb =
        let e = null-from _ r in
        let k = kept_next none (ap (kept node (get_or ps i 0)) e) (ap shown e) in
        (k.0, en ∙ rw (k.1, nulls_push (cells m t (take i ps)) none) (omega (arith, s.1)), eb ∙ rw (k.1, sizes_push (cells m t (take i ps)) none) (s.2 ∙ omega arith), omega (arith, s.3))

    pub next_value : (n b size : ℕ) → Value size ≡ reply_of (m.answer (element_at t (get_or ps i 0))) → n ≡ nulls' → b ≡ min (bytes + size) 18446744073709551615 → Scanning (i + 1) n b
    next_value n b size r en eb =
        let v = value-from _ size r in
        let k = kept_next (some v.0) (ap (kept node (get_or ps i 0)) v.1) (ap shown v.1) in
        (k.0, en ∙ rw (k.1, nulls_push (cells m t (take i ps)) (some v.0)) (omega (arith, s.1)), eb ∙ rw (k.1, sizes_push (cells m t (take i ps)) (some v.0)) (omega (arith, s.2, v.2)), omega (arith, s.3))

    -- an answer that is refused
    pub broken : (r : Slip) → kept node (get_or ps i 0) (m.answer (element_at t (get_or ps i 0))) ≡ refuse r → answers m t node ps ≡ refuse r
    broken r e =
        let cut : ps ≡ take i ps ++ (get_or ps i 0 ∷ drop (i + 1) ps) = sym (take-append-drop i ps) ∙ ap (λ t. take i ps ++ t) (drop_more ps i 0 h) in
        ap (answers m t node) cut ∙ each_got _ (take i ps) (get_or ps i 0 ∷ drop (i + 1) ps) _ s.0 ∙ rw e

  pub scanned : (i nulls' bytes : ℕ) → length ps ≤ i → Scanning i nulls' bytes
      → (answers m t node ps ≡ got (cells m t ps)) × (nulls' ≡ nulls (cells m t ps)) × (bytes ≡ min (sum (sizes (cells m t ps))) 18446744073709551615)
  scanned i nulls' bytes h s =
      let e = take_all i ps h in
      let a = rw e at s.0 in
      let b = rw e at s.1 in
      let c = rw e at s.2 in
      (a, b, c)
