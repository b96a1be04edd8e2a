-- Slots, and how one is found.
use Rattle.std.proofs.Common.{◌≡◌, ℕ, zero, suc, ◌+◌, ◌-◌, ◌%◌, ◌<◌, ◌≤◌, cond, Bool, true, false, ◌⊎◌, List, [], ◌∷◌, length, set, replicate, Some, None, Option, sym, refl, ap, ◌∙◌, subst, inl, inr, arith, length-set, below_more, ◌≢◌, map, get_or, rules}
use mathlib.Core.Logic.{∥∥₁_elim}
use native.Mathlib.Decide.{dec_lt}
use Rattle.std.specs.Coded.{le_prop}
use Rattle.std.proofs.Props.{props}
use Rattle.std.specs.Option.{MatchOption, IsSome, IsSomeAnd, IfSome, is_some, option_or}
use Rattle.std.specs.Bool.{⊤}
use Rattle.std.specs.Fn.{CalledAt}
use Rattle.std.specs.Iterator.{YieldsThen}
use Rattle.std.specs.List.{range_with_len, AllWithin, HoldsAt, FoldsTo}
use denote.Param.Members.{Mut}
use denote.Ref.{Bor}
use Rattle.std.proofs.lemmas.Iterator.{YieldsList, first_from_find}
use Rattle.std.proofs.lemmas.List.FromFn.{get_or-map-range_with_len, length-map-range_with_len}
use Rattle.std.proofs.lemmas.List.{get_or-set_same, get_or-set_other, set-get_or}
use Rattle.std.proofs.lemmas.List.Sums.{sum_by-cons, sum_by-set}
use Rattle.std.proofs.lemmas.List.Folds.{sum_by-replicate}
use Rattle.std.proofs.lemmas.Bool.{cases_eq}
use Rattle.names.specs.Hash.{hash_of}
use Rattle.names.specs.Slots.{slot_at, Holds, used, name_of, Other, Sought, Seated, Keyed}
use Rattle.names.specs.Lowest.{lowest, Lowest}
use Rattle.names.proofs.Lowests.{Before, lowest_is}

-- a slot that holds a place is not empty
pub full : (slots : List (Option ℕ)) (s : ℕ) {p : ℕ} → Holds slots s p → slot_at slots s ≢ None
full slots s h e = cc

-- an empty slot there is
full_used : (ss : List (Option ℕ)) → ((s : ℕ) → s < length ss → slot_at ss s ≢ None) → used ss ≡ length ss
full_used [] h = refl
full_used (None ∷ ss) h = absurd (h 0 (omega arith) refl)
full_used (Some v ∷ ss) h =
    let e : used (Some v ∷ ss) ≡ 1 + used ss = sum_by-cons (λ o. cond (is_some o) 1 0) (Some v) ss in
    omega (arith, full_used ss (λ s l. h (suc s) (omega arith)))

pub some_empty : (ss : List (Option ℕ)) (h : ℕ) → length ss ≡ 128 → used ss < 128 → ((j : ℕ) → j < 128 → slot_at ss ((h + j) % 128) ≢ None) → ⊥
some_empty ss h l u f =
    omega (
      arith,
      full_used ss (λ s k.
          let e : (h + (s + 128 - h % 128) % 128) % 128 ≡ s = omega arith in
          subst (λ x. slot_at ss x ≢ None) e (f ((s + 128 - h % 128) % 128) (omega arith))),
    )

used-put : (ss : List (Option ℕ)) (i v : ℕ) → i < length ss → slot_at ss i ≡ None → used (set ss i (Some v)) ≡ used ss + 1
used-put ss i v l e =
    let f : Option ℕ → ℕ = λ o. cond (is_some o) 1 0 in
    let s : used (set ss i (Some v)) + f (slot_at ss i) ≡ used ss + 1 = sum_by-set f ss i (Some v) None l in
    let z : f (slot_at ss i) ≡ 0 = ap f e in
    omega arith

-- the slots of a look from slot h on, in order
abbrev pub road : ℕ → List ℕ
road h = map (λ s. (h + s) % 128) (range_with_len 0 128)

road_at : (h j d : ℕ) → j < 128 → get_or (road h) j d ≡ (h + j) % 128
road_at h j d l = get_or-map-range_with_len (λ s. (h + s) % 128) 0 128 j j d l (omega arith)

length-road : (h : ℕ) → length (road h) ≡ 128
length-road h = length-map-range_with_len (λ s. (h + s) % 128) 0 128

-- slot s is empty or has the name
abbrev pub Ends : List (List ℕ) → List (Option ℕ) → List ℕ → ℕ → Type 0
Ends all slots n s = IfSome (slot_at slots s) (λ p. name_of all p ≡ n)

-- a look ends at a slot, which is the one that is sought
pub record Ended (all : List (List ℕ)) (slots : List (Option ℕ)) (n : List ℕ) (r : Option ℕ) : Type 0 where
  pub some : IsSome r
  pub sought : (x : ℕ) → r ≡ Some x → Sought all slots n x

ended : {all : List (List ℕ)} {slots : List (Option ℕ)} {n : List ℕ} {h : ℕ} (r : Option ℕ) → h ≡ hash_of n → length slots ≡ 128 → used slots < 128
    → MatchOption r (AllWithin (Other all slots n) (road h) 0 (length (road h))) (λ x. Ends all slots n x × (i : ℕ) × (i < length (road h)) × HoldsAt (λ y. y ≡ x) (road h) i × AllWithin (Other all slots n) (road h) 0 i)
    → Ended all slots n r
ended {all} {slots} {n} {h} None e l u t = absurd (some_empty slots h l u (λ j m. full slots _ (subst (Other all slots n) (road_at h j 0 m) (t j 0 (omega arith) (omega (arith, length-road h)))).held))
ended {all} {slots} {n} {h} (Some x) e l u t = record {
  some = search rules;
  sought = λ y f.
      let g : x ≡ y = cc in
      subst (Sought all slots n) g (record {
        steps = t.1;
        place = sym (t.3 0) ∙ road_at h t.1 0 (omega (arith, t.2, length-road h)) ∙ ap (λ k. (k + t.1) % 128) e;
        passed = λ j m. rw (← e) (subst (Other all slots n) (road_at h j 0 (omega (arith, t.2, length-road h))) (t.4 j 0 (omega arith) m));
        ends = t.0;
      });
}

-- a look along the road does, with a test that is true where a look may end, and false at other names
pub look_ends : {S F : Type 0} {steps : S → Option ℕ → S → Type 0} {g : Mut F (Bor ℕ × Unit {0}) Bool} {s : S} {h : ℕ} (all : List (List ℕ)) (slots : List (Option ℕ)) (n : List ℕ) (u : S) (f : F) (r : Option ℕ)
    → h ≡ hash_of n → length slots ≡ 128 → used slots < 128
    → (xs : List ℕ) × (j : F) × YieldsThen steps s xs r u × FoldsTo (λ p x q. CalledAt g p x false q) f xs j × MatchOption r ⊤ (λ x. (k : F) × CalledAt g j x true k)
    → YieldsList steps (λ x. x) s (road h)
    → ((x : ℕ) (q : F) → CalledAt g f x true q → Ends all slots n x)
    → ((x : ℕ) (q : F) → CalledAt g f x false q → (q ≡ f) × Other all slots n x)
    → Ended all slots n r
look_ends all slots n u f r e l m ran way ends other = ended r e l m (first_from_find u f r (Ends all slots n) (Other all slots n) ran way ends other)

-- a place that is held where the name is sought has that name
ends_at : {all : List (List ℕ)} {slots : List (Option ℕ)} {n : List ℕ} {s p : ℕ} → Sought all slots n s → Holds slots s p → name_of all p ≡ n
ends_at {all} {slots} {n} x h = subst (λ o. IfSome o (λ p. name_of all p ≡ n)) h x.ends

-- one look cannot end at an empty slot where another ends at the name
clash : {all : List (List ℕ)} {slots : List (Option ℕ)} {n : List ℕ} {r s p : ℕ} → Sought all slots n r → slot_at slots r ≡ None → Sought all slots n s → Holds slots s p → ⊥
clash {all} {slots} {n} {r} {s} x e y h =
    elim (dec_lt x.steps y.steps) [
      | yes k ↦ (let o = subst (Other all slots n) (sym x.place) (y.passed x.steps k) in full slots r o.held e)
      | no k ↦ elim (dec_lt y.steps x.steps) [
        | yes m ↦ (let o = subst (Other all slots n) (sym y.place) (x.passed y.steps m) in o.apart (ends_at y o.held))
        | no m ↦ (
            let i : x.steps ≡ y.steps = omega arith in
            let j : r ≡ s = x.place ∙ ap (λ t. (hash_of n + t) % 128) i ∙ sym y.place in
            full slots s h (ap (slot_at slots) (sym j) ∙ e))
      ]
    ]

not_there : {all : List (List ℕ)} {slots : List (Option ℕ)} {p : ℕ} {n : List ℕ} {r : ℕ} → Keyed all slots p → Sought all slots n r → slot_at slots r ≡ None → Before all n p
not_there {all} {slots} {p} {n} {r} k x e q l i =
    let s = subst (Seated all slots) i (k.seated q l) in
    clash x e s.sought s.held

-- what a slot with a name says
found : {all : List (List ℕ)} {slots : List (Option ℕ)} {p q : ℕ} {n : List ℕ} {r : ℕ} → Keyed all slots p → Sought all slots n r → Holds slots r q → (q < p) × (name_of all q ≡ n) × Before all n q
found {r = r} k x h =
    let z = ends_at x h in
    (k.known r _ h, z, λ j m i. k.lowest r _ h j m (i ∙ sym z))

-- a table with nothing in it
empty_at : (n s : ℕ) → slot_at (replicate n None) s ≡ None
empty_at zero s = refl
empty_at (suc n) zero = refl
empty_at (suc n) (suc s) = empty_at n s

used-none : used (replicate 128 None) ≡ 0
used-none = let f : Option ℕ → ℕ = λ o. cond (is_some o) 1 0 in sum_by-replicate f 128 None

pub keyed_none : (all : List (List ℕ)) → Keyed all (replicate 128 None) 0
keyed_none all = record {
  long = refl;
  known = λ s q h. absurd (full (replicate 128 None) s h (empty_at 128 s));
  lowest = λ s q h. absurd (full (replicate 128 None) s h (empty_at 128 s));
  seated = λ q l. absurd (omega arith);
  few = omega (arith, used-none);
}

-- a name that has a slot already
keyed_twin : {all : List (List ℕ)} {slots : List (Option ℕ)} {p q : ℕ} {n : List ℕ} {r : ℕ} → n ≡ name_of all p → Keyed all slots p → Sought all slots n r → Holds slots r q → Keyed all slots (p + 1)
keyed_twin {all} {slots} {p} {q} {n} {r} e k x h = record {
  long = k.long;
  known = λ s i l. omega (arith, k.known s i l);
  lowest = k.lowest;
  seated = below_more (λ i. Seated all slots (name_of all i)) p k.seated (subst (Seated all slots) e (record { slot = r; place = q; sought = x; held = h }));
  few = omega (arith, k.few);
}

-- a new one
module _ (slots : List (Option ℕ)) (r v : ℕ) (empty : slot_at slots r ≡ None) (inside : r < length slots) where
  stays : (s q : ℕ) → Holds slots s q → Holds (set slots r (Some v)) s q
  stays s q h = get_or-set_other slots r s (Some v) None (λ e. full slots s h (ap (slot_at slots) e ∙ empty)) ∙ h

  other_stays : {all : List (List ℕ)} {n : List ℕ} {s : ℕ} → Other all slots n s → Other all (set slots r (Some v)) n s
  other_stays {s = s} o = record { place = o.place; held = stays s o.place o.held; apart = o.apart }

  sought_stays : {all : List (List ℕ)} {n : List ℕ} {s q : ℕ} → Sought all slots n s → Holds slots s q → Sought all (set slots r (Some v)) n s
  sought_stays {all} {n} {s} {q} x h = record { steps = x.steps; place = x.place; passed = λ j m. other_stays (x.passed j m); ends = rw (stays s q h) (ends_at x h) }

  sought_put : {all : List (List ℕ)} {n : List ℕ} → name_of all v ≡ n → Sought all slots n r → Sought all (set slots r (Some v)) n r
  sought_put {all} e x = record { steps = x.steps; place = x.place; passed = λ j m. other_stays (x.passed j m); ends = rw (get_or-set_same slots r (Some v) None inside) e }

  -- what slot s holds after the write
  put_cases : (s q : ℕ) → Holds (set slots r (Some v)) s q → (q ≡ v) ⊎ Holds slots s q
  put_cases s q h = elim (cases_eq s r) [
    | inl e ↦ (let f : Some q ≡ Some v = sym h ∙ ap (slot_at (set slots r (Some v))) e ∙ get_or-set_same slots r (Some v) None inside in inl cc)
    | inr n ↦ inr (sym (get_or-set_other slots r s (Some v) None n) ∙ h)
  ]

keyed_put : {all : List (List ℕ)} {slots : List (Option ℕ)} {p : ℕ} {n : List ℕ} {r : ℕ} → n ≡ name_of all p → Keyed all slots p → Sought all slots n r → slot_at slots r ≡ None → r < 128 → Keyed all (set slots r (Some p)) (p + 1)
keyed_put {all} {slots} {p} {n} {r} e k x z b = record {
  long = length-set slots r (Some p) ∙ k.long;
  known = λ s q m. elim (put_cases slots r p z h s q m) [ inl i ↦ omega arith | inr i ↦ omega (arith, k.known s q i) ];
  lowest = λ s q m j l i. elim (put_cases slots r p z h s q m) [
    | inl f ↦ not_there k x z j (omega arith) (i ∙ ap (name_of all) f ∙ sym e)
    | inr f ↦ k.lowest s q f j l i
  ];
  seated = below_more (λ q. Seated all (set slots r (Some p)) (name_of all q)) p
      (λ q l. let t = k.seated q l in record { slot = t.slot; place = t.place; sought = sought_stays slots r p z h t.sought t.held; held = stays slots r p z h t.slot t.place t.held })
      (subst (Seated all (set slots r (Some p))) e (record { slot = r; place = p; sought = sought_put slots r p z h (sym e) x; held = get_or-set_same slots r (Some p) None h }));
  few = omega (arith, used-put slots r p h z, k.few);
}
  where
    h : r < length slots
    h = omega (arith, k.long)

-- the slots with a place put into slot r, if it was empty
abbrev pub kept : List (Option ℕ) → ℕ → ℕ → List (Option ℕ)
kept slots r place = set slots r (option_or (slot_at slots r) (Some place))

-- either way, one more place is known
pub keyed_more : {all : List (List ℕ)} {slots : List (Option ℕ)} {p : ℕ} {n : List ℕ} {r : ℕ} → n ≡ name_of all p → Keyed all slots p → Sought all slots n r → r < 128 → Keyed all (kept slots r p) (p + 1)
keyed_more {all} {slots} {p} {n} {r} e k x b = go (slot_at slots r) refl
  where
    go : (o : Option ℕ) → slot_at slots r ≡ o → Keyed all (set slots r (option_or o (Some p))) (p + 1)
    go None h = keyed_put e k x h b
    go (Some q) h = rw (← h, set-get_or slots r None) (keyed_twin e k x h)

-- an answer that is made of a slot's place, and is that place
pub answer_same : (o r : Option ℕ) (P : ℕ → ℕ → Type 0) → MatchOption o (r ≡ None) (λ x. IsSomeAnd r (P x)) → ((x y : ℕ) → P x y → y ≡ x) → r ≡ o
answer_same None r P h e = h
answer_same (Some x) None P h e = elim h [ ]
answer_same (Some x) (Some y) P h e = ap Some (e x y h)

-- what is known of a table's slots
pub known_in : {all : List (List ℕ)} {slots : List (Option ℕ)} {p : ℕ} → ∥ Keyed all slots p ∥₁ → (s q : ℕ) → Holds slots s q → q < p
known_in t s q h = ∥∥₁_elim t le_prop (λ k. k.known s q h)

pub few_in : {all : List (List ℕ)} {slots : List (Option ℕ)} {p : ℕ} → ∥ Keyed all slots p ∥₁ → used slots ≤ p
few_in t = ∥∥₁_elim t le_prop (λ k. k.few)

-- the slot where a name's look ends has the answer
pub answer_in : {all : List (List ℕ)} {slots : List (Option ℕ)} {n : List ℕ} {r : ℕ} → ∥ Keyed all slots (length all) ∥₁ → Sought all slots n r → slot_at slots r ≡ lowest all n
answer_in {all} {slots} {n} {r} t x = ∥∥₁_elim t (Prim.hlevel props) (λ k. lowest_is all n (slot_at slots r) (go (slot_at slots r) refl k))
  where
    go : (o : Option ℕ) → slot_at slots r ≡ o → Keyed all slots (length all) → Lowest all n o
    go None e k = not_there k x e
    go (Some q) h k = found k x h
