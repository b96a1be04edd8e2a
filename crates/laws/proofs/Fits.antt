-- A walk refuses, but for space, exactly where a position does not fit; so does Shelve.
use Rattle.std.proofs.Common.{◌≡◌, ℕ, ◌+◌, ◌-◌, ◌*◌, ◌^◌, ◌<◌, Bool, true, false, cond, not, ◌&&◌, ◌||◌, ltb, ◌↔◌, List, [], ◌∷◌, map, length, get_or, sym, refl, ◌∙◌}
use mathlib.Core.Option.{Option, none, some}
use Rattle.std.proofs.lemmas.Bool.{both_ways, and_parts}
use Rattle.octets.specs.Lists.{joined, rest, via, or_else, all, first}
use Rattle.schema.specs.Tree.{Node, Fields, branch, leaf, ◌⊕◌, field_of, many, nodes}
use Rattle.schema.specs.declared.kind.Branch.{Branch}
use Rattle.tape.specs.View.{TapeView, is_position}
use Rattle.slip.specs.Slips.{Got, refuse, got, slip, accepted, Refused, number_of}
use Rattle.batch.specs.Rows.{row_at}
use Rattle.batch.specs.Values.{Setup, is_null, may_be_null, value, filled, fits, fit_item, taken, zeros, below, hides, leaf_at}
use Rattle.laws.specs.Shelf.{Held, slots_of, bare_from, bare, walk, walk_in, bad_position, used, shelve, rows_of}
use Rattle.laws.specs.Laws.{takes}
use Rattle.batch.proofs.Worth.{worth, worths, each_got, worth_is}
use Rattle.batch.proofs.Tests.{all_both, all-joined, all_map, all_same, all_true, all_replicate, and_true, all_false, false_all}
use Rattle.laws.proofs.Told.{Told, refused, passed, told_false, retold, told-then, told_end, told-space, told-room, told-each}

module _ (st : Setup) (t : TapeView) where
  -- the same tests in a slot, which may lie under a null row
  abbrev sound : (c : Node) → Bool → Option ℕ → Bool
  sound c force none = true
  sound c force (some p) = may_be_null st c || not (is_null c (value st t c force p))

  abbrev sound_item : Fields → Bool → Option (List ℕ) → Bool
  sound_item cs force none = true
  sound_item cs force (some ps) = filled st t cs force ps

  sound_fields : (c : Node) (cs : Fields) (force : Bool) (o : Option (List ℕ))
      → sound_item (c ⊕ cs) force o ≡ (sound c (force || (field_of c).nullable) (via first o) && sound_item cs force (via rest o))
  sound_fields c cs force none = refl
  sound_fields c cs force (some ps) = refl

  sound_none : (force : Bool) (o : Option (List ℕ)) → sound_item Fields.none force o ≡ true
  sound_none force none = refl
  sound_none force (some ps) = refl

  sound_slots : (b : Branch) (cs : Fields) (force : Bool) (o : Option (List (List ℕ))) → all (sound_item cs force) (slots_of b o) ≡ all (filled st t cs force) (or_else [] o)
  sound_slots b cs force none = all_replicate (sound_item cs force) (hides b) none refl
  sound_slots b cs force (some is) = all_map (sound_item cs force) some is

  module _ (free lent : ℕ) where
    bare_from-told : (c : Node) (force : Bool) (i : ℕ) (os : List (Option ℕ)) → may_be_null st c ≡ false → Told (all (sound c force) os) (bare_from st t c force i os)
    bare_from-told c force i [] e = passed
    bare_from-told c force i (none ∷ os) e = bare_from-told c force (i + 1) os e
    bare_from-told c force i (some p ∷ os) e = rw e (go (is_null c (value st t c force p)) (bare_from-told c force (i + 1) os e))
      where
        go : (b : Bool) → Told (all (sound c force) os) (bare_from st t c force (i + 1) os)
            → Told (not b && all (sound c force) os) (cond b (refuse (slip 10 (field_of c).number i)) (bare_from st t c force (i + 1) os))
        go true h = told_false
        go false h = h

    bare-one : (c : Node) (force : Bool) (os : List (Option ℕ)) → Told (all (sound c force) os) (cond (may_be_null st c) (got tt) (bare_from st t c force 0 os))
    bare-one c force os = go (may_be_null st c) refl
      where
        passes : may_be_null st c ≡ true → (o : Option ℕ) → sound c force o ≡ true
        passes e none = refl
        passes e (some p) = rw e refl

        go : (b : Bool) → may_be_null st c ≡ b → Told (all (sound c force) os) (cond b (got tt) (bare_from st t c force 0 os))
        go true e = retold passed (all_same (sound c force) (λ _. true) (passes e) os ∙ all_true os)
        go false e = bare_from-told c force 0 os e

    bare-told : (cs : Fields) (force : Bool) (os : List (Option (List ℕ))) → Told (all (sound_item cs force) os) (bare st t cs force os)
    bare-told Fields.none force os = retold passed (all_same (sound_item Fields.none force) (λ _. true) (sound_none force) os ∙ all_true os)
    bare-told (c ⊕ cs) force os =
        retold (told-then (bare-one c (force || (field_of c).nullable) (map (via first) os)) (λ _. bare-told cs force (map (via rest) os)))
        (all_same (sound_item (c ⊕ cs) force) (λ o. sound c (force || (field_of c).nullable) (via first o) && sound_item cs force (via rest o)) (sound_fields c cs force) os
        ∙ simp (all_both, all_map))

    mutual
      pub walk-told : (c : Node) (force : Bool) (ps : List ℕ) (top work : ℕ) → Told (all (fits st t c force) ps) (walk st t free lent c force ps top work)
      walk-told (branch f b cs) force ps top work =
          let row = row_at st.settings t f b cs force in
          let rows = map (λ p. accepted (row p)) ps in
          let items = joined (map (taken b (zeros cs)) rows) in
          retold
          (told-each row ps _ (told-room _ _ _
          (λ next. told-then (walk_in-told cs (below b force) items next (work + many cs * length items))
          (λ end. told_end end (bare-told cs (below b force) (joined (map (slots_of b) rows)))))))
          (simp (all_both, all-joined, all_map, sound_slots b cs (below b force)))
      walk-told (leaf f k) force ps top work = retold (told-each (leaf_at st t f k) ps _ (told-space _ _ passed)) (sym (and_true _))

      walk_in-told : (cs : Fields) (force : Bool) (items : List (List ℕ)) (top work : ℕ) → Told (all (fit_item st t cs force) items) (walk_in st t free lent cs force items top work)
      walk_in-told Fields.none force items top work = retold passed (all_true items)
      walk_in-told (c ⊕ cs) force items top work =
          retold (told-then (walk-told c (force || (field_of c).nullable) (map first items) top work) (λ next. walk_in-told cs force (map rest items) next work))
          (simp (all_both, all_map))

-- where 4 is ruled out, an answer is refused exactly where the test fails
told_refused : {A : Type 0} {b : Bool} {m : Got A} → Told b m → (number_of m ≡ 4 → ⊥) → Refused m → b ≡ false
told_refused {b = true} (refused h) n k = absurd (n (h refl))
told_refused {b = false} (refused h) n k = refl
told_refused passed n k = absurd k

refused_told : {A : Type 0} {b : Bool} {m : Got A} → Told b m → b ≡ false → Refused m
refused_told (refused h) e = tt
refused_told passed e = both_ways true e refl

bad_position-told : (t : TapeView) (i : ℕ) (ps : List ℕ) → Told (all (is_position t) ps) (bad_position t i ps)
bad_position-told t i [] = passed
bad_position-told t i (p ∷ ps) = go (is_position t p) (bad_position-told t (i + 1) ps)
  where
    go : (b : Bool) → Told (all (is_position t) ps) (bad_position t (i + 1) ps) → Told (b && all (is_position t) ps) (cond b (bad_position t (i + 1) ps) (refuse (slip 3 0 i)))
    go true h = h
    go false h = told_false

module _ (st : Setup) (held : Held st) (t : TapeView) where
  pub shelve-told : (ps : List ℕ) (lent : ℕ) → Told (all (takes st t) ps) (shelve st held t ps lent)
  shelve-told ps lent =
      let free = st.size - used st held in
      let top = 32 * length (nodes st.root) in
      let force = (field_of st.root).nullable in
      retold
      (told-then (bad_position-told t 0 ps) (λ _.
      told-space (ltb 65535 (length ps) || (ltb (2 ^ 24) lent || (ltb 63 (length held) || ltb free top))) 0
      (told_end (length held) (walk-told st t free lent st.root force ps top 0))))
      (all_both (is_position t) (fits st t st.root force) ps)

  -- what is accepted has its rows
  pub rows_are : (ps : List ℕ) → all (takes st t) ps ≡ true → rows_of st t ps ≡ got (worths st t ps)
  rows_are ps e =
      let force = (field_of st.root).nullable in
      each_got (value st t st.root force) (worth st t st.root force) (takes st t)
      (λ p e. worth_is st t st.root force p (and_parts (is_position t p) (fits st t st.root force p) e).1) ps e

-- a list is refused exactly where the test of one fails, which is where that one is refused alone
pub refused_by_test : {A : Type 0} (test : ℕ → Bool) (m : Got A) (ps : List ℕ) → Told (all test ps) m → (number_of m ≡ 4 → ⊥)
    → Refused m ↔ ((i : ℕ) × (i < length ps) × (test (get_or ps i 0) ≡ false))
refused_by_test test m ps told space = (λ r. all_false test ps (told_refused told space r), λ r. refused_told told (false_all test ps r.0 r.1 r.2))

pub refused_alone : {A : Type 0} (test : ℕ → Bool) (reply : List ℕ → Got A) → ((qs : List ℕ) → Told (all test qs) (reply qs)) → (ps : List ℕ) → (number_of (reply ps) ≡ 4 → ⊥)
    → ((i : ℕ) → i < length ps → number_of (reply (get_or ps i 0 ∷ [])) ≡ 4 → ⊥) → Refused (reply ps) ↔ ((i : ℕ) × (i < length ps) × Refused (reply (get_or ps i 0 ∷ [])))
refused_alone test reply here ps whole alone = (
  λ r. one (all_false test ps (told_refused (here ps) whole r)),
  λ r. refused_told (here ps) (false_all test ps r.0 r.1 (fails r.0 r.1 r.2)),
)
  where
    fails : (i : ℕ) → i < length ps → Refused (reply (get_or ps i 0 ∷ [])) → test (get_or ps i 0) ≡ false
    fails i h r = sym (and_true (test (get_or ps i 0))) ∙ told_refused (here (get_or ps i 0 ∷ [])) (alone i h) r

    one : (i : ℕ) × (i < length ps) × (test (get_or ps i 0) ≡ false) → (i : ℕ) × (i < length ps) × Refused (reply (get_or ps i 0 ∷ []))
    one (i, h, e) = (i, h, refused_told (here (get_or ps i 0 ∷ [])) (and_true (test (get_or ps i 0)) ∙ e))
