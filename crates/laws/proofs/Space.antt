-- Where there is space, a walk is not refused for want of it.
use Rattle.std.proofs.Common.{◌≡◌, ℕ, ◌+◌, ◌-◌, ◌*◌, ◌^◌, ◌<◌, ◌≤◌, Bool, true, false, cond, ◌&&◌, ◌||◌, eqb, ltb, List, [], ◌∷◌, map, length, get_or, set, replicate, Some, None, Option as Place, refl, ap, ◌∙◌, arith}
use mathlib.Core.Option.{Option, none, some}
use native.Mathlib.Nat.{le-max_left, le-max_right}
use Rattle.std.proofs.lemmas.Bool.{le-ltb}
use Rattle.octets.specs.Lists.{joined, all, via, rest, first}
use Rattle.schema.specs.Tree.{Node, Fields, Field, branch, leaf, ◌⊕◌, field_of, many, names, nodes}
use Rattle.schema.specs.declared.kind.Branch.{Branch}
use Rattle.schema.specs.declared.kind.Branch.TheVariants.{Struct as struct, List as list, Fixed as fixed}
use Rattle.tape.specs.Layout.{the}
use Rattle.tape.specs.View.{TapeView, is_at, entries, words_at, is_position}
use Rattle.names.specs.Lowest.{lowest}
use Rattle.leaf.specs.Meaning.{Answer}
use Rattle.slip.specs.Slips.{Slip, Got, refuse, got, slip, then, each, accepted}
use Rattle.batch.specs.Rows.{row_at, items_at, listed, placed, letter, singles}
use Rattle.batch.specs.Values.{Setup, NullFirst, is_null, may_be_null, meaning, kept, leaf_at, value, taken, zeros, below}
use Rattle.batch.specs.Batch.{columns, columns_in, size_of, branch_column, leaf_column, bytes_of}
use Rattle.batch.specs.Format.{Column, text_width}
use Rattle.batch.proofs.Worth.{worth, worth_item, worths}
use Rattle.batch.proofs.Records.{total, total-append, length-batch}
use Rattle.batch.proofs.Columns.{length-columns}
use Rattle.laws.specs.Shelf.{Held, slots_of, room, bare_from, bare, walk, walk_in, bad_position, used, shelve}
use Rattle.laws.specs.Laws.{takes}
use Rattle.laws.specs.Space.{peak, peak_in}
use Rattle.laws.proofs.Told.{Told, refused}
use Rattle.laws.proofs.Fits.{shelve-told}
use Rattle.batch.proofs.HiddenRows.{branch_columns, item-columns}

-- an answer that is no refusal 4, and what holds of it if it is none at all
data Clear {A : Type 0} (P : A → Type 0) : Got A → Type 0 where
  otherwise : {r : Slip} → (r.number ≡ 4 → ⊥) → Clear P (refuse r)
  clear : {x : A} → P x → Clear P (got x)

abbrev Any : {A : Type 0} → A → Type 0
Any x = Unit {0}

clear_then : {A B : Type 0} {P : A → Type 0} {Q : B → Type 0} {m : Got A} {k : A → Got B} → Clear P m → ((x : A) → P x → Clear Q (k x)) → Clear Q (then m k)
clear_then (otherwise h) l = otherwise h
clear_then (clear {x} h) l = l x h

clear_so : {A : Type 0} {P Q : A → Type 0} {m : Got A} → Clear P m → ((x : A) → P x → Q x) → Clear Q m
clear_so (otherwise h) l = otherwise h
clear_so (clear {x} h) l = clear (l x h)

clear_each : {A B : Type 0} {Q : B → Type 0} (f : ℕ → Got (Option A)) → ((p : ℕ) → Clear Any (f p)) → (ps : List ℕ) (k : List (Option A) → Got B)
    → Clear Q (k (map (λ p. accepted (f p)) ps)) → Clear Q (then (each f ps) k)
clear_each f c [] k h = h
clear_each {A} {B} {Q} f c (p ∷ ps) k h = go (f p) (c p) (each f ps) h (λ x. clear_each f c ps (λ xs. k (x ∷ xs)))
  where
    go : (m : Got (Option A)) → Clear Any m → (n : Got (List (Option A))) → Clear Q (k (accepted m ∷ map (λ p. accepted (f p)) ps))
        → ((x : Option A) → Clear Q (k (x ∷ map (λ p. accepted (f p)) ps)) → Clear Q (then n (λ xs. k (x ∷ xs))))
        → Clear Q (then (then m (λ x. then n (λ xs. got (x ∷ xs)))) k)
    go (refuse r) (otherwise e) n h l = otherwise e
    go (got x) c (refuse r) h l = l x h
    go (got x) c (got xs) h l = l x h

-- what the test takes and what is not refused for space is got
sure : {A : Type 0} {P : A → Type 0} {b : Bool} (m : Got A) → b ≡ true → Told b m → Clear P m → (x : A) × (m ≡ got x) × P x
sure (refuse r) e (refused h) (otherwise k) = absurd (k (h e))
sure (got x) e told (clear p) = (x, refl, p)

-- refusals of rows, leaves, bare nulls and positions have other numbers
listed_clear : (f : Field) (n p : ℕ) (es : List ℕ) → Clear Any (listed f n p es)
listed_clear f n p es = go (ltb n (length es)) (ltb (length es) n)
  where
    go : (a b : Bool) → Clear Any (cond a (refuse (slip 7 f.number (get_or es n 0))) (cond b (refuse (slip 8 f.number p)) (got es)))
    go true b = otherwise (λ e. omega arith)
    go false true = otherwise (λ e. omega arith)
    go false false = clear tt

module _ (st : Setup) (t : TapeView) where
  placed_clear : (f : Field) (ns : List (List ℕ)) (es at : List ℕ) → Clear Any (placed st.settings t f ns es at)
  placed_clear f ns [] at = clear tt
  placed_clear f ns (k ∷ []) at = clear tt
  placed_clear f ns (k ∷ (v ∷ es)) at = go (lowest ns (words_at t k)) st.settings.strict (λ at. placed_clear f ns es at)
    where
      go : (o : Place ℕ) (s : Bool) → ((at : List ℕ) → Clear Any (placed st.settings t f ns es at))
          → Clear Any (elim o [
            | Some i ↦ placed st.settings t f ns es (set at i v)
            | None ↦ cond s (refuse (slip 6 f.number k)) (placed st.settings t f ns es at)
          ])
      go (Some i) s h = h (set at i v)
      go None true h = otherwise (λ e. omega arith)
      go None false h = h at

  row_clear : (f : Field) (b : Branch) (cs : Fields) (force : Bool) (p : ℕ) → Clear Any (row_at st.settings t f b cs force p)
  row_clear f b cs force p = go (is_at t (letter st.settings b) p) (force && (is_at t (the "z") p || st.settings.lenient))
    where
      one : (s : Bool) → Clear Any (then (cond s (listed f (many cs) p (entries t p)) (placed st.settings t f (names cs) (entries t p) (replicate (many cs) 0))) (λ item. got (item ∷ [])))
      one true = clear_then (listed_clear f (many cs) p (entries t p)) (λ x h. clear tt)
      one false = clear_then (placed_clear f (names cs) (entries t p) (replicate (many cs) 0)) (λ x h. clear tt)

      count : (n : ℕ) (e : Bool) → Clear Any (cond e (got (singles (entries t p))) (refuse (slip 9 f.number p)))
      count n true = clear tt
      count n false = otherwise (λ e. omega arith)

      items : (b : Branch) → Clear Any (items_at st.settings t f b cs p)
      items struct = one st.settings.list_rows
      items (list v w) = clear tt
      items (fixed n) = count n (eqb (length (entries t p)) n)
      items Branch.Map = clear tt

      go : (a c : Bool) → Clear Any (cond a (then (items_at st.settings t f b cs p) (λ is. got (some is))) (cond c (got none) (refuse (slip 5 f.number p))))
      go true c = clear_then (items b) (λ x h. clear tt)
      go false true = clear tt
      go false false = otherwise (λ e. omega arith)

  kept_clear : (n p : ℕ) (a : Answer) → Clear Any (kept n p a)
  kept_clear n p Answer.nothing = clear tt
  kept_clear n p Answer.conflict = otherwise (λ e. omega arith)
  kept_clear n p Answer.misfit = otherwise (λ e. omega arith)
  kept_clear n p (Answer.value bs) = clear tt

  bare_from_clear : (c : Node) (force : Bool) (i : ℕ) (os : List (Option ℕ)) → Clear Any (bare_from st t c force i os)
  bare_from_clear c force i [] = clear tt
  bare_from_clear c force i (none ∷ os) = bare_from_clear c force (i + 1) os
  bare_from_clear c force i (some p ∷ os) = go (is_null c (value st t c force p)) (bare_from_clear c force (i + 1) os)
    where
      go : (b : Bool) → Clear Any (bare_from st t c force (i + 1) os) → Clear Any (cond b (refuse (slip 10 (field_of c).number i)) (bare_from st t c force (i + 1) os))
      go true h = otherwise (λ e. omega arith)
      go false h = h

  bare_clear : (cs : Fields) (force : Bool) (os : List (Option (List ℕ))) → Clear Any (bare st t cs force os)
  bare_clear Fields.none force os = clear tt
  bare_clear (c ⊕ cs) force os = clear_then (one (may_be_null st c)) (λ x h. bare_clear cs force (map (via rest) os))
    where
      one : (b : Bool) → Clear Any (cond b (got tt) (bare_from st t c (force || (field_of c).nullable) 0 (map (via first) os)))
      one true = clear tt
      one false = bare_from_clear c (force || (field_of c).nullable) 0 (map (via first) os)

position_clear : (t : TapeView) (i : ℕ) (ps : List ℕ) → Clear Any (bad_position t i ps)
position_clear t i [] = clear tt
position_clear t i (p ∷ ps) = go (is_position t p) (position_clear t (i + 1) ps)
  where
    go : (b : Bool) → Clear Any (bad_position t (i + 1) ps) → Clear Any (cond b (bad_position t (i + 1) ps) (refuse (slip 3 0 i)))
    go true h = h
    go false h = otherwise (λ e. omega arith)

room_clear : (free lent number top work : ℕ) (c : Column) (more : ℕ) → top + size_of c ≤ free → work + more ≤ lent
    → Clear (λ next. next ≡ top + size_of c) (room free lent number top work c more)
room_clear free lent number top work c more f g = rw (le-ltb free (top + size_of c) f, le-ltb lent (work + more) g) (clear refl)

module _ (st : Setup) (t : TapeView) (null : NullFirst t) (free lent : ℕ) where
  mutual
    spaced : (c : Node) (force : Bool) (ps : List ℕ) (top work : ℕ) → top + total (columns st c (map (worth st t c force) ps)) ≤ free → work + peak st t c force ps ≤ lent
        → Clear (λ end. end ≡ top + total (columns st c (map (worth st t c force) ps))) (walk st t free lent c force ps top work)
    spaced (branch f b cs) force ps top work fit enough =
        let row = row_at st.settings t f b cs force in
        let rows = map (λ p. accepted (row p)) ps in
        let items = joined (map (taken b (zeros cs)) rows) in
        let more = many cs * length items in
        let under = columns_in st cs (map (worth_item st t cs (below b force)) items) in
        let cols = branch_columns st t null f b cs force ps in
        let long : total (columns st (branch f b cs) (map (worth st t (branch f b cs) force) ps)) ≡ size_of (branch_column b rows) + total under = ap total cols in
        clear_each row (row_clear st t f b cs force) ps _
        (clear_then (room_clear free lent f.number top work (branch_column b rows) more (omega arith) (omega arith)) (λ next g.
        clear_then (spaced_in cs (below b force) items next (work + more) (omega arith) (omega arith)) (λ end w.
        clear_then (bare_clear st t cs (below b force) (joined (map (slots_of b) rows))) (λ x h. clear (omega arith)))))
    spaced (leaf f k) force ps top work fit enough =
        let os = map (λ p. accepted (leaf_at st t f k p)) ps in
        let col = leaf_column (meaning st k).layout (text_width k) os in
        clear_each (leaf_at st t f k) (λ p. kept_clear st t f.number p _) ps _
        (clear_so (room_clear free lent f.number top work col 0 (omega arith) (omega arith)) (λ next g. omega arith))

    spaced_in : (cs : Fields) (force : Bool) (items : List (List ℕ)) (top work : ℕ) → top + total (columns_in st cs (map (worth_item st t cs force) items)) ≤ free → work + peak_in st t cs force items ≤ lent
        → Clear (λ end. end ≡ top + total (columns_in st cs (map (worth_item st t cs force) items))) (walk_in st t free lent cs force items top work)
    spaced_in Fields.none force items top work fit enough = clear (omega arith)
    spaced_in (c ⊕ cs) force items top work fit enough =
        let F = force || (field_of c).nullable in
        let xs = columns st c (map (worth st t c F) (map first items)) in
        let ys = columns_in st cs (map (worth_item st t cs force) (map rest items)) in
        let long : total (columns_in st (c ⊕ cs) (map (worth_item st t (c ⊕ cs) force) items)) ≡ total xs + total ys = ap total (item-columns st t null c cs force items) ∙ total-append xs ys in
        let own = le-max_left (peak st t c F (map first items)) (peak_in st t cs force (map rest items)) in
        let others = le-max_right (peak st t c F (map first items)) (peak_in st t cs force (map rest items)) in
        clear_then (spaced c F (map first items) top work (omega arith) (omega arith)) (λ next g.
        clear_so (spaced_in cs force (map rest items) next work (omega arith) (omega arith)) (λ end w. omega arith))

module _ (st : Setup) (held : Held st) (t : TapeView) (null : NullFirst t) where
  shelve_clear : (ps : List ℕ) (lent : ℕ) → length ps ≤ 65535 → lent ≤ 2 ^ 24 → length held < 64 → used st held + length (bytes_of st (worths st t ps)) ≤ st.size
      → peak st t st.root (field_of st.root).nullable ps ≤ lent → Clear (λ n. n ≡ length held) (shelve st held t ps lent)
  shelve_clear ps lent few short held-few fit enough =
      let force = (field_of st.root).nullable in
      let free = st.size - used st held in
      let top = 32 * length (nodes st.root) in
      let cols = columns st st.root (worths st t ps) in
      let long : length (bytes_of st (worths st t ps)) ≡ top + total cols = length-batch cols ∙ ap (λ n. 32 * n + total cols) (length-columns st st.root (worths st t ps)) in
      clear_then (position_clear t 0 ps) (λ x h.
      rw (le-ltb 65535 (length ps) few, le-ltb (2 ^ 24) lent short, le-ltb 63 (length held) (omega arith), le-ltb free top (omega arith))
      (clear_then (spaced st t null free lent st.root force ps top 0 (omega arith) (omega arith)) (λ end w. clear refl)))

  pub shelve_spaced : (ps : List ℕ) (lent : ℕ) → all (takes st t) ps ≡ true → length ps ≤ 65535 → lent ≤ 2 ^ 24 → length held < 64
      → used st held + length (bytes_of st (worths st t ps)) ≤ st.size → peak st t st.root (field_of st.root).nullable ps ≤ lent
      → shelve st held t ps lent ≡ got (length held)
  shelve_spaced ps lent e few short held-few fit enough =
      let r = sure (shelve st held t ps lent) e (shelve-told st held t ps lent) (shelve_clear ps lent few short held-few fit enough) in
      r.1 ∙ ap got r.2
