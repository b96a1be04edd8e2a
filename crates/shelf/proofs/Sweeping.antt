-- What is free of a page, what clearing it leaves, and one more end.
use Rattle.std.proofs.Common.{◌≡◌, ℕ, zero, suc, ◌+◌, ◌-◌, ◌*◌, ◌%◌, ◌<◌, ◌≤◌, List, [], ◌∷◌, ◌++◌, length, take, drop, replicate, Ok, sym, refl, ap, ◌∙◌, subst, ap₂, inl, inr, zero-add, arith, length-append, length-take-le, length-drop, take-append-drop, drop_at}
use lib.Dec.{eqb-suc-zero}
use lib.ListN.{length-replicate}
use lib.Seq.{drop-length}
use native.Mathlib.Nat.{sub_self, sub-zero}
use borrow.Rule.Slice.PartMut.{put_mid}
use borrow.Rule.Slice.PartAt.{part_to_end}
use Rattle.std.proofs.Math.Seq.{get_or-append_seam, take-append_seam}
use Rattle.std.proofs.lemmas.List.{get_or_append_left, append_assoc, drop-replicate}
use Rattle.std.proofs.lemmas.Bool.{cases_lt}
use Rattle.octets.specs.Lists.{splice}
use Rattle.schema.specs.Tree.{Node, field_of, nodes}
use Rattle.schema.specs.declared.Schema.{Schema}
use Rattle.schema.specs.Opened.{TreeOf, Opened}
use Rattle.tape.specs.View.{TapeView}
use Rattle.batch.specs.Values.{Setup}
use Rattle.batch.specs.Batch.{bytes_of}
use Rattle.leaf.specs.Meaning.{Meaning}
use Rattle.laws.specs.Shelf.{Held}
use Rattle.nodes.specs.Contract.{setup_of}
use Rattle.nodes.proofs.Cols.{walk_end}
use Rattle.shelf.specs.Standing.{start_in, Fits, cleared_from, ZerosFrom, Holds, Writes}
use Rattle.shelf.specs.declared.Shelf.{Shelf}
use Rattle.shelf.specs.Shelves.{setup_in, OfHeld, Keeps}
use Rattle.shelf.proofs.Holding.{zeroed, page_size, used_is, free_is, free_zero, starts_inside, fresh_now, holds_none}
use Rattle.shelf.proofs.Adding.{put_back, free_part}

-- zeros from a place on
pub swept_is : (P : List ℕ) (from : ℕ) → from ≤ length P → cleared_from P from ≡ take from P ++ replicate (length P - from) 0
swept_is P from l = zeroed P from (length P) (length P) l (omega arith) (drop-length P ∙ ap (λ n. replicate {A = ℕ} n 0) (sym (sub_self (length P))))

-- what is free of a page that is as it is swept is clear
pub free_clear : (P : List ℕ) (from : ℕ) → from ≤ length P → ZerosFrom P from → free_part P from ≡ replicate (length (free_part P from)) 0
free_clear P from l e =
    let area : free_part P from ≡ drop from P = part_to_end P from in
    let long : length (free_part P from) ≡ length P - from = ap length area ∙ length-drop from P in
    area ∙ ap (drop from) (e ∙ swept_is P from l) ∙ drop_at (take from P) (replicate (length P - from) 0) from (length-take-le from P l) ∙ ap (λ n. replicate {A = ℕ} n 0) (sym long)

-- a write that leaves what is free leaves the page
pub put_nothing : (P : List ℕ) (from : ℕ) {to : List ℕ} → from ≤ length P → to ≡ free_part P from → put_mid from (length P - from) P to ≡ P
put_nothing P from {to} l e =
    let area : free_part P from ≡ drop from P = part_to_end P from in
    let long : length to ≡ length P - from = ap length (e ∙ area) ∙ length-drop from P in
    put_back P from to l long ∙ ap (λ z. take from P ++ z) (e ∙ area) ∙ take-append-drop from P

module _ {st : Setup} {schema : Schema} {bytes ends : List ℕ} {held : Held st} (h : Holds st schema bytes ends held) where
  -- a page that holds something fits
  pub holds_fit : Fits (length bytes)
  holds_fit = (omega (arith, page_size h, h.small), ap (λ n. n % 8) (page_size h) ∙ h.whole)

  -- and is as it is swept
  pub holds_swept : ZerosFrom bytes (start_in ends (length ends))
  holds_swept =
      let from = start_in ends (length ends) in
      let clear : drop from bytes ≡ replicate (length bytes - from) 0 = ap (λ n. drop n bytes) (used_is h) ∙ free_zero h ∙ ap (λ n. replicate {A = ℕ} n 0) (sym (free_is h)) in
      sym (take-append-drop from bytes) ∙ ap (λ z. take from bytes ++ z) clear ∙ sym (swept_is bytes from (starts_inside h (length ends) (omega arith)))

-- and so it is where a page fits once it is swept
pub fit_swept : {st : Setup} {schema : Schema} (bytes : List ℕ) {ends : List ℕ} {held : Held st} (from : ℕ) → from ≤ length bytes → Holds st schema (cleared_from bytes from) ends held → Fits (length bytes)
fit_swept bytes from l h =
    let long : length (cleared_from bytes from) ≡ length bytes =
    ap length (swept_is bytes from l) ∙ length-append (take from bytes) (replicate (length bytes - from) 0) ∙ omega (arith, length-take-le from bytes l, length-replicate {A = ℕ} (length bytes - from) 0) in
    let fit = holds_fit h in
    (omega (arith, fit.0, long), ap (λ n. n % 8) (sym long) ∙ fit.1)

-- a batch that was written lies within what is free
pub size_within : {st : Setup} {t : TapeView} {ps from to : List ℕ} {lent size : ℕ} → Writes st t ps lent from to (Ok size) → size ≤ length from
size_within {st} {t} {ps} {from} {to} {lent} {size} w = (walk_end st t (length from) st.root (field_of st.root).nullable ps lent (32 * length (nodes st.root)) 0 size w.outcome).1

-- and so it ends within the page
pub end_within : (P : List ℕ) {from n lent size : ℕ} (schema : Schema) {st : Node → Setup} {t : TapeView} {ps to : List ℕ} → from ≤ length P → length P ≤ n → (o : Opened schema) → ((root : Node) → TreeOf schema root → Writes (st root) t ps lent (free_part P from) to (Ok size))
    → (from + size ≤ length P) × (from + size ≤ n)
end_within P {from} schema l k o w =
    let long : length (free_part P from) ≡ length P - from = ap length (part_to_end P from) ∙ length-drop from P in
    let fits = size_within (w o.0 o.1) in
    (omega (arith, long, fits), omega (arith, long, fits))

-- zeros behind something
clear_behind : (xs : List ℕ) (n : ℕ) → ZerosFrom (xs ++ replicate n 0) (length xs)
clear_behind xs n =
    let long : length (xs ++ replicate n 0) ≡ length xs + n = length-append xs (replicate n 0) ∙ ap (λ k. length xs + k) (length-replicate {A = ℕ} n 0) in
    let left : length (xs ++ replicate n 0) - length xs ≡ n = omega (arith, long) in
    sym (swept_is (xs ++ replicate n 0) (length xs) (omega (arith, long)) ∙ ap₂ (λ a k. a ++ replicate {A = ℕ} k 0) (take-append_seam xs (replicate n 0)) left)

zeros_behind : {bytes : List ℕ} {from : ℕ} (xs : List ℕ) (n : ℕ) → bytes ≡ xs ++ replicate n 0 → from ≡ length xs → ZerosFrom bytes from
zeros_behind {bytes} {from} xs n e l = subst (λ b. ZerosFrom b from) (sym e) (subst (λ k. ZerosFrom (xs ++ replicate n 0) k) (sym l) (clear_behind xs n))

-- what is free stays clear behind a batch that was written
pub clear_after : (P : List ℕ) {from lent size : ℕ} {st : Setup} {t : TapeView} {ps to : List ℕ} → from ≤ length P → ZerosFrom P from → Writes st t ps lent (free_part P from) to (Ok size) → length to ≡ length (free_part P from)
    → ZerosFrom (put_mid from (length P - from) P to) (from + size)
clear_after P {from} {lent} {size} {st} {t} {ps} {to} l clear w long =
    let B = bytes_of st w.content.0 in
    let A = free_part P from in
    let area : A ≡ replicate (length A) 0 = free_clear P from l clear in
    let rest : length A ≡ length P - from = ap length (part_to_end P from) ∙ length-drop from P in
    let left : drop (length B) A ≡ replicate (length A - length B) 0 = ap (drop (length B)) area ∙ drop-replicate (length B) (length A) 0 in
    let is : to ≡ B ++ replicate (length A - length B) 0 = w.content.3 ∙ ap (λ n. B ++ drop n A) (zero-add (length B)) ∙ ap (λ z. B ++ z) left in
    zeros_behind (take from P ++ B) (length A - length B)
    (put_back P from to l (long ∙ rest) ∙ ap (λ z. take from P ++ z) is ∙ sym (append_assoc (take from P) B (replicate (length A - length B) 0)))
    (omega (arith, length-append (take from P) B, length-take-le from P l, w.content.2))

-- and where the newest batch was
pub clear_before : (P : List ℕ) (from to : ℕ) → from ≤ to → to ≤ length P → ZerosFrom P to → ZerosFrom (splice P from (replicate (to - from) 0)) from
clear_before P from to a b clear =
    let rest : drop to P ≡ replicate (length P - to) 0 = ap (drop to) (clear ∙ swept_is P to b) ∙ drop_at (take to P) (replicate (length P - to) 0) to (length-take-le to P b) in
    zeros_behind (take from P) (length P - from) (zeroed P from to (length P) a b rest) (sym (length-take-le from P (omega arith)))

-- one more end, behind the last
module _ (ends : List ℕ) (e : ℕ) where
  start_in_more : (i : ℕ) → i ≤ length ends → start_in (ends ++ (e ∷ [])) i ≡ start_in ends i
  start_in_more zero l = refl
  start_in_more (suc i) l = let z : suc i - 1 ≡ i = omega arith in rw (eqb-suc-zero i, z) (get_or_append_left ends (e ∷ []) 0 i (omega arith))

  start_in_last : start_in (ends ++ (e ∷ [])) (suc (length ends)) ≡ e
  start_in_last = let z : suc (length ends) - 1 ≡ length ends = omega arith in rw (eqb-suc-zero (length ends), z) (get_or-append_seam ends e [] 0)

  -- behind it is what is free
  pub free_more : start_in (ends ++ (e ∷ [])) (length (ends ++ (e ∷ []))) ≡ e
  free_more = let n : length (ends ++ (e ∷ [])) ≡ suc (length ends) = length-append ends (e ∷ []) ∙ omega arith in ap (start_in (ends ++ (e ∷ []))) n ∙ start_in_last

  pub more_inside : {size : ℕ} → e ≤ size → ((i : ℕ) → i ≤ length ends → start_in ends i ≤ size) → (i : ℕ) → i ≤ length (ends ++ (e ∷ [])) → start_in (ends ++ (e ∷ [])) i ≤ size
  more_inside {size} k h i l = elim (cases_lt (length ends) i) [
    | inl above ↦ (
        let is : i ≡ suc (length ends) = omega (arith, length-append ends (e ∷ [])) in
        omega (arith, ap (start_in (ends ++ (e ∷ []))) is, start_in_last))
    | inr below ↦ omega (arith, start_in_more i below, h i below)
  ]

  pub more_rising : start_in ends (length ends) ≤ e → ((i : ℕ) → i < length ends → start_in ends i ≤ start_in ends (i + 1)) → (i : ℕ) → i < length (ends ++ (e ∷ [])) → start_in (ends ++ (e ∷ [])) i ≤ start_in (ends ++ (e ∷ [])) (i + 1)
  more_rising k h i l = elim (cases_lt i (length ends)) [
    | inl below ↦ omega (arith, start_in_more i (omega arith), start_in_more (i + 1) (omega arith), h i below)
    | inr above ↦ (
        let is : i ≡ length ends = omega (arith, length-append ends (e ∷ [])) in
        let next : i + 1 ≡ suc (length ends) = omega arith in
        omega (arith, start_in_more i (omega arith), ap (start_in ends) is, ap (start_in (ends ++ (e ∷ []))) next, start_in_last, k))
  ]

-- a new shelf holds nothing, once its page is cleared
pub holds_none_swept : (st : Setup) (schema : Schema) (bytes ends : List ℕ) → TreeOf schema st.root → Fits (length bytes) → st.size ≡ length bytes → ends ≡ []
    → Holds st schema (cleared_from bytes (start_in ends (length ends))) ends []
holds_none_swept st schema bytes ends tree fit size none =
    let from : start_in ends (length ends) ≡ 0 = ap (λ es. start_in es (length es)) none in
    let zeros : cleared_from bytes (start_in ends (length ends)) ≡ replicate (length bytes) 0 =
    ap (λ n. splice bytes n (replicate (length bytes - n) 0)) from ∙ swept_is bytes 0 (omega arith) ∙ ap (λ n. replicate {A = ℕ} n 0) (sub-zero (length bytes)) in
    let fresh = fresh_now fit zeros in
    holds_none st schema _ ends tree fresh (size ∙ sym (ap length zeros ∙ length-replicate {A = ℕ} (length bytes) 0)) none

-- what is said of whatever a shelf holds that has the same batches and keeps, said by the page alone
module _ {X : Type 0} (m : X → Meaning) {old mid : Shelf X} (k : Keeps old mid) (batches : mid.ends.items ≡ old.ends.items) where
  setup_same : (root : Node) (size : ℕ) → setup_in m mid root size ≡ setup_in m old root size
  setup_same root size = ap₂ (λ s x. setup_of s (m x) root size) k.settings (ap (λ b. b.now) k.custom)

  pub carried : (root : Node) (size : ℕ) (P : (st : Setup) → Held st → Type 0) → OfHeld m mid P
      → (held : Held (setup_in m old root size)) → Holds (setup_in m old root size) old.schema mid.page.now old.ends.items held → P (setup_in m old root size) held
  carried root size P of held h =
      subst (λ st. (held : Held st) → Holds st mid.schema mid.page.now mid.ends.items held → P st held) (setup_same root size) (of root size) held
      (subst (λ s. Holds (setup_in m old root size) s mid.page.now mid.ends.items held) (sym k.schema)
      (subst (λ es. Holds (setup_in m old root size) old.schema mid.page.now es held) (sym batches) h))
