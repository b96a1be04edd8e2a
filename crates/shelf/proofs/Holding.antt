-- What is known of a shelf from what it holds.
use Rattle.std.proofs.Common.{◌≡◌, ℕ, zero, suc, ◌+◌, ◌-◌, ◌%◌, ◌<◌, ◌≤◌, cond, ltb, List, [], ◌∷◌, ◌++◌, map, length, get_or, take, drop, replicate, sym, refl, ap, ◌∙◌, subst, ap₂, inl, inr, eqb, arith, length-append, length-take-le, take-take, drop_at}
use lib.Dec.{eqb-suc-zero}
use lib.ListN.{length-replicate, replicate-append-replicate}
use lib.Seq.{take-length}
use Rattle.std.proofs.lemmas.Bool.{le-ltb, lt-ltb, ne_eqb, eq-eqb, cases_lt}
use Rattle.std.proofs.lemmas.List.{get_or-take}
use Rattle.slip.specs.Slips.{refuse, got, not_there}
use Rattle.octets.specs.Lists.{joined, splice, part}
use Rattle.schema.specs.declared.Schema.{Schema}
use Rattle.batch.specs.Values.{Setup}
use Rattle.batch.specs.Batch.{bytes_of}
use Rattle.laws.specs.Shelf.{Held, used}
use Rattle.laws.specs.Calls.{Release, release}
use Rattle.laws.proofs.Pages.{used-take, start_next, lies, page-take}
use Rattle.schema.specs.Opened.{TreeOf}
use Rattle.shelf.specs.Standing.{start_in, Holds, Fits, Does, Fresh}

-- zeros over all from a place on, where zeros stand behind another
pub zeroed : (P : List ℕ) (from to size : ℕ) → from ≤ to → to ≤ size → drop to P ≡ replicate (size - to) 0
    → splice P from (replicate (to - from) 0) ≡ take from P ++ replicate (size - from) 0
zeroed P from to size h g e =
    let n : from + length (replicate {A = ℕ} (to - from) 0) ≡ to = omega (arith, length-replicate {A = ℕ} (to - from) 0) in
    let k : to - from + (size - to) ≡ size - from = omega arith in
    ap (λ z. take from P ++ (replicate (to - from) 0 ++ z)) (ap (λ i. drop i P) n ∙ e)
    ∙ ap (λ z. take from P ++ z) (replicate-append-replicate {A = ℕ} (to - from) (size - to) 0 ∙ ap (λ i. replicate {A = ℕ} i 0) k)

-- the newest of none is none
pub newest_none : {A : Type 0} (xs : List A) → length xs ≡ 0 → take (length xs - 1) xs ≡ xs
newest_none [] e = refl
newest_none (x ∷ xs) e = absurd (omega arith)

module _ {st : Setup} {schema : Schema} {bytes ends : List ℕ} {held : Held st} (h : Holds st schema bytes ends held) where
  pub page_size : length bytes ≡ st.size
  page_size =
      ap length h.lies ∙ length-append (joined (map (bytes_of st) held)) (replicate (st.size - used st held) 0)
      ∙ omega (arith, h.inside, length-replicate {A = ℕ} (st.size - used st held) 0)

  pub start_is : (i : ℕ) → i ≤ length held → start_in ends i ≡ used st (take i held)
  start_is zero l = refl
  start_is (suc i) l =
      let e : suc i - 1 ≡ i = omega arith in
      let z : i + 1 ≡ suc i = omega arith in
      rw (eqb-suc-zero i, e) (h.ended i (omega arith) ∙ ap (λ n. used st (take n held)) z)

  -- where the free part begins
  pub used_is : start_in ends (length ends) ≡ used st held
  used_is = ap (start_in ends) h.many ∙ start_is (length held) (omega arith) ∙ ap (used st) (take-length held)

  -- no batch begins or ends outside
  pub starts_inside : (i : ℕ) → i ≤ length ends → start_in ends i ≤ length bytes
  starts_inside i l = omega (arith, start_is i (omega (arith, h.many)), used-take st i held, page_size, h.inside)

  pub free_is : length bytes - start_in ends (length ends) ≡ st.size - used st held
  free_is = ap₂ (λ a b. a - b) page_size used_is

  -- a batch by its number
  module _ (i : ℕ) (l : i < length held) where
    pub next_is : start_in ends (i + 1) ≡ start_in ends i + length (bytes_of st (get_or held i []))
    next_is = start_is (i + 1) (omega arith) ∙ start_next st held i l ∙ ap (λ n. n + length (bytes_of st (get_or held i []))) (sym (start_is i (omega arith)))

    pub rises : start_in ends i ≤ start_in ends (i + 1)
    rises = omega (arith, next_is)

    pub batch_is : part bytes (start_in ends i) (start_in ends (i + 1) - start_in ends i) ≡ bytes_of st (get_or held i [])
    batch_is =
        let n : start_in ends (i + 1) - start_in ends i ≡ length (bytes_of st (get_or held i [])) = omega (arith, next_is) in
        ap₂ (λ a k. part bytes a k) (start_is i (omega arith)) n
        ∙ ap (λ b. part b (used st (take i held)) (length (bytes_of st (get_or held i [])))) h.lies ∙ lies st held i l

  -- no batch ends before it begins
  pub starts_rise : (i : ℕ) → i < length ends → start_in ends i ≤ start_in ends (i + 1)
  starts_rise i l = rises i (omega (arith, h.many))

  -- 64 batches are all that there may be
  pub all_held : eqb (length ends) 64 ≡ ltb 63 (length held)
  all_held = elim (cases_lt (length held) 64) [
    | inl below ↦ ne_eqb (length ends) 64 (λ e. omega (arith, h.many)) ∙ sym (le-ltb 63 (length held) (omega arith))
    | inr above ↦ eq-eqb (length ends) 64 (omega (arith, h.many, h.few)) ∙ sym (lt-ltb 63 (length held) (omega arith))
  ]

  pub free_zero : drop (used st held) bytes ≡ replicate (st.size - used st held) 0
  free_zero = ap (drop (used st held)) h.lies ∙ drop_at (joined (map (bytes_of st) held)) (replicate (st.size - used st held) 0) (used st held) refl

  -- Release of nothing
  pub releases_none : length ends ≡ 0 → Does st held schema bytes ends Release (release st held) (refuse not_there)
  releases_none e =
      let z : length held ≡ 0 = omega (arith, h.many) in
      record {
        answered = sym (ap (λ b. cond b (refuse not_there) (got (length held - 1))) (eq-eqb (length held) 0 z));
        holds = rw (newest_none held z) h;
      }

  module _ (some : 0 < length ends) where
    n : ℕ
    n = length held - 1

    fewer : length (take (length held - 1) held) ≡ length held - 1
    fewer = length-take-le (length held - 1) held (omega arith)

    pub newest : start_in ends (length ends - 1) ≡ used st (take (length held - 1) held)
    newest = ap (λ k. start_in ends (k - 1)) h.many ∙ start_is (length held - 1) (omega arith)

    pub newest_below : start_in ends (length ends - 1) ≤ start_in ends (length ends)
    newest_below = omega (arith, newest, used_is, used-take st (length held - 1) held)

    pub releases : Does st held schema (splice bytes (start_in ends (length ends - 1)) (replicate (start_in ends (length ends) - start_in ends (length ends - 1)) 0)) (take (length ends - 1) ends) Release (release st held) (got (length ends - 1))
    releases = record {
      answered = ap (λ k. got (k - 1)) h.many ∙ sym (ap (λ b. cond b (refuse not_there) (got (length held - 1))) (ne_eqb (length held) 0 (λ z. omega (arith, h.many, some))));
      holds = record {
        tree = h.tree;
        lies =
            zeroed bytes (start_in ends (length ends - 1)) (start_in ends (length ends)) st.size newest_below (omega (arith, used_is, h.inside)) (ap (λ k. drop k bytes) used_is ∙ free_zero ∙ ap (λ k. replicate {A = ℕ} (st.size - k) 0) (sym used_is))
            ∙ ap₂ (λ b k. take k b ++ replicate (st.size - k) 0) h.lies newest
            ∙ sym (page-take st (length held - 1) held);
        inside = omega (arith, used-take st (length held - 1) held, h.inside);
        small = h.small;
        whole = h.whole;
        many = length-take-le (length ends - 1) ends (omega arith) ∙ ap (λ k. k - 1) h.many ∙ sym fewer;
        few = omega (arith, fewer, h.few);
        ended = λ i l. get_or-take (length ends - 1) ends i 0 (omega (arith, fewer, h.many)) ∙ h.ended i (omega (arith, fewer)) ∙ ap (used st) (sym (take-take (i + 1) (length held - 1) held (omega (arith, fewer))));
      };
    }

    -- Release by the numbers that are read of the ends
    pub released : (newest from to : ℕ) (left rest : List ℕ) → newest ≡ length ends - 1 → from ≡ start_in ends newest → to ≡ start_in ends (newest + 1)
        → left ≡ splice bytes from (replicate (to - from) 0) → rest ≡ take newest ends → Does st held schema left rest Release (release st held) (got newest)
    released newest from to left rest n a b e d =
        let last : newest + 1 ≡ length ends = omega arith in
        let own : from ≡ start_in ends (length ends - 1) = a ∙ ap (start_in ends) n in
        let next : to ≡ start_in ends (length ends) = b ∙ ap (start_in ends) last in
        subst (λ k. Does st held schema left rest Release (release st held) (got k)) (sym n)
        (subst (λ xs. Does st held schema left xs Release (release st held) (got (length ends - 1))) (sym (d ∙ ap (λ k. take k ends) n))
        (subst (λ xs. Does st held schema xs (take (length ends - 1) ends) Release (release st held) (got (length ends - 1))) (sym (e ∙ ap₂ (λ u v. splice bytes u (replicate {A = ℕ} (v - u) 0)) own next)) (releases)))

-- where the ends are cut off behind n of them, the starts up to there stay
pub start_in_take : (ends : List ℕ) (n i : ℕ) → i ≤ n → start_in (take n ends) i ≡ start_in ends i
start_in_take ends n zero l = refl
start_in_take ends n (suc i) l = let e : suc i - 1 ≡ i = omega arith in rw (eqb-suc-zero i, e) (get_or-take n ends i 0 (omega arith))

-- no batch begins or ends outside, and none ends before it begins: of no batches, and where the newest goes
module _ (ends : List ℕ) where
  pub none_inside : {size : ℕ} → ends ≡ [] → (i : ℕ) → i ≤ length ends → start_in ends i ≤ size
  none_inside e zero l = omega arith
  none_inside e (suc i) l = absurd (omega (arith, ap length e))

  pub none_rising : ends ≡ [] → (i : ℕ) → i < length ends → start_in ends i ≤ start_in ends (i + 1)
  none_rising e i l = absurd (omega (arith, ap length e))

  pub fewer_inside : {size : ℕ} (n : ℕ) → n ≤ length ends → ((i : ℕ) → i ≤ length ends → start_in ends i ≤ size) → (i : ℕ) → i ≤ length (take n ends) → start_in (take n ends) i ≤ size
  fewer_inside n l h i k = let m = length-take-le n ends l in omega (arith, start_in_take ends n i (omega (arith, m)), h i (omega (arith, m)))

  pub fewer_rising : (n : ℕ) → n ≤ length ends → ((i : ℕ) → i < length ends → start_in ends i ≤ start_in ends (i + 1)) → (i : ℕ) → i < length (take n ends) → start_in (take n ends) i ≤ start_in (take n ends) (i + 1)
  fewer_rising n l h i k =
      let m = length-take-le n ends l in
      omega (arith, start_in_take ends n i (omega (arith, m)), start_in_take ends n (i + 1) (omega (arith, m)), h i (omega (arith, m)))

-- a page that is all zeros now
pub fresh_now : {n : ℕ} {bytes : List ℕ} → Fits n → bytes ≡ replicate n 0 → Fresh bytes
fresh_now {n} {bytes} fit e =
    let long : length bytes ≡ n = ap length e ∙ length-replicate {A = ℕ} n 0 in
    record { small = omega (arith, long, fit.0); whole = ap (λ k. k % 8) long ∙ fit.1; zeros = e ∙ ap (λ k. replicate {A = ℕ} k 0) (sym long) }

-- a new shelf holds nothing
pub holds_none : (st : Setup) (schema : Schema) (bytes ends : List ℕ) → TreeOf schema st.root → Fresh bytes → st.size ≡ length bytes → ends ≡ [] → Holds st schema bytes ends []
holds_none st schema bytes ends tree fresh size none = record {
  tree = tree;
  lies = fresh.zeros ∙ ap (λ n. replicate {A = ℕ} n 0) (omega (arith, size));
  inside = omega arith;
  small = omega (arith, size, fresh.small);
  whole = ap (λ n. n % 8) size ∙ fresh.whole;
  many = ap length none;
  few = omega arith;
  ended = λ i l. absurd (omega arith);
}
