-- What Shelve adds to what a shelf holds.
use Rattle.std.proofs.Common.{◌≡◌, ℕ, ◌+◌, ◌-◌, ◌*◌, ◌^◌, ◌<◌, ◌≤◌, false, cond, ◌||◌, ltb, List, [], ◌∷◌, ◌++◌, length, get_or, take, drop, replicate, Ok, Err, sym, refl, ap, ◌∙◌, subst, ap₂, inl, inr, zero-add, arith, length-append, length-drop, take-append-drop, drop-drop}
use borrow.Rule.Slice.PartMut.{put_mid}
use borrow.Rule.Slice.PartAt.{part_to_end}
use lib.Seq.{take-length, take-append-le}
use Rattle.std.proofs.Math.Seq.{get_or-append_seam}
use Rattle.std.proofs.lemmas.List.{append-nil, at_drop_all, get_or_append_left}
use Rattle.std.proofs.lemmas.Bool.{ltb-false, or_parts, cases_lt}
use Rattle.slip.specs.declared.Fault.{Fault}
use Rattle.slip.specs.Slips.{Slip, slip, slip_of, Got, refuse, got, then, answer_of}
use Rattle.octets.proofs.Splices.{splice-part}
use Rattle.schema.specs.Tree.{field_of, nodes}
use Rattle.schema.specs.declared.Schema.{Schema}
use Rattle.schema.specs.Opened.{size_of}
use Rattle.tape.specs.View.{TapeView}
use Rattle.batch.specs.Values.{Setup, Value}
use Rattle.batch.specs.Batch.{bytes_of}
use Rattle.laws.specs.Shelf.{Held, bad_position, walk, page, used, is_full, shelve, rows_of}
use Rattle.laws.specs.Calls.{Shelve, after}
use Rattle.laws.proofs.Pages.{used_push, page_push}
use Rattle.nodes.proofs.Cols.{walk_end}
use Rattle.shelf.specs.Standing.{start_in, Holds, Does, Writes}
use Rattle.shelf.proofs.Holding.{used_is, free_is, free_zero, starts_inside}

-- a new end of a slice
pub put_back : (xs : List ℕ) (a : ℕ) (ys : List ℕ) → a ≤ length xs → length ys ≡ length xs - a → put_mid a (length xs - a) xs ys ≡ take a xs ++ ys
put_back xs a ys h l =
    splice-part a (length xs - a) xs ys ys refl (sym l)
    ∙ ap (λ z. take a xs ++ z) (at_drop_all (λ z. ys ++ z) xs (a + length ys) (omega arith) ∙ append-nil ys)

-- the part of a page from a place on
abbrev pub free_part : (bytes : List ℕ) → ℕ → List ℕ
free_part bytes from = take (length bytes - from) (drop from bytes)

-- what writing a batch asks of positions, work list and free part
abbrev pub Writable : Schema → (positions lent : ℕ) → (area : List ℕ) → Type 0
Writable schema n lent area = (n ≤ 65535) × (lent ≤ 2 ^ 24) × (length area ≤ 2 ^ 24) × (32 * size_of schema ≤ length area) × (area ≡ replicate (length area) 0)

module _ {st : Setup} {schema : Schema} {bytes ends : List ℕ} {held : Held st} (h : Holds st schema bytes ends held) (t : TapeView) (ps : List ℕ) (lent : ℕ) where
  pub after_refused : (s : Slip) → shelve st held t ps lent ≡ refuse s → after st held (Shelve t ps lent) ≡ held
  after_refused s e = ap (λ (m : Got ℕ). elim (then m (λ _. rows_of st t ps)) [ refuse r ↦ held | got rows ↦ held ++ (rows ∷ []) ]) e

  pub after_got : (n : ℕ) (rows : List (Value st.root)) → shelve st held t ps lent ≡ got n → rows_of st t ps ≡ got rows → after st held (Shelve t ps lent) ≡ held ++ (rows ∷ [])
  after_got n rows e f = ap₂ (λ (m : Got ℕ) (k : Got (List (Value st.root))). elim (then m (λ _. k)) [ refuse r ↦ held | got rows ↦ held ++ (rows ∷ []) ]) e f

  pub refuses : (s : Slip) → shelve st held t ps lent ≡ refuse s → Does st held schema bytes ends (Shelve t ps lent) (shelve st held t ps lent) (refuse s)
  refuses s e = record { answered = sym e; holds = subst (λ l. Holds st schema bytes ends l) (sym (after_refused s e)) h }

  -- an entry that is no position is refused
  pub refuses_bad : (s : Slip) → refuse s ≡ bad_position t 0 ps → Does st held schema bytes ends (Shelve t ps lent) (shelve st held t ps lent) (refuse s)
  refuses_bad s e =
      let full = is_full st held (length ps) lent in
      let walked = walk st t (st.size - used st held) lent st.root (field_of st.root).nullable ps (32 * length (nodes st.root)) 0 in
      refuses s (ap (λ (g : Got (Unit {0})). then g (λ _. cond full (refuse (slip 4 0 0)) (then walked (λ _. got (length held))))) (sym e))

  module _ (fine : bad_position t 0 ps ≡ got tt) (space : is_full st held (length ps) lent ≡ false) where
    free : ℕ
    free = st.size - used st held

    parts : (ltb 65535 (length ps) ≡ false) × (ltb (2 ^ 24) lent ≡ false) × (ltb 63 (length held) ≡ false) × (ltb (st.size - used st held) (32 * length (nodes st.root)) ≡ false)
    parts =
        let p = or_parts (ltb 65535 (length ps)) (ltb (2 ^ 24) lent || (ltb 63 (length held) || ltb (st.size - used st held) (32 * length (nodes st.root)))) space in
        let q = or_parts (ltb (2 ^ 24) lent) (ltb 63 (length held) || ltb (st.size - used st held) (32 * length (nodes st.root))) p.1 in
        let r = or_parts (ltb 63 (length held)) (ltb (st.size - used st held) (32 * length (nodes st.root))) q.1 in
        (p.0, q.0, r.0, r.1)

    few : length ps ≤ 65535
    few = ltb-false 65535 (length ps) parts.0

    short : lent ≤ 2 ^ 24
    short = ltb-false (2 ^ 24) lent parts.1

    pub another : length held ≤ 63
    another = ltb-false 63 (length held) parts.2

    records_fit : 32 * length (nodes st.root) ≤ st.size - used st held
    records_fit = ltb-false (st.size - used st held) (32 * length (nodes st.root)) parts.3

    pub shelve_is : shelve st held t ps lent ≡ then (walk st t (st.size - used st held) lent st.root (field_of st.root).nullable ps (32 * length (nodes st.root)) 0) (λ _. got (length held))
    shelve_is = ap₂
        (λ (g : Got (Unit {0})) b. then g (λ _. cond b (refuse (slip 4 0 0)) (then (walk st t (st.size - used st held) lent st.root (field_of st.root).nullable ps (32 * length (nodes st.root)) 0) (λ _. got (length held)))))
        fine space

    -- the free part of the page
    module _ (from : ℕ) (from_is : from ≡ start_in ends (length ends)) where
      abbrev area : List ℕ
      area = free_part bytes from

      pub area_is : area ≡ drop from bytes
      area_is = part_to_end bytes from

      area_size : length area ≡ st.size - used st held
      area_size = ap length area_is ∙ length-drop from bytes ∙ ap (λ n. length bytes - n) from_is ∙ free_is h

      area_zero : area ≡ replicate (length area) 0
      area_zero = area_is ∙ ap (λ n. drop n bytes) (from_is ∙ used_is h) ∙ free_zero h ∙ ap (λ n. replicate {A = ℕ} n 0) (sym area_size)

      from-used : from ≡ used st held
      from-used = from_is ∙ used_is h

      from-fits : from ≤ length bytes
      from-fits = omega (arith, from_is, starts_inside h (length ends) (omega arith))

      area-rest : length area ≡ length bytes - from
      area-rest = ap length area_is ∙ length-drop from bytes

      pub adds_none : (to : List ℕ) (f : Fault) → Writes st t ps lent area to (Err f)
          → Does st held schema (put_mid from (length bytes - from) bytes to) ends (Shelve t ps lent) (shelve st held t ps lent) (answer_of {A = ℕ} (Err f))
      adds_none to f w =
          let walked = w.outcome ∙ ap (λ n. walk st t n lent st.root (field_of st.root).nullable ps (32 * length (nodes st.root)) 0) area_size in
          let e : shelve st held t ps lent ≡ refuse (slip_of f) = shelve_is ∙ sym (ap (λ (m : Got ℕ). then m (λ _. got (length held))) walked) in
          let back : put_mid from (length bytes - from) bytes to ≡ bytes =
          put_back bytes from to from-fits (ap length w.unwritten ∙ area-rest) ∙ ap (λ z. take from bytes ++ z) (w.unwritten ∙ area_is) ∙ take-append-drop from bytes in
          subst (λ b. Does st held schema b ends (Shelve t ps lent) (shelve st held t ps lent) (refuse (slip_of f))) (sym back) (refuses (slip_of f) e)

      -- what writing asks for
      pub writable : Writable schema (length ps) lent area
      writable = (few, short, omega (arith, area_size, h.small), omega (arith, area_size, records_fit, h.tree.all), area_zero)

      module _ (to : List ℕ) (size : ℕ) (w : Writes st t ps lent area to (Ok size)) (long : length to ≡ length area) where
        rows : List (Value st.root)
        rows = w.content.0

        pub size_fits : from + size ≤ st.size
        size_fits = omega (arith, from-used, area_size, h.inside, (walk_end st t (length area) st.root (field_of st.root).nullable ps lent (32 * length (nodes st.root)) 0 size w.outcome).1)

        bytes_fit : used st held + length (bytes_of st w.content.0) ≤ st.size
        bytes_fit = omega (arith, from-used, size_fits, w.content.2)

        lies_now : put_mid from (length bytes - from) bytes to ≡ page st (held ++ (w.content.0 ∷ []))
        lies_now =
            let B = bytes_of st w.content.0 in
            put_back bytes from to from-fits (long ∙ area-rest)
            ∙ ap (λ z. take from bytes ++ z) (w.content.3 ∙ ap (λ n. B ++ drop n area) (zero-add (length B)) ∙ ap (λ z. B ++ drop (length B) z) area_is ∙ ap (λ z. B ++ z) (drop-drop (length B) from bytes))
            ∙ ap₂ (λ n b. take n b ++ (B ++ drop (n + length B) b)) from-used h.lies
            ∙ sym (page_push st held w.content.0 bytes_fit)

        ended_now : (i : ℕ) → i < length (held ++ (w.content.0 ∷ [])) → get_or (ends ++ (from + size) ∷ []) i 0 ≡ used st (take (i + 1) (held ++ (w.content.0 ∷ [])))
        ended_now i l = elim (cases_lt i (length held)) [
          | inl below ↦
              get_or_append_left ends ((from + size) ∷ []) 0 i (omega (arith, h.many)) ∙ h.ended i below ∙ ap (used st) (sym (take-append-le (i + 1) held (w.content.0 ∷ []) (omega arith)))
          | inr above ↦ (
              let n : length (held ++ (w.content.0 ∷ [])) ≡ length held + 1 = length-append held (w.content.0 ∷ []) in
              let e : i ≡ length ends = omega (arith, h.many) in
              ap (λ k. get_or (ends ++ (from + size) ∷ []) k 0) e ∙ get_or-append_seam ends (from + size) [] 0
              ∙ ap₂ (λ a b. a + b) from-used w.content.2 ∙ sym (used_push st held w.content.0)
              ∙ ap (used st) (sym (take-length (held ++ (w.content.0 ∷ []))) ∙ ap (λ k. take k (held ++ (w.content.0 ∷ []))) (omega (arith, n))))
        ]

        pub adds : Does st held schema (put_mid from (length bytes - from) bytes to) (ends ++ (from + size) ∷ []) (Shelve t ps lent) (shelve st held t ps lent) (got (length ends))
        adds =
            let walked = w.outcome ∙ ap (λ n. walk st t n lent st.root (field_of st.root).nullable ps (32 * length (nodes st.root)) 0) area_size in
            let e : shelve st held t ps lent ≡ got (length held) = shelve_is ∙ sym (ap (λ (m : Got ℕ). then m (λ _. got (length held))) walked) in
            let n : length (held ++ (w.content.0 ∷ [])) ≡ length held + 1 = length-append held (w.content.0 ∷ []) in
            record {
              answered = ap got h.many ∙ sym e;
              holds = subst (λ l. Holds st schema (put_mid from (length bytes - from) bytes to) (ends ++ (from + size) ∷ []) l)
                  (sym (after_got (length held) w.content.0 e w.content.1))
                  (record {
                    tree = h.tree;
                    lies = lies_now;
                    inside = omega (arith, used_push st held w.content.0, bytes_fit);
                    small = h.small;
                    whole = h.whole;
                    many = omega (arith, n, h.many, length-append ends ((from + size) ∷ []));
                    few = omega (arith, n, another);
                    ended = ended_now;
                  });
            }
