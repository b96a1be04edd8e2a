-- The page of a shelf: where its batches lie, and what a call writes.
use Rattle.std.proofs.Common.{◌≡◌, ℕ, ◌+◌, ◌-◌, ◌*◌, ◌<◌, ◌≤◌, List, [], ◌∷◌, ◌++◌, map, length, get_or, take, drop, replicate, sym, ap, ◌∙◌, ap₂, append_assoc, arith, length-append, take-append-drop}
use lib.Seq.{drop-append-add, take-append_seam}
use Rattle.std.proofs.lemmas.List.{append-nil, map-append, take_more, drop-replicate}
use Rattle.octets.specs.Lists.{part, joined}
use Rattle.octets.specs.Numbers.{number}
use Rattle.octets.proofs.Pieces.{joined-append, cut_out, part_in}
use Rattle.batch.specs.Values.{Setup, Value}
use Rattle.batch.specs.Batch.{word_in, bytes_of}
use Rattle.laws.specs.Shelf.{Held, used, page}

module _ (st : Setup) where
  abbrev pub start : Held st → ℕ → ℕ
  start held i = used st (take i held)

  abbrev pub rows_in : Held st → ℕ → List (Value st.root)
  rows_in held i = get_or held i []

  abbrev whole : Held st → List ℕ
  whole held = joined (map (bytes_of st) held)

  whole_append : (xs ys : Held st) → whole (xs ++ ys) ≡ whole xs ++ whole ys
  whole_append xs ys = ap joined (map-append (bytes_of st) xs ys) ∙ joined-append (map (bytes_of st) xs) (map (bytes_of st) ys)

  whole_push : (held : Held st) (rows : List (Value st.root)) → whole (held ++ (rows ∷ [])) ≡ whole held ++ bytes_of st rows
  whole_push held rows = whole_append held (rows ∷ []) ∙ ap (λ r. whole held ++ r) (append-nil (bytes_of st rows))

  pub used_push : (held : Held st) (rows : List (Value st.root)) → used st (held ++ (rows ∷ [])) ≡ used st held + length (bytes_of st rows)
  used_push held rows = ap length (whole_push held rows) ∙ length-append (whole held) (bytes_of st rows)

  whole_take : (n : ℕ) (held : Held st) → whole held ≡ whole (take n held) ++ whole (drop n held)
  whole_take n held = ap whole (sym (take-append-drop n held)) ∙ whole_append (take n held) (drop n held)

  pub used-take : (n : ℕ) (held : Held st) → used st (take n held) ≤ used st held
  used-take n held = omega (arith, ap length (whole_take n held), length-append (whole (take n held)) (whole (drop n held)))

  -- the bytes of one batch, cut from the page
  module _ (held : Held st) (i : ℕ) (h : i < length held) where
    pub lies : part (page st held) (start held i) (length (bytes_of st (rows_in held i))) ≡ bytes_of st (rows_in held i)
    lies = cut_out (bytes_of st) [] held i (replicate (st.size - used st held) 0) h

    pub start_next : start held (i + 1) ≡ start held i + length (bytes_of st (rows_in held i))
    start_next = rw (take_more held i [] h, used_push (take i held) (rows_in held i))

    -- a number of a record, where it stands on the page
    pub record_where : (n k : ℕ) → 32 * n + 4 * k + 4 ≤ length (bytes_of st (rows_in held i))
        → word_in (bytes_of st (rows_in held i)) n k ≡ number (part (page st held) (start held i + (32 * n + 4 * k)) 4)
    record_where n k l =
        ap number (sym (part_in (page st held) (bytes_of st (rows_in held i)) (start held i) (length (bytes_of st (rows_in held i))) (32 * n + 4 * k) 4 lies l))

  -- an accepted Shelve writes its bytes behind the others, and nothing else
  pub page_push : (held : Held st) (rows : List (Value st.root)) → used st held + length (bytes_of st rows) ≤ st.size
      → page st (held ++ (rows ∷ [])) ≡ take (used st held) (page st held) ++ (bytes_of st rows ++ drop (used st held + length (bytes_of st rows)) (page st held))
  page_push held rows fits =
      let b = bytes_of st rows in
      let zeros : List ℕ = replicate (st.size - used st held) 0 in
      let less : st.size - used st held - length b ≡ st.size - (used st held + length b) = omega arith in
      let left : page st (held ++ (rows ∷ [])) ≡ whole held ++ (b ++ replicate (st.size - (used st held + length b)) 0) =
      ap₂ (λ x n. x ++ replicate (st.size - n) 0) (whole_push held rows) (used_push held rows) ∙ append_assoc (whole held) b _ in
      let skipped : drop (used st held + length b) (page st held) ≡ drop (length b) zeros = drop-append-add (whole held) zeros (length b) in
      let right : drop (used st held + length b) (page st held) ≡ replicate (st.size - (used st held + length b)) 0 =
      rw (skipped, drop-replicate {X = ℕ} (length b) (st.size - used st held) 0, less) in
      left ∙ sym (ap₂ (λ x y. x ++ (b ++ y)) (take-append_seam (whole held) zeros) right)

  -- Release puts zeros from the newest batch on
  pub page-take : (n : ℕ) (held : Held st) → page st (take n held) ≡ take (used st (take n held)) (page st held) ++ replicate (st.size - used st (take n held)) 0
  page-take n held =
      let zeros : List ℕ = replicate (st.size - used st held) 0 in
      let e : page st held ≡ whole (take n held) ++ (whole (drop n held) ++ zeros) = ap (λ x. x ++ zeros) (whole_take n held) ∙ append_assoc (whole (take n held)) (whole (drop n held)) zeros in
      let f : take (used st (take n held)) (page st held) ≡ whole (take n held) = ap (take (used st (take n held))) e ∙ take-append_seam (whole (take n held)) (whole (drop n held) ++ zeros) in
      ap (λ x. x ++ replicate (st.size - used st (take n held)) 0) (sym f)
