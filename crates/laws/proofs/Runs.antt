-- What an accepted Shelve adds can be read back and lies within the page, whatever calls went before.
use Rattle.std.proofs.Common.{◌≡◌, ℕ, zero, suc, ◌+◌, ◌-◌, ◌*◌, ◌%◌, ◌^◌, ◌<◌, ◌≤◌, Bool, true, false, cond, ◌||◌, ltb, List, [], ◌∷◌, ◌++◌, map, length, get_or, drop, replicate, sym, refl, ap, ◌∙◌, ap₂, arith, length-append, drop_at}
use lib.ListN.{length-replicate}
use lib.Seq.{take-length}
use Rattle.std.specs.List.{AllByRecursion}
use Rattle.std.proofs.ByRecursion.{All-weaker, All-append, All-take, All-get_or}
use Rattle.std.proofs.lemmas.Bool.{and_parts, ltb-true, ltb-false, lt-ltb}
use Rattle.octets.specs.Lists.{joined, all}
use Rattle.schema.specs.Tree.{field_of, nodes, WellFormed}
use Rattle.tape.specs.View.{TapeView, is_position}
use Rattle.batch.specs.Values.{NullFirst, Setup, Value, fits}
use Rattle.slip.specs.Slips.{Got, refuse, got, slip, then, not_there}
use Rattle.batch.specs.Format.{Filled, Spelled}
use Rattle.batch.specs.Batch.{columns, word_in, column_in, bytes_of}
use Rattle.laws.specs.Shelf.{Held, bad_position, walk, used, page, shelve, rows_of}
use Rattle.batch.specs.Cells
use Rattle.batch.specs.Cells.{batch_cell}
use Rattle.laws.specs.Calls.{cell_at, Call, Shelve, Torn, Cell, Release, Count, answer, after, run}
use Rattle.laws.specs.Laws.{takes}
use Rattle.laws.specs.History.{FromOpened, cell_from, seen, extent_at, start_on, batch_on, cell_on, read_back}
use Rattle.batch.proofs.Worth.{worth, worths}
use Rattle.laws.proofs.Told.{Told, told_got}
use Rattle.batch.proofs.Records.{length-batch}
use Rattle.batch.proofs.Sized.{sized_value, all_mapped}
use Rattle.laws.proofs.Walks.{Holds, stopped, holds, holds_then, holds_skip, Small, Walked, walked}
use Rattle.batch.proofs.Columns.{length-columns}
use Rattle.batch.specs.Laws.{Holdable, InFormat}
use Rattle.batch.specs.Suited.{Sized, Full, Worded}
use Rattle.batch.proofs.Spelled.{worded, batches_spelled}
use Rattle.batch.proofs.Whole.{extent_is, both, count_is, cell_past, same_bytes, batches_in_format, batches_filled, whole_words}
use Rattle.batch.proofs.Filled.{all_by, full_value}
use Rattle.laws.proofs.Fits.{shelve-told, rows_are}
use Rattle.laws.proofs.Pages.{used_push, used-take, lies, start, start_next, rows_in}

module _ (st : Setup) where
  -- rows that a batch can hold
  pub record Kept (rows : List (Value st.root)) : Type 0 where
    pub sized : AllByRecursion (Sized st st.root) rows
    pub few : AllByRecursion (λ c. c.slots < 2 ^ 31) (columns st st.root rows)
    pub full : AllByRecursion (Full st st.root) rows
    pub worded : AllByRecursion (Worded st.root) rows
    pub within : length (bytes_of st rows) ≤ st.size

  record Added (held : Held st) (rows : List (Value st.root)) : Type 0 where
    sized : AllByRecursion (Sized st st.root) rows
    few : AllByRecursion (λ c. c.slots < 2 ^ 31) (columns st st.root rows)
    fits : used st held + length (bytes_of st rows) ≤ st.size

  added_from : (held : Held st) (t : TapeView) (ps : List ℕ) (lent end : ℕ) → used st held ≤ st.size
      → Small lent (length ps) → Walked (Small lent (length ps)) (st.size - used st held) (32 * length (nodes st.root)) (columns st st.root (worths st t ps)) end → Added held (worths st t ps)
  added_from held t ps lent end inside small w =
      let force = (field_of st.root).nullable in
      let long : length (bytes_of st (worths st t ps)) ≡ end =
      omega (arith, length-batch (columns st st.root (worths st t ps)), w.is, length-columns st st.root (worths st t ps)) in
      record {
        sized = all_mapped (Sized st st.root) (worth st t st.root force) (sized_value st t st.root force) ps;
        few = All-weaker (λ c. (c.nulls ≤ c.slots) × (c.slots < 2 ^ 31)) (λ c. c.slots < 2 ^ 31) (λ c h. h.1) (columns st st.root (worths st t ps)) (w.few small);
        fits = omega (arith, long, w.within);
      }

  added : (held : Held st) (t : TapeView) (ps : List ℕ) (lent : ℕ) → NullFirst t → used st held ≤ st.size → Holds (λ n. Added held (worths st t ps)) (shelve st held t ps lent)
  added held t ps lent null inside =
      holds_skip (bad_position t 0 ps) (go (ltb 65535 (length ps)) (ltb (2 ^ 24) lent) (ltb 63 (length held) || ltb free top) refl refl)
    where
      free : ℕ
      free = st.size - used st held

      top : ℕ
      top = 32 * length (nodes st.root)

      go : (a b c : Bool) → ltb 65535 (length ps) ≡ a → ltb (2 ^ 24) lent ≡ b
          → Holds (λ n. Added held (worths st t ps))
          (cond (a || (b || c)) (refuse (slip 4 0 0)) (then (walk st t free lent st.root (field_of st.root).nullable ps top 0) (λ _. got (length held))))
      go true b c p q = stopped
      go false true c p q = stopped
      go false false true p q = stopped
      go false false false p q =
          holds_then (walked st t null free lent st.root (field_of st.root).nullable ps top 0)
          (λ end w. holds (added_from held t ps lent end inside (omega (arith, ltb-false (2 ^ 24) lent q), omega (arith, ltb-false 65535 (length ps) p)) w))

  -- what holds of a shelf after any calls
  pub record Sound (held : Held st) : Type 0 where
    pub kept : AllByRecursion Kept held
    pub inside : used st held ≤ st.size

  full_rows : (t : TapeView) (ps : List ℕ) → all (takes st t) ps ≡ true → AllByRecursion (Full st st.root) (worths st t ps)
  full_rows t ps e =
      let force = (field_of st.root).nullable in
      all_by (Full st st.root) (worth st t st.root force) (takes st t)
      (λ p e. full_value st t st.root force p (and_parts (is_position t p) (fits st t st.root force p) e).1) ps e

  pub sound-after : (held : Held st) (c : Call) → FromOpened c → Sound held → Sound (after st held c)
  sound-after held (Shelve t ps lent) null s = go (shelve st held t ps lent) (shelve-told st held t ps lent) (added held t ps lent null.first s.inside)
    where
      go : (m : Got ℕ) → Told (all (takes st t) ps) m → Holds (λ n. Added held (worths st t ps)) m
          → Sound (elim (then m (λ _. rows_of st t ps)) [ refuse r ↦ held | got rows ↦ held ++ (rows ∷ []) ])
      go (refuse r) told h = s
      go (got n) told (holds a) =
          rw (rows_are st held t ps (told_got told))
          (record { kept = All-append Kept held (worths st t ps ∷ []) s.kept (record { sized = a.sized; few = a.few; full = full_rows t ps (told_got told); worded = all_mapped (Worded st.root) (worth st t st.root (field_of st.root).nullable) (worded st t null st.root (field_of st.root).nullable) ps; within = omega (arith, a.fits) }, tt); inside = omega (arith, used_push st held (worths st t ps), a.fits) })
  sound-after held Torn null s = s
  sound-after held (Cell i n slot) null s = s
  sound-after held Release null s =
      record { kept = All-take Kept (length held - 1) held s.kept; inside = omega (arith, s.inside, used-take st (length held - 1) held) }
  sound-after held Count null s = s

  pub sound-run : (held : Held st) (calls : List Call) → AllByRecursion FromOpened calls → Sound held → Sound (run st held calls)
  sound-run held [] null s = s
  sound-run held (c ∷ cs) null s = sound-run (after st held c) cs null.1 (sound-after held c null.0 s)

  pub sound-all : (calls : List Call) → AllByRecursion FromOpened calls → Sound (run st [] calls)
  sound-all calls null = sound-run [] calls null (record { kept = tt; inside = omega arith })

  module _ (well : WellFormed st.root) (small : st.size ≤ 2 ^ 24) where
    pub holdable : (rows : List (Value st.root)) → Kept rows → Holdable st rows
    holdable rows k = record { sized = k.sized; few = k.few; short = omega (arith, k.within) }

    module _ (held : Held st) (sound : Sound held) where
      pub kept_at : (i : ℕ) → i < length held → Kept (rows_in st held i)
      kept_at i h = All-get_or Kept held i [] h sound.kept

      pub held_at : (i : ℕ) → i < length held → Holdable st (rows_in st held i)
      held_at i h = holdable (rows_in st held i) (kept_at i h)

      extent-at : (i : ℕ) (h : i < length held) → extent_at st (page st held) (start st held i) ≡ length (bytes_of st (rows_in st held i))
      extent-at i h = extent_is st well (rows_in st held i) (held_at i h) (page st held) (start st held i) (lies st held i h)

      pub start_is : (i : ℕ) → i ≤ length held → start_on st (page st held) i ≡ start st held i
      start_is zero h = refl
      start_is (suc i) h =
          let here = start_is i (omega arith) in
          let n : suc i ≡ i + 1 = omega arith in
          rw (here, n, start_next st held i h) (ap (λ n. start st held i + n) (extent-at i h))

      pub batch_is : (i : ℕ) → i < length held → batch_on st (page st held) i ≡ bytes_of st (rows_in st held i)
      batch_is i h =
          rw (start_is i (omega arith), extent-at i h) (lies st held i h)

      pub cell_is : (i n slot : ℕ) → cell_at st held i n slot ≡ cell_on st (page st held) (length held) i n slot
      cell_is i n slot = go (ltb i (length held)) refl
        where
          made : ℕ → List ℕ → Bool → Got Cells.Cell
          made base bytes b = cond b (batch_cell st base bytes n slot) (refuse not_there)

          go : (b : Bool) → ltb i (length held) ≡ b
              → made (start st held i) (bytes_of st (rows_in st held i)) b ≡ made (start_on st (page st held) i) (batch_on st (page st held) i) b
          go true e = let h = ltb-true i (length held) e in ap₂ (λ base bytes. made base bytes true) (sym (start_is i (omega arith))) (sym (batch_is i h))
          go false e = refl

      pub page_long : length (page st held) ≡ st.size
      page_long =
          length-append (joined (map (bytes_of st) held)) (replicate (st.size - used st held) 0)
          ∙ omega (arith, sound.inside, length-replicate {A = ℕ} (st.size - used st held) 0)

      -- one row of a batch, through the replies to Cell
      pub read_is : (i k : ℕ) (d : Value st.root) → i < length held → k < length (rows_in st held i) → read_back st (seen st held) i k ≡ got (get_or (rows_in st held i) k d)
      read_is i k d h l =
          let mine = rows_in st held i in
          let bytes = bytes_of st mine in
          (both st well mine (held_at i h) (page st held) (start st held i) (omega (arith, page_long)) (lies st held i h) (λ n slot. cell_from (answer st held (Cell i n slot)))
          (λ n k l m. rw (lt-ltb i (length held) h, lt-ltb n (length (nodes st.root)) l, lt-ltb k (word_in bytes n 0) m))).reads k d l

      pub end_is : (i k : ℕ) → i < length held → length (rows_in st held i) ≤ k → answer st held (Cell i 0 k) ≡ refuse not_there
      end_is i k h l =
          let mine = rows_in st held i in
          rw (lt-ltb i (length held) h, cell_past st (start st held i) (bytes_of st mine) 0 k (omega (arith, count_is st mine (held_at i h))))

      pub same_is : (i j : ℕ) → i < length held → j < length held → batch_on st (page st held) i ≡ batch_on st (page st held) j → rows_in st held i ≡ rows_in st held j
      same_is i j h g e = (same_bytes st well (rows_in st held i) (rows_in st held j) (held_at i h) (held_at j g)).0 (sym (batch_is i h) ∙ e ∙ batch_is j g)

      pub is_same : (i j : ℕ) → i < length held → j < length held → rows_in st held i ≡ rows_in st held j → batch_on st (page st held) i ≡ batch_on st (page st held) j
      is_same i j h g e = batch_is i h ∙ ap (bytes_of st) e ∙ sym (batch_is j g)

      pub end_of_all : start_on st (page st held) (length held) ≡ used st held
      end_of_all = start_is (length held) (omega arith) ∙ ap (used st) (take-length held)

      pub behind : drop (used st held) (page st held) ≡ replicate (st.size - used st held) 0
      behind = drop_at (joined (map (bytes_of st) held)) (replicate (st.size - used st held) 0) (used st held) refl

      -- the Format's laws of a batch's bytes
      pub format_is : (i : ℕ) → i < length held → InFormat st (bytes_of st (rows_in st held i)) (rows_in st held i)
      format_is i h = batches_in_format st well (rows_in st held i) (held_at i h)

      pub filled-all : (i : ℕ) → i < length held → Filled st (column_in (bytes_of st (rows_in st held i))) st.root
      filled-all i h = batches_filled st well (rows_in st held i) (held_at i h) (kept_at i h).full

      pub spelled_all : (i : ℕ) → i < length held → Spelled st (column_in (bytes_of st (rows_in st held i))) st.root
      spelled_all i h = batches_spelled st well (rows_in st held i) (held_at i h) (kept_at i h).worded

      pub aligned_is : (i : ℕ) → i ≤ length held → start st held i % 8 ≡ 0
      aligned_is zero h = refl
      aligned_is (suc i) h =
          let n : suc i ≡ i + 1 = omega arith in
          rw (n, start_next st held i h) (omega (arith, aligned_is i (omega arith), whole_words st (rows_in st held i)))
