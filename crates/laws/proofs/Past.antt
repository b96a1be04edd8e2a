-- The laws of every run: what was shelved, by the replies, is what the page holds.
use Rattle.std.proofs.Common.{◌≡◌, ℕ, suc, ◌-◌, ◌*◌, ◌<◌, Bool, true, false, cond, eqb, List, [], ◌∷◌, ◌++◌, map, length, get_or, take, sym, refl, ap, ◌∙◌, ap₂, arith, length-take, get_or-take}
use lib.Dec.{eqb-suc-zero}
use lib.ListN.{length-map}
use Rattle.std.specs.List.{AllByRecursion}
use Rattle.std.proofs.lemmas.List.{get_or-map, map-append, get_or_append_left}
use Rattle.octets.specs.Lists.{all}
use Rattle.schema.specs.Tree.{field_of, nodes}
use Rattle.tape.specs.View.{TapeView}
use Rattle.slip.specs.Slips.{Got, refuse, got, then, not_there, slip}
use Rattle.batch.specs.Values.{Setup, Value, value}
use Rattle.batch.specs.Batch.{hidden, bytes_of}
use Rattle.laws.specs.Shelf.{Held, bad_position, is_full, walk, used, page, shelve, rows_of}
use Rattle.laws.specs.Calls.{Call, Shelve, Torn, Cell, Release, Count, Reply, answer, after, run}
use Rattle.laws.specs.Laws.{takes}
use Rattle.laws.specs.History.{Past, later, Idle, FromOpened, history, batch_on, start_on, from, rows, row, SameRows, AlwaysKept, AlwaysInFormat}
use Rattle.batch.proofs.Worth.{worths, each_parts}
use Rattle.laws.proofs.Told.{Told, told_got, told_as}
use Rattle.laws.proofs.Walks.{Holds, stopped, holds, holds_skip}
use Rattle.laws.proofs.Fits.{shelve-told, rows_are, refused_by_test, refused_alone}
use Rattle.laws.proofs.Pages.{rows_in}
use Rattle.batch.proofs.Whole.{map-take, means_at}
use Rattle.std.proofs.lemmas.Bool.{both_ways}
use Rattle.batch.proofs.Tests.{all_false}
use Rattle.laws.proofs.Space.{shelve_spaced}
use Rattle.laws.proofs.Runs.{Sound, held_at, format_is, filled-all, spelled_all, aligned_is, sound-after, start_is, batch_is, cell_is, read_is, end_is, same_is, is_same, end_of_all, behind, page_long}

same_list : {A : Type 0} (d : A) (xs ys : List A) → length xs ≡ length ys → ((k : ℕ) → k < length xs → get_or xs k d ≡ get_or ys k d) → xs ≡ ys
same_list d [] [] e h = refl
same_list d [] (y ∷ ys) e h = absurd (omega arith)
same_list d (x ∷ xs) [] e h = absurd (omega arith)
same_list d (x ∷ xs) (y ∷ ys) e h = ap₂ (λ a r. a ∷ r) (h 0 (omega arith)) (same_list d xs ys (omega arith) (λ k l. h (suc k) (omega arith)))

take_none : {A : Type 0} (xs : List A) → eqb (length xs) 0 ≡ true → take (length xs - 1) xs ≡ xs
take_none [] e = refl
take_none (x ∷ xs) e = absurd (let z : false ≡ true = sym (eqb-suc-zero (length xs)) ∙ e in let w : ◌≡◌ {A = ℕ} 0 1 = cc in omega arith)

module _ (st : Setup) where
  -- the rows of what was shelved are the rows held
  abbrev rows_from : TapeView × List ℕ → Got (List (Value st.root))
  rows_from a = rows_of st a.0 a.1

  abbrev Tells : Past → Held st → Type 0
  Tells past held = map rows_from past ≡ map got held

  long_is : (past : Past) (held : Held st) → Tells past held → length past ≡ length held
  long_is past held e = sym (length-map past rows_from) ∙ ap length e ∙ length-map held got

  tells_after : (past : Past) (held : Held st) (c : Call) → Tells past held → Tells (later past c (answer st held c)) (after st held c)
  tells_after past held (Shelve t ps lent) e = go (shelve st held t ps lent) (shelve-told st held t ps lent)
    where
      go : (m : Got ℕ) → Told (all (takes st t) ps) m
          → Tells (later past (Shelve t ps lent) (then m (λ n. got (Reply.batch n)))) (elim (then m (λ _. rows_of st t ps)) [ refuse r ↦ held | got own ↦ held ++ (own ∷ []) ])
      go (refuse r) told = e
      go (got n) told =
          let is = rows_are st held t ps (told_got told) in
          rw is (map-append rows_from past ((t, ps) ∷ []) ∙ ap₂ (λ a b. a ++ (b ∷ [])) e is ∙ sym (map-append got held (worths st t ps ∷ [])))
  tells_after past held Torn e = e
  tells_after past held (Cell i n slot) e = go (answer st held (Cell i n slot))
    where
      go : (m : Got Reply) → Tells (later past (Cell i n slot) m) held
      go (refuse r) = e
      go (got r) = e
  tells_after past held Release e = go (eqb (length held) 0) refl
    where
      n : length past ≡ length held
      n = long_is past held e

      go : (b : Bool) → eqb (length held) 0 ≡ b → Tells (later past Release (then (cond b (refuse not_there) (got (length held - 1))) (λ n. got (Reply.batch n)))) (take (length held - 1) held)
      go true z = rw (take_none held z) e
      go false z = rw n (map-take rows_from (length held - 1) past ∙ ap (take (length held - 1)) e ∙ sym (map-take got (length held - 1) held))
  tells_after past held Count e = e

  record Told-of (past : Past) (held : Held st) : Type 0 where
    sound : Sound st held
    tells : Tells past held

  told-run : (past : Past) (held : Held st) (calls : List Call) → AllByRecursion FromOpened calls → Told-of past held → Told-of (history st held past calls) (run st held calls)
  told-run past held [] null w = w
  told-run past held (c ∷ cs) null w =
      told-run (later past c (answer st held c)) (after st held c) cs null.1
      (record { sound = sound-after st held c null.0 w.sound; tells = tells_after past held c w.tells })

  -- the number of a new batch
  numbered : (held : Held st) (t : TapeView) (ps : List ℕ) (lent : ℕ) → Holds (λ n. n ≡ length held) (shelve st held t ps lent)
  numbered held t ps lent =
      holds_skip (bad_position t 0 ps) (go (is_full st held (length ps) lent))
    where
      go : (b : Bool) → Holds (λ n. n ≡ length held) (cond b (refuse (slip 4 0 0))
          (then (walk st t (st.size - used st held) lent st.root (field_of st.root).nullable ps (32 * length (nodes st.root)) 0) (λ _. got (length held))))
      go true = stopped
      go false = holds_skip (walk st t (st.size - used st held) lent st.root (field_of st.root).nullable ps (32 * length (nodes st.root)) 0) (holds refl)

  -- a batch that is held before and after a call
  stays_held : (held : Held st) (c : Call) (i : ℕ) → i < length held → i < length (after st held c) → rows_in st (after st held c) i ≡ rows_in st held i
  stays_held held (Shelve t ps lent) i h l = go (then (shelve st held t ps lent) (λ _. rows_of st t ps))
    where
      go : (m : Got (List (Value st.root))) → get_or (elim m [ refuse r ↦ held | got own ↦ held ++ (own ∷ []) ]) i [] ≡ get_or held i []
      go (refuse r) = refl
      go (got own) = get_or_append_left held (own ∷ []) [] i h
  stays_held held Torn i h l = refl
  stays_held held (Cell j n slot) i h l = refl
  stays_held held Release i h l = get_or-take (length held - 1) held i [] (omega (arith, length-take (length held - 1) held))
  stays_held held Count i h l = refl

  idle_is : (held : Held st) (c : Call) → Idle c (answer st held c) → page st (after st held c) ≡ page st held
  idle_is held (Shelve t ps lent) = go (shelve st held t ps lent)
    where
      go : (m : Got ℕ) → Idle (Shelve t ps lent) (then m (λ n. got (Reply.batch n)))
          → page st (elim (then m (λ _. rows_of st t ps)) [ refuse r ↦ held | got own ↦ held ++ (own ∷ []) ]) ≡ page st held
      go (refuse r) h = refl
      go (got n) h = absurd h
  idle_is held Torn = λ h. refl
  idle_is held (Cell i n slot) = λ h. refl
  idle_is held Release = go (eqb (length held) 0) refl
    where
      go : (b : Bool) → eqb (length held) 0 ≡ b → Idle Release (then (cond b (refuse not_there) (got (length held - 1))) (λ n. got (Reply.batch n))) → page st (take (length held - 1) held) ≡ page st held
      go true z h = ap (page st) (take_none held z)
      go false z h = absurd h
  idle_is held Count = λ h. refl

  module _ (past : Past) (held : Held st) (told : Told-of past held) where
    long : length past ≡ length held
    long = long_is past held told.tells

    from_is : (i : ℕ) → i < length held → rows_from (from past i) ≡ got (rows_in st held i)
    from_is i h =
        sym (get_or-map rows_from past i (record { elements = []; texts = []; offsets = [] }, []) (got []) (omega (arith, long)))
        ∙ ap (λ l. get_or l i (got [])) told.tells ∙ get_or-map got held i [] (got []) h

    rows_is : (i : ℕ) → i < length held → length (rows_in st held i) ≡ rows past i
    rows_is i h = (each_parts (value st (from past i).0 st.root (field_of st.root).nullable) (from past i).1 (rows_in st held i) (from_is i h)).0

    row_is : (i k : ℕ) → i < length held → k < rows past i → row st past i k ≡ got (get_or (rows_in st held i) k (hidden st st.root))
    row_is i k h l = (each_parts (value st (from past i).0 st.root (field_of st.root).nullable) (from past i).1 (rows_in st held i) (from_is i h)).1 k 0 (hidden st st.root) l

    same_rows : (i j : ℕ) → i < length held → j < length held → rows_in st held i ≡ rows_in st held j → SameRows st past i j
    same_rows i j h g e = record {
      many = sym (rows_is i h) ∙ ap length e ∙ rows_is j g;
      values = λ k l.
          row_is i k h l ∙ ap (λ own. got (get_or own k (hidden st st.root))) e
          ∙ sym (row_is j k g (omega (arith, sym (rows_is i h) ∙ ap length e ∙ rows_is j g)));
    }

    rows_same : (i j : ℕ) → i < length held → j < length held → SameRows st past i j → rows_in st held i ≡ rows_in st held j
    rows_same i j h g s =
        same_list (hidden st st.root) (rows_in st held i) (rows_in st held j) (omega (arith, rows_is i h, rows_is j g, s.many))
        (λ k l.
        let p = row_is i k h (omega (arith, rows_is i h)) in
        let q = row_is j k g (omega (arith, rows_is i h, s.many)) in
        let r = s.values k (omega (arith, rows_is i h)) in
        cc)

fst_all : (xs ys : List Call) → AllByRecursion FromOpened (xs ++ ys) → AllByRecursion FromOpened xs
fst_all [] ys h = tt
fst_all (x ∷ xs) ys h = (h.0, fst_all xs ys h.1)

told-all : (st : Setup) (done left : List Call) → AllByRecursion FromOpened (done ++ left) → Told-of st (history st [] [] done) (run st [] done)
told-all st done left null = told-run st [] [] done (fst_all done left null) (record { sound = record { kept = tt; inside = omega arith }; tells = refl })

pub always_in_format_lem : AlwaysInFormat
always_in_format_lem st well small done left null i h =
    let past = history st [] [] done in
    let held = run st [] done in
    let told = told-all st done left null in
    let sound = told.sound in
    let l : i < length held = rw (long st past held told) at h in
    let mine = rows_in st held i in
    let rows_are = rows_is st past held told i l in
    let is : batch_on st (page st held) i ≡ bytes_of st mine = batch_is st well small held sound i l in
    let good = format_is st well small held sound i l in
    record {
      many = rw is (good.many ∙ rows_are);
      means = λ j g. rw is (row_is st past held told i j l g ∙ ap got (sym (means_at st well mine (held_at st well small held sound i l) j (hidden st st.root) (omega (arith, rows_are)))));
      lies = rw is good.lies;
      filled = rw is (filled-all st well small held sound i l);
      spelled = rw is (spelled_all st well small held sound i l);
      aligned = rw (start_is st well small held sound i (omega arith)) (aligned_is st well small held sound i (omega arith));
    }

pub always_kept_lem : AlwaysKept
always_kept_lem st well small done left null =
    let past = history st [] [] done in
    let held = run st [] done in
    let told = told-all st done left null in
    let sound = told.sound in
    let n = long st past held told in
    let at : (i : ℕ) → i < length past → i < length held = λ i h. rw n at h in
    record {
      same_bytes = λ i j h g. (
        (λ e. same_rows st past held told i j (at i h) (at j g) (same_is st well small held sound i j (at i h) (at j g) e)),
        (λ s. is_same st well small held sound i j (at i h) (at j g) (rows_same st past held told i j (at i h) (at j g) s)),
      );
      reads_back = λ i k h l. (
        get_or (rows_in st held i) k (hidden st st.root),
        row_is st past held told i k (at i h) l,
        read_is st well small held sound i k (hidden st st.root) (at i h) (omega (arith, rows_is st past held told i (at i h))),
      );
      end = λ i k h l. end_is st well small held sound i k (at i h) (omega (arith, rows_is st past held told i (at i h)));
      refused_alone = λ t ps lent space.
          refused_alone (takes st t) (λ qs. answer st held (Shelve t qs lent)) (λ qs. told_as Reply.batch (shelve-told st held t qs lent)) ps space.whole space.alone;
      refused_by_rules = λ t ps lent space. refused_by_test (takes st t) (answer st held (Shelve t ps lent)) ps (told_as Reply.batch (shelve-told st held t ps lent)) space;
      shelves = λ t ps lent own null r.
          let e = all-taken t ps r.taken in
          let is : own ≡ worths st t ps = rows_unique own (worths st t ps) r.are (rows_are st held t ps e) in
          let start : start_on st (page st held) (length past) ≡ used st held = ap (start_on st (page st held)) n ∙ end_of_all st well small held sound in
          ap (λ m. then m (λ k. got (Reply.batch k)))
          (shelve_spaced st held t null ps lent e r.few r.short (rw n at r.another) (rw (← is, ← start) r.page) r.work)
          ∙ ap (λ k. got (Reply.batch k)) (sym n);
      shelved = λ t ps lent r e. batch-number held (shelve st held t ps lent) (numbered st held t ps lent) r e ∙ ap Reply.batch (sym n);
      torn = refl;
      released = rw n (release_is (length held - 1) (eqb (length held) 0));
      counted = ap₂ (λ a b. got (Reply.counts (a, st.size - b))) (sym n) (sym (ap (start_on st (page st held)) n ∙ end_of_all st well small held sound));
      cells = λ i k slot. rw n (ap (λ m. then m (λ c. got (Reply.cell c))) (cell_is st well small held sound i k slot));
      idle = idle_is st held;
      stays = λ c null i h l.
          let after-sound = sound-after st held c null sound in
          let still : i < length (after st held c) = rw (← long_is st (later past c (answer st held c)) (after st held c) (tells_after st past held c told.tells)) l in
          batch_is st well small (after st held c) after-sound i still ∙ ap (bytes_of st) (stays_held st held c i (at i h) still) ∙ sym (batch_is st well small held sound i (at i h));
      size = page_long st well small held sound;
      free = rw (ap (start_on st (page st held)) n ∙ end_of_all st well small held sound) (behind st well small held sound);
    }
  where
    all-taken : (t : TapeView) (ps : List ℕ) → ((i : ℕ) → i < length ps → takes st t (get_or ps i 0) ≡ true) → all (takes st t) ps ≡ true
    all-taken t ps h = go (all (takes st t) ps) refl
      where
        go : (b : Bool) → all (takes st t) ps ≡ b → b ≡ true
        go true e = refl
        go false e = let r = all_false (takes st t) ps e in absurd (both_ways (takes st t (get_or ps r.0 0)) r.2 (h r.0 r.1))

    rows_unique : (xs ys : List (Value st.root)) {m : Got (List (Value st.root))} → m ≡ got xs → m ≡ got ys → xs ≡ ys
    rows_unique xs ys p q = cc

    batch-number : (held : Held st) (m : Got ℕ) → Holds (λ n. n ≡ length held) m → (r : Reply) → then m (λ n. got (Reply.batch n)) ≡ got r → r ≡ Reply.batch (length held)
    batch-number held (refuse s) h r e = absurd (let z : ◌≡◌ {A = ℕ} 0 1 = cc in omega arith)
    batch-number held (got n) (holds h) r e = let z : Reply.batch n ≡ r = cc in sym z ∙ ap Reply.batch h

    release_is : (k : ℕ) (b : Bool) → then (cond b (refuse not_there) (got k)) (λ n. got (Reply.batch n)) ≡ cond b (refuse not_there) (got (Reply.batch k))
    release_is k true = refl
    release_is k false = refl
