-- The laws of every run, by what was asked and answered, and by the bytes of the page.
use Rattle.std.specs.Prelude.{◌≡◌, ℕ, zero, suc, ◌+◌, ◌-◌, ◌*◌, ◌%◌, ◌^◌, ◌<◌, ◌≤◌, true, false, cond, ◌↔◌, List, [], ◌∷◌, ◌++◌, map, length, take, drop, replicate, ◌==◌, ◌≢◌, nat_lt, slice_index, slice_index_or}
use Rattle.std.specs.List.{AllByRecursion}
use Rattle.octets.specs.Lists.{part, between, sum}
use Rattle.schema.specs.Tree.{field_of, nodes, WellFormed}
use Rattle.tape.specs.Opens.{Untorn}
use Rattle.tape.specs.View.{TapeView}
use Rattle.batch.specs.Values.{NullFirst, Setup, Value, value}
use Rattle.slip.specs.Slips.{Got, refuse, got, slip, then, not_there, Refused, number_of}
use Rattle.batch.specs.Format.{value_in, Filled, Spelled}
use Rattle.batch.specs.Laws.{LaidOut}
use Rattle.batch.specs.Batch.{bytes_of, record_in, column_in, took_in}
use Rattle.laws.specs.Shelf.{Held, page, rows_of}
use Rattle.laws.specs.Space.{peak}
use Rattle.batch.specs.Cells
use Rattle.batch.specs.Cells.{batch_cell, read}
use Rattle.laws.specs.Calls.{Call, Shelve, Torn, Cell, Release, Count, Reply, batch, cell, counts, answer, after, run}
use Rattle.laws.specs.Laws.{takes}

-- the tape and the positions that each batch held was shelved from
abbrev pub Past : Type 0
Past = List (TapeView × List ℕ)

-- what a batch was shelved from
abbrev pub from : Past → ℕ → TapeView × List ℕ
from past i = slice_index_or past i (record { elements = []; texts = []; offsets = [] }, [])

-- how many rows that makes
abbrev pub rows : Past → ℕ → ℕ
rows past i = length (from past i).1

-- by the replies: an accepted Shelve adds its own, and an accepted Release takes the newest away
abbrev pub later : Past → Call → Got Reply → Past
later past call (refuse r) = past
later past (Shelve t ps lent) (got r) = past ++ ((t, ps) ∷ [])
later past Torn (got r) = past
later past (Cell i n slot) (got r) = past
later past Release (got r) = take (length past - 1) past
later past Count (got r) = past

-- a call and its reply that leave the page as it is
abbrev pub Idle : Call → Got Reply → Type 0
Idle call (refuse r) = Unit {0}
Idle (Shelve t ps lent) (got r) = ⊥
Idle Torn (got r) = Unit {0}
Idle (Cell i n slot) (got r) = Unit {0}
Idle Release (got r) = ⊥
Idle Count (got r) = Unit {0}

-- every tape was opened
abbrev pub FromOpened : Call → Type 0
FromOpened (Shelve t ps lent) = Untorn t
FromOpened Torn = Unit {0}
FromOpened (Cell i n slot) = Unit {0}
FromOpened Release = Unit {0}
FromOpened Count = Unit {0}

-- the cell in a reply
abbrev pub cell_from : Got Reply → Got Cells.Cell
cell_from (refuse r) = refuse r
cell_from (got (batch n)) = refuse not_there
cell_from (got (cell c)) = got c
cell_from (got (counts n)) = refuse not_there

-- what is seen of a shelf: the bytes of its page, and for every call the reply and the page after it
pub record Seen : Type 0 where
  pub page : List ℕ
  pub reply : Call → Got Reply
  pub next : Call → List ℕ

-- full (4) comes neither for the list nor for any of its positions alone
pub record SpaceEnough (now : Seen) (t : TapeView) (ps : List ℕ) (lent : ℕ) : Type 0 where
  pub whole : number_of (now.reply (Shelve t ps lent)) ≡ 4 → ⊥
  pub alone : (i : ℕ) → i < length ps → number_of (now.reply (Shelve t (slice_index ps i ∷ []) lent)) ≢ 4

module _ (st : Setup) where
  -- what is seen of a shelf that holds these batches
  abbrev pub seen : Held st → Seen
  seen held = record { page = page st held; reply = answer st held; next = λ c. page st (after st held c) }

  -- the past after some calls
  abbrev pub history : Held st → Past → List Call → Past
  history held past [] = past
  history held past (c ∷ cs) = history (after st held c) (later past c (answer st held c)) cs

  -- batches, found on the bytes of a page
  module _ (bytes : List ℕ) where
    -- a batch is its records and its padded buffers
    abbrev pub extent_at : ℕ → ℕ
    extent_at base =
        let n = length (nodes st.root) in
        32 * n + sum (map (took_in (drop base bytes)) (between 0 n))

    -- they lie end to end
    abbrev pub start_on : ℕ → ℕ
    start_on zero = 0
    start_on (suc i) = start_on i + extent_at (start_on i)

    -- the bytes of one
    abbrev pub batch_on : ℕ → List ℕ
    batch_on i = part bytes (start_on i) (extent_at (start_on i))

    -- the cell of a node's slot, where there are so many batches
    abbrev pub cell_on : (count batch node slot : ℕ) → Got Cells.Cell
    cell_on count i n slot = cond (nat_lt i count) (batch_cell st (start_on i) (batch_on i) n slot) (refuse not_there)

  module _ (past : Past) where
    -- the root's value at a position that a batch was shelved from
    abbrev pub row : (batch k : ℕ) → Got (Value st.root)
    row i k = value st (from past i).0 st.root (field_of st.root).nullable (slice_index (from past i).1 k)

    -- equally many rows, with equal values in equal order
    pub record SameRows (i j : ℕ) : Type 0 where
      pub many : rows past i ≡ rows past j
      pub values : (k : ℕ) → k < rows past i → row i k ≡ row j k

  -- a row of a batch, as the replies to Cell say
  abbrev pub read_back : Seen → (batch k : ℕ) → Got (Value st.root)
  read_back now i k = read (λ n slot. cell_from (now.reply (Cell i n slot))) now.page st.root k

  module _ (now : Seen) (past : Past) where
    -- space for the rows of some positions, all of which the rules take: within the limits, for the batch's bytes on the page, and for
    -- the child positions in the work list
    pub record Roomy (t : TapeView) (ps : List ℕ) (lent : ℕ) (own : List (Value st.root)) : Type 0 where
      pub taken : (i : ℕ) → i < length ps → takes st t (slice_index ps i) ≡ true
      pub are : rows_of st t ps ≡ got own
      pub few : length ps ≤ 65535
      pub short : lent ≤ 2 ^ 24
      pub another : length past < 64
      pub page : start_on now.page (length past) + length (bytes_of st own) ≤ st.size
      pub work : peak st t st.root (field_of st.root).nullable ps ≤ lent

    -- what holds of a shelf, by what is seen of it and by its past
    pub record Kept : Type 0 where
      -- two batches have equal bytes exactly where their rows are equal
      pub same_bytes : (i j : ℕ) → i < length past → j < length past → (batch_on now.page i ≡ batch_on now.page j) ↔ SameRows past i j
      -- each row has a value, and it is read back; behind the last row there is nothing
      pub reads_back : (i k : ℕ) → i < length past → k < rows past i → (v : Value st.root) × (row past i k ≡ got v) × (read_back now i k ≡ got v)
      pub end : (i k : ℕ) → i < length past → rows past i ≤ k → now.reply (Cell i 0 k) ≡ refuse not_there
      -- a list is refused exactly where one of its positions is refused alone, and where the rules do not take one
      pub refused_alone : (t : TapeView) (ps : List ℕ) (lent : ℕ) → SpaceEnough now t ps lent
          → Refused (now.reply (Shelve t ps lent)) ↔ ((i : ℕ) × (i < length ps) × Refused (now.reply (Shelve t (slice_index ps i ∷ []) lent)))
      pub refused_by_rules : (t : TapeView) (ps : List ℕ) (lent : ℕ) → (number_of (now.reply (Shelve t ps lent)) ≢ 4)
          → Refused (now.reply (Shelve t ps lent)) ↔ ((i : ℕ) × (i < length ps) × (takes st t (slice_index ps i) ≡ false))
      -- and where there is space, what the rules take is shelved
      pub shelves : (t : TapeView) (ps : List ℕ) (lent : ℕ) (own : List (Value st.root)) → NullFirst t → Roomy t ps lent own → now.reply (Shelve t ps lent) ≡ got (batch (length past))
      -- the numbers in the replies, and the cells, by the page alone
      pub shelved : (t : TapeView) (ps : List ℕ) (lent : ℕ) (r : Reply) → now.reply (Shelve t ps lent) ≡ got r → r ≡ batch (length past)
      pub torn : now.reply Torn ≡ refuse (slip 1 0 0)
      pub released : now.reply Release ≡ cond (length past == 0) (refuse not_there) (got (batch (length past - 1)))
      pub counted : now.reply Count ≡ got (counts (length past, st.size - start_on now.page (length past)))
      pub cells : (i n slot : ℕ) → now.reply (Cell i n slot) ≡ then (cell_on now.page (length past) i n slot) (λ c. got (cell c))
      -- the page: what does not change it, its size, and zeros behind the batches
      pub idle : (c : Call) → Idle c (now.reply c) → now.next c ≡ now.page
      pub stays : (c : Call) → FromOpened c → (i : ℕ) → i < length past → i < length (later past c (now.reply c)) → batch_on (now.next c) i ≡ batch_on now.page i
      pub size : length now.page ≡ st.size
      pub free : drop (start_on now.page (length past)) now.page ≡ replicate (st.size - start_on now.page (length past)) 0

    -- the buffers of a batch mean its rows, and they are laid out as the Format says
    pub record InFormat (i : ℕ) : Type 0 where
      pub many : (record_in (batch_on now.page i) 0).slots ≡ rows past i
      pub means : (k : ℕ) → k < rows past i → row past i k ≡ got (value_in st (column_in (batch_on now.page i)) st.root k)
      pub lies : LaidOut st (batch_on now.page i)
      pub filled : Filled st (column_in (batch_on now.page i)) st.root
      pub spelled : Spelled st (column_in (batch_on now.page i)) st.root
      -- ours: a batch begins at a multiple of 8
      pub aligned : start_on now.page i % 8 ≡ 0

-- the laws of every run: whatever the calls are, they hold when any of them, from none to all, are done
abbrev pub AlwaysKept : Type 0
AlwaysKept =
    (st : Setup) → WellFormed st.root → st.size ≤ 2 ^ 24 → (done left : List Call) → AllByRecursion FromOpened (done ++ left)
    → Kept st (seen st (run st [] done)) (history st [] [] done)

-- and every batch that is held then is in the Format
abbrev pub AlwaysInFormat : Type 0
AlwaysInFormat =
    (st : Setup) → WellFormed st.root → st.size ≤ 2 ^ 24 → (done left : List Call) → AllByRecursion FromOpened (done ++ left)
    → let past = history st [] [] done in (i : ℕ) → i < length past → InFormat st (seen st (run st [] done)) past i
