-- The laws of a whole batch.
use Rattle.std.proofs.Common.{◌≡◌, ℕ, zero, suc, ◌+◌, ◌*◌, ◌^◌, ◌<◌, ◌≤◌, Bool, true, false, cond, ltb, List, [], ◌∷◌, ◌++◌, map, length, get_or, take, drop, sym, refl, ap, ◌∙◌, zero-add, arith, drop-drop}
use lib.ListN.{length-map}
use lib.Seq.{take-length}
use Rattle.std.specs.List.{AllByRecursion}
use Rattle.std.proofs.lemmas.List.{append-nil, get_or-map}
use Rattle.std.proofs.ByRecursion.{All-append}
use Rattle.std.proofs.lemmas.Bool.{lt-ltb, le-ltb}
use Rattle.octets.specs.Lists.{part, between, sum}
use Rattle.octets.specs.Numbers.{number}
use Rattle.octets.proofs.Pieces.{part_in}
use Rattle.schema.specs.Tree.{Node, Fields, branch, leaf, ◌⊕◌, nodes, WellFormed}
use Rattle.slip.specs.Slips.{Got, refuse, got, not_there}
use Rattle.batch.specs.Values.{Setup, Value, Item, meaning}
use Rattle.batch.specs.Format.{Column, text_width, value_in, Placed}
use Rattle.batch.specs.Batch.{columns, columns_in, size_of, bytes_of, word_in, record_in, column_in, took_in, InOrder}
use Rattle.batch.specs.Cells.{Cell, cell_in, batch_cell, read}
use Rattle.batch.specs.Laws.{Holdable, rows_in, BatchesInFormat, BatchesFilled, BatchesReadBack, SameBytes, WholeWords}
use Rattle.batch.proofs.Records.{all_stored, stored_at, all_ordered, total, total_even, length-batch, AllStored}
use Rattle.batch.proofs.Columns.{branch_slots, leaf_slots, length-columns}
use Rattle.batch.proofs.Back.{Gives, map-between, each-between, Back, back, slots_are}
use Rattle.batch.proofs.Layouts.{laid}
use Rattle.batch.proofs.Filled.{filled_is}

pub map-take : {A B : Type 0} (f : A → B) (n : ℕ) (xs : List A) → map f (take n xs) ≡ take n (map f xs)
map-take f zero xs = refl
map-take f (suc n) [] = refl
map-take f (suc n) (x ∷ xs) = ap (λ r. f x ∷ r) (map-take f n xs)

all_pair : {A : Type 0} (P Q : A → Type 0) (xs : List A) → AllByRecursion P xs → AllByRecursion Q xs → AllByRecursion (λ x. P x × Q x) xs
all_pair P Q [] p q = tt
all_pair P Q (x ∷ xs) p q = ((p.0, q.0), all_pair P Q xs p.1 q.1)

-- no column has more nulls than slots
abbrev Sparse : Column → Type 0
Sparse c = c.nulls ≤ c.slots

module _ (st : Setup) where
  mutual
    sparse : (c : Node) (os : List (Value c)) → AllByRecursion Sparse (columns st c os)
    sparse (branch f b cs) os = let n = branch_slots b os in (omega (arith, n), sparse_in cs _)
    sparse (leaf f k) os = let n = leaf_slots (meaning st k).layout (text_width k) os in (omega (arith, n), tt)

    sparse_in : (cs : Fields) (is : List (Item cs)) → AllByRecursion Sparse (columns_in st cs is)
    sparse_in Fields.none is = tt
    sparse_in (c ⊕ cs) is =
        All-append Sparse (columns st c (map (λ i. i.0) is)) (columns_in st cs (map (λ i. i.1) is)) (sparse c (map (λ i. i.0) is)) (sparse_in cs (map (λ i. i.1) is))

module _ (st : Setup) (rows : List (Value st.root)) (h : Holdable st rows) where
  pub stored : AllStored (bytes_of st rows) 0 (columns st st.root rows)
  stored =
      all_stored (columns st st.root rows) (omega (arith, h.short))
      (all_pair Sparse (λ c. c.slots < 2 ^ 31) (columns st st.root rows) (sparse st st.root rows) h.few)

  pub count_is : word_in (bytes_of st rows) 0 0 ≡ length rows
  count_is = (slots_are st (bytes_of st rows) st.root rows 0 stored).0

pub at_root : (root : Node) → drop 0 (nodes root) ≡ nodes root ++ []
at_root root = sym (append-nil (nodes root))

module _ (st : Setup) (well : WellFormed st.root) (rows : List (Value st.root)) (h : Holdable st rows) where
  -- rows by the meaning of the buffers, and through any cells that answer from them
  pub both : (page : List ℕ) (base : ℕ) → length page < 2 ^ 64 → part page base (length (bytes_of st rows)) ≡ bytes_of st rows → (ask : ℕ → ℕ → Got Cell)
      → ((n k : ℕ) → n < length (nodes st.root) → k < word_in (bytes_of st rows) n 0
      → ask n k ≡ got (cell_in st base (bytes_of st rows) n (get_or (nodes st.root) n st.root) k))
      → Back (value_in st (column_in (bytes_of st rows)) st.root) (read ask page st.root) rows
  both page base room lie ask asks =
      back st well page base (bytes_of st rows) lie (omega (arith, h.short)) room ask asks st.root 0 [] (at_root st.root) rows h.sized (stored st rows h)

  pub means_at : (k : ℕ) (d : Value st.root) → k < length rows → value_in st (column_in (bytes_of st rows)) st.root k ≡ get_or rows k d
  means_at k d l =
      let bytes = bytes_of st rows in
      (both bytes 0 (omega (arith, h.short)) (take-length bytes) (λ n slot. got (cell_in st 0 bytes n (get_or (nodes st.root) n st.root) slot)) (λ n k h l. refl)).gives k d l

  pub rows-from : rows_in st (bytes_of st rows) ≡ rows
  rows-from =
      let bytes = bytes_of st rows in
      ap (λ n. map (value_in st (column_in bytes) st.root) (between 0 n)) (count_is st rows h)
      ∙ map-between (value_in st (column_in bytes) st.root) rows means_at 0 (length rows) (omega arith)
      ∙ take-length rows

  -- how far a batch goes, by its records on a page
  module _ (page : List ℕ) (base : ℕ) (lie : part page base (length (bytes_of st rows)) ≡ bytes_of st rows) where
    same_record : (n j : ℕ) → n < length (nodes st.root) → j < 8 → word_in (drop base page) n j ≡ word_in (bytes_of st rows) n j
    same_record n j h l =
        ap (λ xs. number (take 4 xs)) (drop-drop (32 * n + 4 * j) base page)
        ∙ ap number (part_in page (bytes_of st rows) base (length (bytes_of st rows)) (32 * n + 4 * j) 4 lie
        (omega (arith, length-batch (columns st st.root rows), length-columns st st.root rows)))

    gives_sizes : Gives (took_in (drop base page)) (map size_of (columns st st.root rows))
    gives_sizes n d g =
        let cols = columns st st.root rows in
        let l : n < length cols = rw length-map at g in
        let m : n < length (nodes st.root) = omega (arith, length-columns st st.root rows) in
        let c : Column = record { slots = 0; nulls = 0; validity = []; offsets = []; bytes = [] } in
        rw (same_record n 3 m (omega arith), same_record n 5 m (omega arith), same_record n 7 m (omega arith))
        (rw (zero-add n) at (stored_at (bytes_of st rows) cols 0 n c (stored st rows h) l).sizes ∙ sym (get_or-map size_of cols n c d l))

    took_is : (n : ℕ) → n ≤ length (nodes st.root) → sum (map (took_in (drop base page)) (between 0 n)) ≡ total (take n (columns st st.root rows))
    took_is n g =
        let cols = columns st st.root rows in
        ap sum (map-between (took_in (drop base page)) (map size_of cols) gives_sizes 0 n (omega (arith, length-map cols size_of, length-columns st st.root rows)) ∙ sym (map-take size_of n cols))

    pub extent_is : 32 * length (nodes st.root) + sum (map (took_in (drop base page)) (between 0 (length (nodes st.root)))) ≡ length (bytes_of st rows)
    extent_is =
        let cols = columns st st.root rows in
        let many : length cols ≡ length (nodes st.root) = length-columns st st.root rows in
        let took : sum (map (took_in (drop base page)) (between 0 (length (nodes st.root)))) ≡ total cols =
        took_is (length (nodes st.root)) (omega arith) ∙ ap (λ n. total (take n cols)) (sym many) ∙ ap total (take-length cols) in
        omega (arith, took, length-batch cols, many)

  ordered_is : (n : ℕ) → n < length (nodes st.root) → InOrder (record_in (bytes_of st rows) n) (32 * length (nodes st.root) + sum (map (took_in (bytes_of st rows)) (between 0 n)))
  ordered_is n g =
      let cols = columns st st.root rows in
      let many : length cols ≡ length (nodes st.root) = length-columns st st.root rows in
      rw (took_is (bytes_of st rows) 0 (take-length (bytes_of st rows)) n (omega arith), ← many)
      (all_ordered cols (omega (arith, h.short)) n (omega (arith, many)))

  placed_is : (n : ℕ) → n < length (nodes st.root) →
      let b = bytes_of st rows in
      let r = word_in b n in Placed b (r 2) (r 3) × Placed b (r 4) (r 5) × Placed b (r 6) (r 7)
  placed_is n l =
      let cols = columns st st.root rows in
      let c : Column = record { slots = 0; nulls = 0; validity = []; offsets = []; bytes = [] } in
      rw (zero-add n) at (stored_at (bytes_of st rows) cols 0 n c (stored st rows h) (rw (length-columns st st.root rows) l)).placed

pub batches_in_format : BatchesInFormat
batches_in_format st well rows h = record {
  many = count_is st rows h;
  means = rows-from st well rows h;
  lies = record {
    laid = laid st well (bytes_of st rows) (omega (arith, h.short)) st.root 0 [] (at_root st.root) rows h.sized (stored st rows h);
    placed = placed_is st well rows h;
    ordered = ordered_is st well rows h;
    whole = sym (extent_is st well rows h (bytes_of st rows) 0 (take-length (bytes_of st rows)));
  };
}

pub batches_filled : BatchesFilled
batches_filled st well rows h full =
    filled_is st well (bytes_of st rows) (omega (arith, h.short)) st.root 0 [] (at_root st.root) rows h.sized full (stored st rows h)

-- what is there is got
pub cell-there : (st : Setup) (base : ℕ) (bytes : List ℕ) (n k : ℕ) → n < length (nodes st.root) → k < word_in bytes n 0
    → batch_cell st base bytes n k ≡ got (cell_in st base bytes n (get_or (nodes st.root) n st.root) k)
cell-there st base bytes n k l m = rw (lt-ltb n (length (nodes st.root)) l, lt-ltb k (word_in bytes n 0) m)

-- behind the last slot there is nothing
pub cell_past : (st : Setup) (base : ℕ) (bytes : List ℕ) (n k : ℕ) → word_in bytes n 0 ≤ k → batch_cell st base bytes n k ≡ refuse not_there
cell_past st base bytes n k m = rw (le-ltb k (word_in bytes n 0) m) (go (ltb n (length (nodes st.root))))
  where
    none : Got Cell
    none = refuse not_there

    go : (b : Bool) → cond b none none ≡ none
    go true = refl
    go false = refl

pub batches_read_back : BatchesReadBack
batches_read_back st well rows h page base room lie =
    let bytes = bytes_of st rows in
    let ask = batch_cell st base bytes in
    record {
      reads =
          each-between (read ask page st.root) rows (both st well rows h page base room lie ask (cell-there st base bytes)).reads 0 (length rows) (omega arith)
          ∙ ap got (take-length rows);
      end = λ k l. cell_past st base bytes 0 k (rw (count_is st rows h) l);
    }

pub same_bytes : SameBytes
same_bytes st well xs ys g h = (
  λ e. sym (rows-from st well xs g) ∙ ap (rows_in st) e ∙ rows-from st well ys h,
  λ e. ap (bytes_of st) e,
)

pub whole_words : WholeWords
whole_words st rows = let cols = columns st st.root rows in omega (arith, length-batch cols, total_even cols)
