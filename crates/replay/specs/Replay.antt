-- The law of a list of calls on one new shelf.
use Rattle.std.specs.Prelude.{◌≡◌, ℕ, ◌%◌, ◌^◌, ◌<◌, ◌≤◌, min, ◌⊎◌, List, [], ◌∷◌, ◌++◌, map, length, take, drop, replicate, Ok, Err, Result, ◌≢◌}
use Rattle.slip.specs.declared.Fault.{Fault}
use Rattle.slip.specs.Slips.{Got, refuse, got, slip, slip_of}
use Rattle.schema.specs.Tree.{Node}
use Rattle.schema.specs.Opens.{Opens as Tree}
use Rattle.schema.specs.declared.settings.Settings.{Settings}
use Rattle.tape.specs.View.{TapeView, view}
use Rattle.tape.specs.Opens.{Untorn}
use Rattle.leaf.specs.Meaning.{Meaning}
use Rattle.batch.specs.Values.{Setup}
use Rattle.batch.specs.Cells.{cell_of}
use Rattle.laws.specs.Shelf.{Held, page}
use Rattle.laws.specs.Calls.{Call, Shelve, Torn, Cell, Release, Count, Reply, batch, cell, counts, answer, after, run}
use Rattle.laws.specs.History.{seen, history, Kept, InFormat}
use Rattle.nodes.specs.Contract.{setup_of}
use Rattle.shelf.specs.Shelves.{HoldsIn}
use Rattle.shelf.specs.declared.Shelf.{Shelf}
use Rattle.replay.specs.declared.Call.{Call as Line}
use Rattle.replay.specs.declared.Call.TheVariants.{Shelve as ShelveLine, Cell as CellLine, Release as ReleaseLine, Count as CountLine}
use Rattle.replay.specs.declared.TapeBytes.{TapeBytes}
use Rattle.replay.specs.declared.Answer.{Answer}
use Rattle.replay.specs.declared.Answer.TheVariants.{Batch, Cell as CellOf, Counts}

-- what an answer of the code says
abbrev pub said : Result Answer Fault → Got Reply
said (Ok (Batch n)) = got (batch n)
said (Ok (CellOf kind first second)) = got (cell (cell_of kind first second))
said (Ok (Counts batches free)) = got (counts (batches, free))
said (Err fault) = refuse (slip_of fault)

-- the bytes of a tape as a view
abbrev pub view_in : TapeBytes → TapeView
view_in tape = view tape.elements.now tape.texts.now tape.offsets.now

-- a Shelve from bytes: of their tape, or torn where they are none
abbrev pub ShelveFrom : TapeView → (positions : List ℕ) → (lent : ℕ) → Call → Type 0
ShelveFrom t ps lent call = (Untorn t × (call ≡ Shelve t ps lent)) ⊎ ((Untorn t → ⊥) × (call ≡ Torn))

-- the call that a line asks for, where the work list has so many entries
abbrev pub Asks : (work : ℕ) → Line → Call → Type 0
Asks work (ShelveLine tape ps lent) call = ShelveFrom (view_in tape) ps.now (min lent work) call
Asks work (CellLine i n slot) call = call ≡ Cell i n slot
Asks work ReleaseLine call = call ≡ Release
Asks work CountLine call = call ≡ Count

-- the calls that the lines ask for, one by one
abbrev pub AllAsk : (work : ℕ) → List Line → List Call → Type 0
AllAsk work [] [] = Unit {0}
AllAsk work [] (c ∷ cs) = ⊥
AllAsk work (l ∷ ls) [] = ⊥
AllAsk work (l ∷ ls) (c ∷ cs) = Asks work l c × AllAsk work ls cs

-- the answers, each by what is held when its call is made
abbrev pub replies : (st : Setup) → Held st → List Call → List (Got Reply)
replies st held [] = []
replies st held (c ∷ cs) = answer st held c ∷ replies st (after st held c) cs

-- what one call answers, and what is held after it
pub record Makes {X : Type 0} (st : Setup) (held : Held st) (shelf : Shelf X) (call : Call) (is : Got Reply) : Type 0 where
  pub answered : is ≡ answer st held call
  pub holds : HoldsIn st shelf (after st held call)

-- The law: the answers are the defined ones, the page is the defined one, and before the first call and after each all laws of runs hold
-- of what was asked and answered and of the bytes of the page.
pub record Law (st : Setup) (calls : List Call) (answers : List (Result Answer Fault)) (bytes : List ℕ) : Type 0 where
  pub answered : map said (take (length calls) answers) ≡ replies st [] calls
  pub page_is : bytes ≡ page st (run st [] calls)
  pub kept : (done left : List Call) → done ++ left ≡ calls → Kept st (seen st (run st [] done)) (history st [] [] done)
  pub in_format : (done left : List Call) → done ++ left ≡ calls → (i : ℕ) → i < length (history st [] [] done) → InFormat st (seen st (run st [] done)) (history st [] [] done) i

-- a tree, the calls that the lines ask for, and the law of them
pub record Replayed (s : Settings) (m : Meaning) (rs ns : List ℕ) (size work : ℕ) (lines : List Line) (answers : List (Result Answer Fault)) (bytes : List ℕ) : Type 0 where
  pub root : Node
  pub tree : Tree rs ns root
  pub calls : List Call
  pub asked : AllAsk work lines calls
  pub law : Law (setup_of s m root size) calls answers bytes

-- why there is no new shelf, the first reason first: no schema, too few places for the answers, no page
pub data NoShelf (rs ns : List ℕ) (size answers lines : ℕ) (f : Fault) : Type 0 where
  no_schema : slip_of f ≡ slip 2 0 0 → ((root : Node) → Tree rs ns root → ⊥) → NoShelf rs ns size answers lines f
  no_room : slip_of f ≡ slip 4 0 0 → (root : Node) → Tree rs ns root → answers < lines → NoShelf rs ns size answers lines f
  no_page : slip_of f ≡ slip 4 0 0 → (root : Node) → Tree rs ns root → lines ≤ answers → (size ≤ 2 ^ 24 → size % 8 ≢ 0) → NoShelf rs ns size answers lines f

-- All lines are replayed, further places for answers stay, and the work list is all zeros; or nothing is done, and page, work list and
-- answers stay.
abbrev pub Replays : Settings → Meaning → (rs ns from to work left : List ℕ) → List Line → (before answers : List (Result Answer Fault)) → Result (Unit {0}) Fault → Type 0
Replays s m rs ns from to work left lines before answers (Ok x) =
    Replayed s m rs ns (length from) (length work) lines answers to
    × (drop (length lines) answers ≡ drop (length lines) before)
    × (left ≡ replicate (length work) 0)
Replays s m rs ns from to work left lines before answers (Err f) =
    NoShelf rs ns (length from) (length before) (length lines) f × (to ≡ from) × (left ≡ work) × (answers ≡ before)
