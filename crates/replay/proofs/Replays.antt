-- Calls, one after another.
use Rattle.std.proofs.Common.{◌≡◌, ℕ, ◌+◌, ◌<◌, ◌≤◌, min, Result, List, [], ◌∷◌, ◌++◌, map, length, take, drop, set, sym, refl, ap, ◌∙◌, subst, ap₂, inl, inr, arith, take_all, drop-drop, drop-set-lt}
use Rattle.std.specs.List.{AllByRecursion}
use Rattle.std.proofs.lemmas.List.{map-append, take_more_set}
use Rattle.slip.specs.declared.Fault.{Fault}
use Rattle.slip.specs.Slips.{Slip, Got, refuse, got, then}
use Rattle.schema.specs.Tree.{Node}
use Rattle.schema.specs.Opens.{Opens as Tree}
use Rattle.schema.specs.declared.settings.Settings.{Settings}
use Rattle.schema.proofs.Nodes.{all_formed}
use Rattle.tape.specs.View.{TapeView}
use Rattle.tape.specs.Opens.{Untorn}
use Rattle.leaf.specs.Meaning.{Meaning}
use Rattle.batch.specs.Values.{Setup, Value}
use Rattle.batch.specs.Cells as Batch
use Rattle.batch.specs.Cells.{cell_of, triple}
use Rattle.laws.specs.Shelf.{Held, shelve}
use Rattle.laws.specs.Calls.{Call, Shelve, batch, cell, answer, after, run}
use Rattle.laws.specs.History.{FromOpened}
use Rattle.laws.proofs.Past.{always_kept_lem, always_in_format_lem}
use Rattle.nodes.specs.Contract.{setup_of}
use Rattle.shelf.specs.Shelves.{HoldsIn, Stands, DoesIn, Keeps}
use Rattle.replay.specs.Replay.{said, ShelveFrom, Asks, AllAsk, replies, Makes, Replayed}
use Rattle.shelf.specs.declared.Shelf.{Shelf}
use Rattle.shelf.proofs.Holding.{page_size}
use Rattle.replay.specs.declared.Call.{Call as Line}
use Rattle.replay.specs.declared.Call.TheVariants.{Shelve as ShelveLine, Cell as CellLine, Release as ReleaseLine, Count as CountLine}
use Rattle.replay.specs.declared.Answer.{Answer}

-- a Shelve of an opened tape
module _ {X : Type 0} (st : Setup) (held : Held st) (shelf : Shelf X) (v : TapeView) (ps : List ℕ) (lent : ℕ) where
  pub shelved : (t : TapeView) (r : Got ℕ) → Untorn t → t ≡ v → DoesIn st held shelf (Shelve t ps lent) (shelve st held t ps lent) r
      → (call : Call) × ShelveFrom v ps lent call × Makes st held shelf call (then r (λ n. got (batch n)))
  shelved t r o e d = (
    Shelve v ps lent,
    inl (subst Untorn e o, refl),
    record {
      answered = ap (λ (m : Got ℕ). then m (λ n. got (batch n))) (d.answered ∙ ap (λ u. shelve st held u ps lent) e);
      holds = subst (λ u. HoldsIn st shelf (after st held (Shelve u ps lent))) e d.holds;
    },
  )

-- no more is lent than there is
pub lent_is : (lent work n : ℕ) → n ≡ min lent work → min n work ≡ min lent work
lent_is lent work n e = omega arith

-- a tree of equal records and names
pub tree_as : {rs ns rs' ns' : List ℕ} {root : Node} → rs ≡ rs' → ns ≡ ns' → Tree rs ns root → Tree rs' ns' root
tree_as {rs} {ns} {rs'} {ns'} {root} e q t = subst (λ r. Tree r ns' root) e (subst (λ n. Tree rs n root) q t)

-- the three numbers of a cell are the cell
pub cell_said : (m : Got Batch.Cell) (k a b : ℕ) → got (k, a, b) ≡ then m (λ c. got (triple c)) → got (cell (cell_of k a b)) ≡ then m (λ c. got (cell c))
cell_said (refuse s) k a b e = absurd (let z : ◌≡◌ {A = ℕ} 0 1 = cc in omega arith)
cell_said (got c) k a b e =
    let t : (k, a, b) ≡ triple c = cc in
    ap (λ (x : ℕ × ℕ × ℕ). got (cell (cell_of x.0 x.1 x.2))) t

pub cell_refused : (m : Got Batch.Cell) (s : Slip) → refuse s ≡ then m (λ c. got (triple c)) → refuse s ≡ then m (λ c. got (cell c))
cell_refused (refuse r) s e = cc
cell_refused (got c) s e = absurd (let z : ◌≡◌ {A = ℕ} 0 1 = cc in omega arith)

-- one more call
pub ask_more : (work : ℕ) (ls : List Line) (cs : List Call) (l : Line) (c : Call) → AllAsk work ls cs → Asks work l c → AllAsk work (ls ++ (l ∷ [])) (cs ++ (c ∷ []))
ask_more work [] [] l c h a = (a, tt)
ask_more work [] (d ∷ cs) l c h a = absurd h
ask_more work (k ∷ ls) [] l c h a = absurd h
ask_more work (k ∷ ls) (d ∷ cs) l c h a = (h.0, ask_more work ls cs l c h.1 a)

pub asked_many : (work : ℕ) (ls : List Line) (cs : List Call) → AllAsk work ls cs → length cs ≡ length ls
asked_many work [] [] h = refl
asked_many work [] (c ∷ cs) h = absurd h
asked_many work (l ∷ ls) [] h = absurd h
asked_many work (l ∷ ls) (c ∷ cs) h = omega (arith, asked_many work ls cs h.1)

-- a tape that is shelved was opened
one_opened : (work : ℕ) (l : Line) (c : Call) → Asks work l c → FromOpened c
one_opened work (ShelveLine tape ps lent) c (inl (o, e)) = subst FromOpened (sym e) o
one_opened work (ShelveLine tape ps lent) c (inr (none, e)) = subst FromOpened (sym e) tt
one_opened work (CellLine i n slot) c e = subst FromOpened (sym e) tt
one_opened work ReleaseLine c e = subst FromOpened (sym e) tt
one_opened work CountLine c e = subst FromOpened (sym e) tt

pub all_opened : (work : ℕ) (ls : List Line) (cs : List Call) → AllAsk work ls cs → AllByRecursion FromOpened cs
all_opened work [] [] h = tt
all_opened work [] (c ∷ cs) h = absurd h
all_opened work (l ∷ ls) [] h = absurd h
all_opened work (l ∷ ls) (c ∷ cs) h = (one_opened work l c h.0, all_opened work ls cs h.1)

module _ (st : Setup) where
  pub run_more : (held : Held st) (cs : List Call) (c : Call) → run st held (cs ++ (c ∷ [])) ≡ after st (run st held cs) c
  run_more held [] c = refl
  run_more held (d ∷ cs) c = run_more (after st held d) cs c

  pub replies_more : (held : Held st) (cs : List Call) (c : Call) → replies st held (cs ++ (c ∷ [])) ≡ replies st held cs ++ (answer st (run st held cs) c ∷ [])
  replies_more held [] c = refl
  replies_more held (d ∷ cs) c = ap (λ r. answer st held d ∷ r) (replies_more (after st held d) cs c)

-- what is known after i calls
pub record Sofar {X : Type 0} (m : X → Meaning) (s : Settings) (x : X) (rs ns : List ℕ) (size work : ℕ) (shelf : Shelf X) (lines : List Line) (answers before : List (Result Answer Fault)) (i : ℕ) : Type 0 where
  pub root : Node
  pub tree : Tree rs ns root
  pub calls : List Call
  pub asked : AllAsk work (take i lines) calls
  pub answered : map said (take i answers) ≡ replies (setup_of s (m x) root size) [] calls
  pub holds : HoldsIn (setup_of s (m x) root size) shelf (run (setup_of s (m x) root size) [] calls)
  pub settings_are : shelf.settings ≡ s
  pub custom_is : shelf.custom.now ≡ x
  pub rest : drop i answers ≡ drop i before

-- before the first call
pub begun : {X : Type 0} (m : X → Meaning) (s : Settings) (x : X) (rs ns : List ℕ) (size work : ℕ) (shelf : Shelf X) (lines : List Line) (answers : List (Result Answer Fault)) (root : Node)
    → Tree rs ns root → HoldsIn (setup_of s (m x) root size) shelf [] → shelf.settings ≡ s → shelf.custom.now ≡ x
    → Sofar m shelf.settings x rs ns (length shelf.page.now) work shelf lines answers answers 0
begun m s x rs ns size work shelf lines answers root tree h same own = record {
  root = root;
  tree = tree;
  calls = [];
  asked = tt;
  answered = refl;
  holds = subst (λ n. HoldsIn (setup_of shelf.settings (m x) root n) shelf []) (sym (page_size h))
      (subst (λ t. HoldsIn (setup_of t (m x) root size) shelf []) (sym same) h);
  settings_are = refl;
  custom_is = own;
  rest = refl;
}

module _ {X : Type 0} {m : X → Meaning} {s : Settings} {x : X} {rs ns : List ℕ} {size work : ℕ} {shelf : Shelf X} {lines : List Line} {answers before : List (Result Answer Fault)} {i : ℕ} (f : Sofar m s x rs ns size work shelf lines answers before i) where
  abbrev own : List (List (Value f.root))
  own = run (setup_of s (m x) f.root size) [] f.calls

  pub holds-own : HoldsIn (setup_of shelf.settings (m shelf.custom.now) f.root size) shelf own
  holds-own =
      subst (λ y. HoldsIn (setup_of shelf.settings (m y) f.root size) shelf own) (sym f.custom_is)
      (subst (λ t. HoldsIn (setup_of t (m x) f.root size) shelf own) (sym f.settings_are) f.holds)

  pub stands : Stands m shelf
  stands = (f.root, size, own, holds-own)

  module _ (next : Shelf X) (line : Line) (a : Result Answer Fault) (made : Call) where
    makes_own : Makes (setup_of shelf.settings (m shelf.custom.now) f.root size) own next made (said a) → Makes (setup_of s (m x) f.root size) own next made (said a)
    makes_own h =
        subst (λ t. Makes (setup_of t (m x) f.root size) own next made (said a)) f.settings_are
        (subst (λ y. Makes (setup_of shelf.settings (m y) f.root size) own next made (said a)) f.custom_is h)

    pub one_more : i < length lines → i < length answers → take (i + 1) lines ≡ take i lines ++ (line ∷ []) → Keeps shelf next → Asks work line made → Makes (setup_of shelf.settings (m shelf.custom.now) f.root size) own next made (said a)
        → Sofar m s x rs ns size work next lines (set answers i a) before (i + 1)
    one_more l k read same ask h =
        let st = setup_of s (m x) f.root size in
        let w = makes_own h in
        let now-answers : take (i + 1) (set answers i a) ≡ take i answers ++ (a ∷ []) = take_more_set answers i a k in
        record {
          root = f.root;
          tree = f.tree;
          calls = f.calls ++ (made ∷ []);
          asked = subst (λ ls. AllAsk work ls (f.calls ++ (made ∷ []))) (sym read) (ask_more work (take i lines) f.calls line made f.asked ask);
          answered = ap (map said) now-answers ∙ map-append said (take i answers) (a ∷ [])
              ∙ ap₂ (λ xs y. xs ++ (y ∷ [])) f.answered w.answered ∙ sym (replies_more st [] f.calls made);
          holds = subst (λ l. HoldsIn st next l) (sym (run_more st [] f.calls made)) w.holds;
          settings_are = same.settings ∙ f.settings_are;
          custom_is = ap (λ r. r.now) same.custom ∙ f.custom_is;
          rest = drop-set-lt (i + 1) answers i a (omega arith) ∙ sym (drop-drop 1 i answers) ∙ ap (drop 1) f.rest ∙ drop-drop 1 i before;
        }

  -- after the last call
  pub all_done : length lines ≤ i → i ≡ length lines → Replayed s (m x) rs ns size work lines answers shelf.page.now × (drop (length lines) answers ≡ drop (length lines) before)
  all_done l exact =
      let st = setup_of s (m x) f.root size in
      let whole : take i lines ≡ lines = take_all i lines l in
      let asked : AllAsk work lines f.calls = subst (λ ls. AllAsk work ls f.calls) whole f.asked in
      let many : length f.calls ≡ length lines = asked_many work lines f.calls asked in
      let opened = all_opened work lines f.calls asked in
      let well = all_formed rs ns f.root f.tree in (
        record {
          root = f.root;
          tree = f.tree;
          calls = f.calls;
          asked = asked;
          law = record {
            answered = ap (λ n. map said (take n answers)) (many ∙ sym exact) ∙ f.answered;
            page_is = f.holds.lies;
            kept = λ done left e. always_kept_lem st well f.holds.small done left (subst (AllByRecursion FromOpened) (sym e) opened);
            in_format = λ done left e. always_in_format_lem st well f.holds.small done left (subst (AllByRecursion FromOpened) (sym e) opened);
          };
        },
        ap (λ n. drop n answers) (sym exact) ∙ f.rest ∙ ap (λ n. drop n before) exact,
      )
