-- What a shelf holds, by its fields.
use Rattle.std.specs.Prelude.{◌≡◌, ℕ, ◌-◌, ◌*◌, ◌^◌, ◌<◌, ◌≤◌, ◌⊎◌, List, length, take}
use Rattle.slip.specs.Slips.{Got, refuse, slip, then}
use Rattle.schema.specs.Tree.{Node}
use Rattle.schema.specs.Opened.{size_of}
use Rattle.batch.specs.Values.{Setup}
use Rattle.laws.specs.Shelf.{Held}
use Rattle.laws.specs.Calls.{Call}
use Rattle.nodes.specs.Contract.{setup_of}
use Rattle.leaf.specs.Meaning.{Meaning}
use Rattle.shelf.specs.Standing.{start_in, cleared_from, Holds, Standing, Does}
use Rattle.shelf.specs.declared.Shelf.{Shelf}

-- a shelf holds these
abbrev pub HoldsIn : {X : Type 0} (st : Setup) → Shelf X → Held st → Type 0
HoldsIn st shelf held = Holds st shelf.schema shelf.page.now shelf.ends.items held

-- what a call that may change it answers, and what it holds after
abbrev pub DoesIn : {X : Type 0} (st : Setup) (held : Held st) → Shelf X → Call → (answer is : Got ℕ) → Type 0
DoesIn st held shelf call answer is = Does st held shelf.schema shelf.page.now shelf.ends.items call answer is

-- where what is free of its page begins
abbrev pub free_from : {X : Type 0} → Shelf X → ℕ
free_from shelf = start_in shelf.ends.items (length shelf.ends.items)

-- the bytes of its page, once what is free is cleared
abbrev pub swept : {X : Type 0} → Shelf X → List ℕ
swept shelf = cleared_from shelf.page.now (free_from shelf)

-- how many bytes its page has, how many of them are free, and how many batches it keeps
abbrev pub page_size : {X : Type 0} → Shelf X → ℕ
page_size shelf = length shelf.page.now

abbrev pub left : {X : Type 0} → Shelf X → ℕ
left shelf = page_size shelf - free_from shelf

abbrev pub kept : {X : Type 0} → Shelf X → ℕ
kept shelf = length shelf.ends.items

-- how many nodes its schema has
abbrev pub nodes_in : {X : Type 0} → Shelf X → ℕ
nodes_in shelf = size_of shelf.schema

-- a shelf holds these, once what is free of its page is cleared
abbrev pub HoldsSwept : {X : Type 0} (st : Setup) → Shelf X → Held st → Type 0
HoldsSwept st shelf held = Holds st shelf.schema (swept shelf) shelf.ends.items held

-- so many positions and entries of a work list may come, there may be another batch, and its records have space
pub record Room {X : Type 0} (shelf : Shelf X) (positions lent : ℕ) : Type 0 where
  pub positions_few : positions ≤ 65535
  pub lent_few : lent ≤ 2 ^ 24
  pub another : kept shelf < 64
  pub records : 32 * nodes_in shelf ≤ left shelf

-- by the meaning of its custom leaf
module _ {X : Type 0} (m : X → Meaning) (shelf : Shelf X) where
  -- its setup, by the tree of its schema and the bytes of its page
  abbrev pub setup_in : (root : Node) → (size : ℕ) → Setup
  setup_in root size = setup_of shelf.settings (m shelf.custom.now) root size

  -- there is something that it holds, be it nothing
  abbrev pub Stands : Type 0
  Stands = Standing shelf.settings (m shelf.custom.now) shelf.schema shelf.page.now shelf.ends.items

  -- what is said of whatever it holds
  abbrev pub OfHeld : ((st : Setup) → Held st → Type 0) → Type 0
  OfHeld P = (root : Node) (size : ℕ) (held : Held (setup_in root size)) → HoldsIn (setup_in root size) shelf held → P (setup_in root size) held

  -- what is said of whatever it holds once what is free of its page is cleared
  abbrev pub OfSwept : ((st : Setup) → Held st → Type 0) → Type 0
  OfSwept P = (root : Node) (size : ℕ) (held : Held (setup_in root size)) → HoldsSwept (setup_in root size) shelf held → P (setup_in root size) held

-- a call keeps the page, the schema, the settings and the custom leaf
pub record Keeps {X : Type 0} (old new : Shelf X) : Type 0 where
  pub page : new.page.ghost_name ≡ old.page.ghost_name
  pub schema : new.schema ≡ old.schema
  pub settings : new.settings ≡ old.settings
  pub custom : new.custom ≡ old.custom

-- a refused call leaves the batches, and the page as it was, or with what is free cleared
pub record Refused {X : Type 0} (old new : Shelf X) : Type 0 where
  pub batches : new.ends.items ≡ old.ends.items
  pub page : (new.page.now ≡ old.page.now) ⊎ (new.page.now ≡ swept old)

-- the newest batch goes, if there is one, and those before it stay
abbrev pub Freed : {X : Type 0} (old new : Shelf X) → Type 0
Freed old new = new.ends.items ≡ take (kept old - 1) old.ends.items

-- on a page that does not fit, no batch is added and no byte is written: a bad position is refused, and then the page is full
pub record Unfit {X : Type 0} (old new : Shelf X) (bad : Got (Unit {0})) (is : Got ℕ) : Type 0 where
  pub answered : is ≡ then bad (λ _. refuse (slip 4 0 0))
  pub batches : new.ends.items ≡ old.ends.items
  pub page : new.page.now ≡ old.page.now
