-- What entering, leaving and walking a node promise.
use Rattle.std.specs.Prelude.{◌≡◌, ℕ, ◌+◌, ◌*◌, ◌^◌, ◌<◌, ◌≤◌, Bool, true, List, [], ◌∷◌, length, IfOk, IfErr, Ok, Err, Result, slice_index}
use Rattle.slip.specs.declared.Fault.{Fault}
use Rattle.slip.specs.Slips.{answer_of, got}
use Rattle.octets.specs.Lists.{part}
use Rattle.tape.specs.Opened.{view_of}
use Rattle.tape.specs.View.{TapeView, is_position}
use Rattle.schema.specs.Tree.{Node, children_of, many}
use Rattle.schema.specs.Layout.{end_at}
use Rattle.schema.specs.Held.{Held}
use Rattle.schema.specs.Opened.{records_of, names_of}
use Rattle.schema.specs.declared.settings.Settings.{Settings}
use Rattle.leaf.specs.Meaning.{Meaning}
use Rattle.batch.specs.Values.{Setup}
use Rattle.batch.specs.Batch.{size_of}
use Rattle.columns.specs.Areas.{written, Blank}
use Rattle.rows.specs.Entering.{child_at, next_of}
use Rattle.rows.specs.declared.Entered.{Entered}
use Rattle.laws.specs.Shelf.{walk}
use Rattle.nodes.specs.declared.Frame.{Frame}
use Rattle.nodes.specs.declared.Visit.{Visit}
use Rattle.nodes.specs.Nodes.{own_of, items_in, entering, leaving, cols}

-- a shelf's setup with these settings and this custom leaf; a walk does not look at the rest
abbrev pub setup_of : Settings → Meaning → Node → ℕ → Setup
setup_of s m root size = record { settings = s; custom = m; root = root; size = size }

-- every one of these is a position
abbrev pub Positions : TapeView → List ℕ → Type 0
Positions t ps = (i : ℕ) → i < length ps → is_position t (slice_index ps i) ≡ true

-- what a visit of a node sees
pub record Seen : Type 0 where
  pub settings : Settings
  pub custom : Meaning
  pub tape : TapeView
  pub records : List ℕ
  pub names : List ℕ
  pub node : ℕ
  pub in_force : Bool
  pub positions : List ℕ

abbrev pub seen : {X : Type 0} → (X → Meaning) → Frame X → Visit → Seen
seen m frame visit =
    record {
      settings = frame.settings;
      custom = m frame.custom.now;
      tape = view_of visit.rows.tape;
      records = records_of frame.schema;
      names = names_of frame.schema;
      node = visit.node;
      in_force = visit.in_force;
      positions = visit.rows.positions.now;
    }

-- another node of the walk, as its visit sees it
abbrev pub visited : Seen → (node : ℕ) → (in_force : Bool) → (positions : List ℕ) → Seen
visited v node in_force positions = record v { node = node; in_force = in_force; positions = positions }

-- the place where an accepted walk ends
abbrev pub ends_at : ℕ → Result (Unit {0}) Fault → Result ℕ Fault
ends_at end (Ok x) = Ok end
ends_at end (Err y) = Err y

module _ (v : Seen) where
  abbrev pub setup_in : Node → ℕ → Setup
  setup_in root size = setup_of v.settings v.custom root size

  -- the records hold a tree at this node
  abbrev pub HeldHere : Node → Type 0
  HeldHere T = Held v.records v.names v.node T

  -- what is said of the tree that the records hold at this node, whatever the rest of the setup is
  abbrev pub OfTree : ((st : Setup) (T : Node) → Type 0) → Type 0
  OfTree P = (root : Node) (size : ℕ) (T : Node) → HeldHere T → P (setup_in root size) T

  -- what a walk starts from: a tree that the records hold, few positions, a work list, and an area that is blank from `top` on
  pub record Ready (work area : List ℕ) (top : ℕ) : Type 0 where
    pub formed : (T : Node) × HeldHere T
    pub few : length v.positions ≤ 2 ^ 24
    pub lent : length work ≤ 2 ^ 24
    pub apart : 32 * end_at v.records v.node ≤ top
    pub within : top ≤ length area
    pub page : length area ≤ 2 ^ 24
    pub blank : Blank area top

  -- what an entered node tells of its children, and leaves in the area and in the work list
  pub record Opened (st : Setup) (T : Node) (top : ℕ) (from to lent : List ℕ) (e : Entered) : Type 0 where
    pub kids : e.kids ≡ many (children_of T)
    pub stride : e.stride ≡ length (items_in st v.tape T v.in_force v.positions)
    pub next : e.next ≡ top + size_of (own_of st v.tape T v.in_force v.positions)
    pub fits : e.kids * e.stride ≤ length lent
    pub parts : (k : ℕ) → k < many (children_of T) → part lent (k * e.stride) e.stride ≡ child_at k (items_in st v.tape T v.in_force v.positions)
    pub positions : (i : ℕ) → i < e.kids * e.stride → is_position v.tape (slice_index lent i) ≡ true
    pub page : to ≡ written from v.node top (own_of st v.tape T v.in_force v.positions ∷ [])

  pub record Enters (top : ℕ) (from to work lent : List ℕ) (r : Result Entered Fault) : Type 0 where
    pub outcome : OfTree (λ st T. answer_of (next_of r) ≡ entering st v.tape (length from) (length work) T v.in_force v.positions top)
    pub content : IfOk r (λ e. OfTree (λ st T. Opened st T top from to lent e))
    pub unwritten : IfErr r (λ _. to ≡ from)

  -- the rows were accepted, and the children's positions lie in the list, so many for each
  pub record Lies (st : Setup) (T : Node) (stride : ℕ) (mine : List ℕ) : Type 0 where
    pub accepted : (next : ℕ) × (free : ℕ) × (left : ℕ) × (top : ℕ) × (entering st v.tape free left T v.in_force v.positions top ≡ got next)
    pub stride_is : stride ≡ length (items_in st v.tape T v.in_force v.positions)
    pub size : length mine ≡ many (children_of T) * stride
    pub parts : (k : ℕ) → k < many (children_of T) → part mine (k * stride) stride ≡ child_at k (items_in st v.tape T v.in_force v.positions)

  pub record Lying (stride : ℕ) (mine : List ℕ) : Type 0 where
    pub formed : (T : Node) × HeldHere T
    pub all : OfTree (λ st T. Lies st T stride mine)

  abbrev pub Leaves : Result (Unit {0}) Fault → Type 0
  Leaves r = OfTree (λ st T. answer_of r ≡ leaving st v.tape T v.in_force v.positions)

  -- the answer is what the rules say; an accepted walk has written the columns, and behind where a walk ends nothing is written
  pub record Walked (left : ℕ) (from to : List ℕ) (top end : ℕ) (r : Result (Unit {0}) Fault) : Type 0 where
    pub outcome : OfTree (λ st T. (work : ℕ) → answer_of (ends_at end r) ≡ walk st v.tape (length from) (work + left) T v.in_force v.positions top work)
    pub content : IfOk r (λ _. OfTree (λ st T. to ≡ written from v.node top (cols st v.tape T v.in_force v.positions)))
    pub blank : Blank to end
    pub within : end ≤ length to
