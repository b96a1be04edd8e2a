-- What a page holds, and what the calls on it promise.
use Rattle.std.specs.Prelude.{◌≡◌, ℕ, ◌+◌, ◌-◌, ◌*◌, ◌%◌, ◌^◌, ◌<◌, ◌≤◌, false, cond, List, length, take, replicate, IfOk, IfErr, Ok, Err, Result, ◌==◌, ◌≢◌, slice_index}
use Rattle.slip.specs.declared.Fault.{Fault}
use Rattle.slip.specs.Slips.{Got, got, answer_of, slip, slip_of}
use Rattle.octets.specs.Lists.{splice}
use Rattle.schema.specs.Tree.{Node, field_of, nodes}
use Rattle.schema.specs.declared.kind.Kind.{Kind}
use Rattle.schema.specs.declared.kind.LeafKind.{LeafKind}
use Rattle.schema.specs.declared.settings.Settings.{Settings}
use Rattle.schema.specs.Opened.{TreeOf}
use Rattle.schema.specs.declared.Schema.{Schema}
use Rattle.tape.specs.View.{TapeView}
use Rattle.leaf.specs.Meaning.{Meaning}
use Rattle.leaf.specs.declared.layout.Layout.{Layout}
use Rattle.leaf.specs.declared.layout.Layout.TheVariants.{None, Bit, Text}
use Rattle.batch.specs.Values.{Setup, Value}
use Rattle.batch.specs.Batch.{bytes_of}
use Rattle.batch.specs.Cells.{branch_shape}
use Rattle.batch.specs.declared.cell.Shape.{Shape}
use Rattle.batch.specs.declared.cell.Shape.TheVariants.{Leaf}
use Rattle.laws.specs.Shelf.{Held, walk, page, used, rows_of}
use Rattle.laws.specs.Calls.{Call, after}
use Rattle.nodes.specs.Contract.{setup_of}

-- where batch i begins, by the ends of those before it
abbrev pub start_in : (ends : List ℕ) → ℕ → ℕ
start_in ends i = cond (i == 0) 0 (slice_index ends (i - 1))

-- a page under this schema, on which batches have these ends, holds these
pub record Holds (st : Setup) (schema : Schema) (bytes ends : List ℕ) (held : Held st) : Type 0 where
  pub tree : TreeOf schema st.root
  pub lies : bytes ≡ page st held
  pub inside : used st held ≤ st.size
  pub small : st.size ≤ 2 ^ 24
  pub whole : st.size % 8 ≡ 0
  pub many : length ends ≡ length held
  pub few : length held ≤ 64
  pub ended : (i : ℕ) → i < length held → slice_index ends i ≡ used st (take (i + 1) held)

-- there is something that it holds, be it nothing
abbrev pub Standing : Settings → Meaning → Schema → (bytes ends : List ℕ) → Type 0
Standing s m schema bytes ends = (root : Node) × (size : ℕ) × (held : Held (setup_of s m root size)) × Holds (setup_of s m root size) schema bytes ends held

-- the length of a page that a shelf may have: at most 2^24 bytes, a multiple of 8
abbrev pub Fits : (size : ℕ) → Type 0
Fits size = (size ≤ 2 ^ 24) × (size % 8 ≡ 0)

-- a page that is cleared from a place on
abbrev pub cleared_from : (bytes : List ℕ) → (from : ℕ) → List ℕ
cleared_from bytes from = splice bytes from (replicate (length bytes - from) 0)

-- zeros lie on a page from a place on
abbrev pub ZerosFrom : (bytes : List ℕ) → (from : ℕ) → Type 0
ZerosFrom bytes from = bytes ≡ cleared_from bytes from

-- a page on which a shelf can begin: at most 2^24 bytes, a multiple of 8, all zeros
pub record Fresh (bytes : List ℕ) : Type 0 where
  pub small : length bytes ≤ 2 ^ 24
  pub whole : length bytes % 8 ≡ 0
  pub zeros : bytes ≡ replicate (length bytes) 0

-- a page of at most 2^24 bytes, a multiple of 8, is cleared; another is refused as it is
abbrev pub Cleared : (from to : List ℕ) → Result (Unit {0}) Fault → Type 0
Cleared from to (Ok x) = Fresh to × (length to ≡ length from)
Cleared from to (Err f) = (slip_of f ≡ slip 4 0 0) × (length from ≤ 2 ^ 24 → length from % 8 ≢ 0) × (to ≡ from)

-- what a walk from the root leaves at the start of the free part: the bytes of the rows, or nothing
pub record Writes (st : Setup) (t : TapeView) (ps : List ℕ) (lent : ℕ) (from to : List ℕ) (r : Result ℕ Fault) : Type 0 where
  pub outcome : answer_of r ≡ walk st t (length from) lent st.root (field_of st.root).nullable ps (32 * length (nodes st.root)) 0
  pub content : IfOk r (λ end. (rows : List (Value st.root)) × (rows_of st t ps ≡ got rows) × (end ≡ length (bytes_of st rows)) × (to ≡ splice from 0 (bytes_of st rows)))
  pub unwritten : IfErr r (λ _. to ≡ from)

-- the shape of a node of some kind, by the layout of the custom leaf
abbrev pub shape_by : Layout → Kind → Shape
shape_by custom (Kind.Branch b) = branch_shape b
shape_by custom (Kind.Leaf (LeafKind.Text wide)) = Leaf Text wide
shape_by custom (Kind.Leaf LeafKind.Boolean) = Leaf Bit false
shape_by custom (Kind.Leaf LeafKind.Null) = Leaf None false
shape_by custom (Kind.Leaf LeafKind.Custom) = Leaf custom false

-- the answer to a call that may change what is held, and what is held after
pub record Does (st : Setup) (held : Held st) (schema : Schema) (bytes ends : List ℕ) (call : Call) (answer is : Got ℕ) : Type 0 where
  pub answered : is ≡ answer
  pub holds : Holds st schema bytes ends (after st held call)
