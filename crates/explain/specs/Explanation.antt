-- The text of a fault.
use Rattle.std.specs.Prelude.{◌≡◌, ℕ, Bool, true, false, cond, ◌&&◌, List, [], ◌++◌, length, codes, decimal, Result, nat_le, nat_lt}
use Rattle.slip.specs.declared.Fault.{Fault}
use Rattle.slip.specs.declared.Fault.TheVariants.{TornTape, BadSchema, BadPosition, Full, WrongKind, UnknownColumn, ExtraColumn, FewColumns, WrongCount, BareNull, Misfit, NotThere}
use Rattle.slip.specs.Slips.{Slip, Got, refuse, got, slip, slip_of, not_there, answer_of, then}
use Rattle.octets.specs.Lists.{splice}
use Rattle.tape.specs.Layout.{the}
use Rattle.tape.specs.View.{TapeView, is_at, words_at, entries, is_position}
use Rattle.schema.specs.declared.settings.Settings.{Settings}
use Rattle.schema.specs.declared.kind.Kind.{Kind}
use Rattle.schema.specs.declared.kind.Kind.TheVariants.{Branch as a_branch, Leaf as a_leaf}
use Rattle.schema.specs.declared.kind.Branch.{Branch}
use Rattle.schema.specs.declared.kind.Branch.TheVariants.{Struct as struct, List as list, Fixed as fixed}
use Rattle.schema.specs.declared.kind.LeafKind.{LeafKind}
use Rattle.schema.specs.declared.kind.LeafKind.TheVariants.{Text as text, Boolean as boolean, Custom as custom}
use Rattle.schema.specs.Held.{count_of}
use Rattle.schema.specs.Tree.{Node, branch, leaf, kind_of, nodes, node_at}
use Rattle.explain.specs.Nested.{whole_text}
use Rattle.explain.specs.Way.{is_struct, way_to}

-- whether a node of this kind is a fixed-size list
abbrev pub is_fixed : Kind → Bool
is_fixed (a_branch struct) = false
is_fixed (a_branch (list view wide)) = false
is_fixed (a_branch (fixed n)) = true
is_fixed (a_branch Branch.Map) = false
is_fixed (a_leaf k) = false

-- the word for what a node wants; own is the word of the custom leaf
abbrev pub word_of : Settings → (own : List ℕ) → Node → List ℕ
word_of s own (branch f struct cs) = cond s.list_rows (codes "[") (codes "{")
word_of s own (branch f (list view wide) cs) = codes "["
word_of s own (branch f (fixed n) cs) = codes "["
word_of s own (branch f Branch.Map cs) = codes "{"
word_of s own (leaf f (text wide)) = codes "string"
word_of s own (leaf f boolean) = codes "boolean"
word_of s own (leaf f LeafKind.Null) = codes "null"
word_of s own (leaf f custom) = own

-- the sentence of each fault that has one
abbrev pub expected : (word : List ℕ) → List ℕ
expected word = codes "expected " ++ (word ++ codes " got ")

abbrev pub wrong_kind : (word element : List ℕ) → List ℕ
wrong_kind word element = expected word ++ element

abbrev pub unknown_column : (name : List ℕ) → List ℕ
unknown_column name = codes "column '" ++ (name ++ codes "' missing from schema")

abbrev pub extra_column : (fields : ℕ) → List ℕ
extra_column fields = codes "found extra columns for " ++ (decimal fields ++ codes " fields")

abbrev pub few_columns : (columns fields : ℕ) → List ℕ
few_columns columns fields = codes "found " ++ (decimal columns ++ (codes " columns for " ++ (decimal fields ++ codes " fields")))

abbrev pub wrong_count : (wanted found : ℕ) → List ℕ
wrong_count wanted found = codes "Incorrect number of elements for FixedSizeList, expected " ++ (decimal wanted ++ (codes " but got " ++ decimal found))

module _ (root : Node) (t : TapeView) where
  -- there is such a node, and p is a position
  abbrev pub there : (node p : ℕ) → Bool
  there node p = nat_lt node (length (nodes root)) && is_position t p

  -- and the node is of such a kind
  abbrev pub of_kind : (is : Kind → Bool) → (node p : ℕ) → Bool
  of_kind is node p = there node p && is (kind_of (node_at root node))

  -- a fault of a kind that has a text, at a node and an element that can have it
  abbrev pub fits : Fault → Bool
  fits TornTape = false
  fits BadSchema = false
  fits (BadPosition index) = false
  fits (Full node) = false
  fits (WrongKind node p) = there node p
  fits (UnknownColumn node p) = of_kind is_struct node p && is_at t (the "s") p
  fits (ExtraColumn node p) = of_kind is_struct node p
  fits (FewColumns node p) = of_kind is_struct node p && is_at t (the "[") p
  fits (WrongCount node p) = of_kind is_fixed node p && is_at t (the "[") p
  fits (BareNull child slot) = false
  fits (Misfit node p) = false
  fits NotThere = false

  -- what is wrong
  abbrev pub sentence : Settings → (own : List ℕ) → Fault → List ℕ
  sentence s own TornTape = []
  sentence s own BadSchema = []
  sentence s own (BadPosition index) = []
  sentence s own (Full node) = []
  sentence s own (WrongKind node p) = wrong_kind (word_of s own (node_at root node)) (whole_text t p)
  sentence s own (UnknownColumn node p) = unknown_column (words_at t p)
  sentence s own (ExtraColumn node p) = extra_column (count_of (node_at root node))
  sentence s own (FewColumns node p) = few_columns (length (entries t p)) (count_of (node_at root node))
  sentence s own (WrongCount node p) = wrong_count (count_of (node_at root node)) (length (entries t p))
  sentence s own (BareNull child slot) = []
  sentence s own (Misfit node p) = []
  sentence s own NotThere = []

  -- where it is wrong, and what
  abbrev pub told : Settings → (own : List ℕ) → Fault → List ℕ
  told s own f = way_to (slip_of f).node root ++ sentence s own f

-- the refusal of too small an area
abbrev pub no_room : Slip
no_room = slip 4 0 0

-- the text of a fault in an area of so many bytes: refused where the fault does not fit, and where the text does not
abbrev pub explanation : Settings → (own : List ℕ) → Node → TapeView → Fault → (room : ℕ) → Got (List ℕ)
explanation s own root t f room =
    cond (fits root t f) (cond (nat_le (length (told root t s own f)) room) (got (told root t s own f)) (refuse no_room)) (refuse not_there)

-- the area afterwards: the text over its first bytes, or nothing changed
abbrev pub written : List ℕ → Got (List ℕ) → List ℕ
written area (refuse r) = area
written area (got bytes) = splice area 0 bytes

-- the call answers the length of the text, or the refusal
pub record Explains (e : Got (List ℕ)) (before after : List ℕ) (r : Result ℕ Fault) : Type 0 where
  pub answer : answer_of r ≡ then e (λ bytes. got (length bytes))
  pub area : after ≡ written before e
