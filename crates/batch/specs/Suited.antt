-- Row values that suit the nodes of a schema.
use Rattle.std.specs.Prelude.{◌≡◌, ℕ, Bool, true, false, List, length, IsUtf8}
use Rattle.std.proofs.Math.Option.{Option, none, some}
use Rattle.std.specs.List.{AllByRecursion}
use Rattle.octets.specs.Lists.{is_some}
use Rattle.schema.specs.Tree.{Node, Fields, branch, leaf, ◌⊕◌}
use Rattle.schema.specs.declared.kind.Branch.{Branch}
use Rattle.schema.specs.declared.kind.Branch.TheVariants.{Struct as struct, List as list, Fixed as fixed}
use Rattle.schema.specs.declared.kind.LeafKind.{LeafKind}
use Rattle.leaf.specs.Bytes.{AreBytes}
use Rattle.leaf.specs.Meaning.{fitting}
use Rattle.leaf.specs.declared.layout.Layout.{Layout}
use Rattle.batch.specs.Values.{Setup, Value, Item, meaning, may_be_null}

-- what holds of a value, if it is not null
abbrev pub Present : {A : Type 0} → (A → Type 0) → Option A → Type 0
Present P none = Unit {0}
Present P (some x) = P x

-- the bytes of a leaf fit its layout
abbrev pub Fits : Layout → Option (List ℕ) → Type 0
Fits l o = Present (λ bs. fitting l bs ≡ true) o

-- the bytes of a text are UTF-8
abbrev pub Lettered : LeafKind → Option (List ℕ) → Type 0
Lettered (LeafKind.Text wide) o = Present IsUtf8 o
Lettered LeafKind.Boolean o = Unit {0}
Lettered LeafKind.Null o = Unit {0}
Lettered LeafKind.Custom o = Unit {0}

-- a row has as many items as its branch takes
abbrev pub Counted : {A : Type 0} → Branch → List A → Type 0
Counted struct is = length is ≡ 1
Counted (list view wide) is = Unit {0}
Counted (fixed n) is = length is ≡ n
Counted Branch.Map is = Unit {0}

-- both hold of a value and of all within it
abbrev mutual
  pub Sized : (st : Setup) (c : Node) → Value c → Type 0
  Sized st (branch f b cs) o = Present (λ is. Counted b is × AllByRecursion (SizedItem st cs) is) o
  Sized st (leaf f k) o = Fits (meaning st k).layout o

  pub SizedItem : (st : Setup) (cs : Fields) → Item cs → Type 0
  SizedItem st Fields.none i = Unit {0}
  SizedItem st (c ⊕ cs) i = Sized st c i.0 × SizedItem st cs i.1

-- the value is not null
abbrev pub there : (c : Node) → Value c → Bool
there (branch f b cs) o = is_some o
there (leaf f k) o = is_some o

-- no child of an item is null that may not be
abbrev pub Unbare : (st : Setup) (cs : Fields) → Item cs → Type 0
Unbare st Fields.none i = Unit {0}
Unbare st (c ⊕ cs) i = (may_be_null st c ≡ false → there c i.0 ≡ true) × Unbare st cs i.1

-- nor is any further within
abbrev mutual
  pub Full : (st : Setup) (c : Node) → Value c → Type 0
  Full st (branch f b cs) o = Present (λ is. AllByRecursion (Unbare st cs) is × AllByRecursion (FullIn st cs) is) o
  Full st (leaf f k) o = Unit {0}

  pub FullIn : (st : Setup) (cs : Fields) → Item cs → Type 0
  FullIn st Fields.none i = Unit {0}
  FullIn st (c ⊕ cs) i = Full st c i.0 × FullIn st cs i.1

-- what the texts of a value hold is UTF-8
abbrev mutual
  pub Worded : (c : Node) → Value c → Type 0
  Worded (branch f b cs) o = Present (λ is. AllByRecursion (WordedItem cs) is) o
  Worded (leaf f k) o = Lettered k o

  pub WordedItem : (cs : Fields) → Item cs → Type 0
  WordedItem Fields.none i = Unit {0}
  WordedItem (c ⊕ cs) i = Worded c i.0 × WordedItem cs i.1

-- what the leaves of a value hold are bytes
abbrev mutual
  pub Bytewise : (c : Node) → Value c → Type 0
  Bytewise (branch f b cs) o = Present (λ is. AllByRecursion (BytewiseItem cs) is) o
  Bytewise (leaf f k) o = Present AreBytes o

  pub BytewiseItem : (cs : Fields) → Item cs → Type 0
  BytewiseItem Fields.none i = Unit {0}
  BytewiseItem (c ⊕ cs) i = Bytewise c i.0 × BytewiseItem cs i.1
