-- The shape of a node is that of its pile.
use Rattle.std.proofs.Common.{◌≡◌, Bool, true, false, refl}
use Rattle.schema.specs.Tree.{Node, branch, leaf, kind_of}
use Rattle.schema.specs.declared.kind.LeafKind.{LeafKind}
use Rattle.leaf.specs.Meaning.{when, lenient, coerce, checked, text_leaf, boolean_leaf, null_leaf}
use Rattle.leaf.specs.declared.layout.Layout.TheVariants.{None, Bit, Text}
use Rattle.batch.specs.Values.{Setup}
use Rattle.batch.specs.Cells.{shape_of}
use Rattle.batch.specs.declared.cell.Shape.TheVariants.{Leaf}
use Rattle.shelf.specs.Standing.{shape_by}

-- the piles keep the layout of the leaf below
pub shape_is : (st : Setup) (t : Node) → shape_by st.custom.layout (kind_of t) ≡ shape_of st t
shape_is st (branch f b cs) = refl
shape_is st (leaf f (LeafKind.Text wide)) = go st.settings.lenient st.settings.coerce
  where
    go : (a b : Bool) → Leaf Text wide ≡ Leaf (when a lenient (when b coerce text_leaf)).layout wide
    go true true = refl
    go true false = refl
    go false true = refl
    go false false = refl
shape_is st (leaf f LeafKind.Boolean) = go st.settings.lenient
  where
    go : (a : Bool) → Leaf Bit false ≡ Leaf (when a lenient boolean_leaf).layout false
    go true = refl
    go false = refl
shape_is st (leaf f LeafKind.Null) = go st.settings.lenient
  where
    go : (a : Bool) → Leaf None false ≡ Leaf (when a lenient null_leaf).layout false
    go true = refl
    go false = refl
shape_is st (leaf f LeafKind.Custom) = go st.settings.lenient
  where
    go : (a : Bool) → Leaf st.custom.layout false ≡ Leaf (when a lenient (checked st.custom)).layout false
    go true = refl
    go false = refl
