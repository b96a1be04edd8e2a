-- The values of a tape fit their nodes: a leaf's its layout, and a row has as many items as its branch takes.
use Rattle.std.proofs.Common.{◌≡◌, ℕ, Bool, true, false, cond, ◌&&◌, ◌||◌, eqb, List, [], ◌∷◌, map, length, refl, ◌∙◌}
use mathlib.Core.Option.{Option, none, some}
use lib.ListN.{length-map}
use Rattle.std.specs.List.{AllByRecursion}
use Rattle.std.proofs.lemmas.Bool.{eqb-true}
use Rattle.octets.specs.Lists.{via, rest, first}
use Rattle.schema.specs.Tree.{Node, Fields, Field, branch, leaf, ◌⊕◌, field_of}
use Rattle.schema.specs.declared.kind.Branch.{Branch}
use Rattle.schema.specs.declared.kind.Branch.TheVariants.{Struct as struct, List as list, Fixed as fixed}
use Rattle.schema.specs.declared.kind.LeafKind.{LeafKind}
use Rattle.tape.specs.Layout.{the}
use Rattle.tape.specs.View.{TapeView, Elem, element_at, entries, is_at}
use Rattle.leaf.specs.Bytes.{Valued}
use Rattle.leaf.proofs.Fitted.{pile-fits}
use Rattle.batch.specs.Suited.{Present, Fits, Counted, Sized, SizedItem}
use Rattle.leaf.specs.Meaning.{Answer, fitting, shown}
use Rattle.slip.specs.Slips.{Got, refuse, got, slip, then, accepted}
use Rattle.batch.specs.Rows.{row_at, items_at, letter, singles}
use Rattle.batch.specs.Values.{Setup, Item, meaning, kept, leaf_at, below}
use Rattle.batch.proofs.Worth.{worth, worth_item}
use Rattle.batch.specs.Batch.{hidden, hidden_item}

pub all_mapped : {A B : Type 0} (P : B → Type 0) (g : A → B) → ((x : A) → P (g x)) → (xs : List A) → AllByRecursion P (map g xs)
all_mapped P g h [] = tt
all_mapped P g h (x ∷ xs) = (h x, all_mapped P g h xs)

pub shown_of : (P : List ℕ → Type 0) (a : Answer) → Valued P a → Present P (shown a)
shown_of P Answer.nothing p = tt
shown_of P Answer.conflict p = tt
shown_of P Answer.misfit p = tt
shown_of P (Answer.value bs) p = p

pile-shown : (st : Setup) (k : LeafKind) (e : Elem) → Fits (meaning st k).layout (shown ((meaning st k).answer e))
pile-shown st k e = shown_of (λ bs. fitting (meaning st k).layout bs ≡ true) ((meaning st k).answer e) (pile-fits st.settings st.custom k e)

module _ (st : Setup) where
  pub hidden_sized : (c : Node) → Sized st c (hidden st c)
  hidden_sized (branch f b cs) = tt
  hidden_sized (leaf f k) = pile-shown st k Elem.null

  pub hidden_sized_item : (cs : Fields) → SizedItem st cs (hidden_item st cs)
  hidden_sized_item Fields.none = tt
  hidden_sized_item (c ⊕ cs) = (hidden_sized c, hidden_sized_item cs)

  module _ (t : TapeView) where
    pub leaf_value : (f : Field) (k : LeafKind) (p : ℕ) → accepted (leaf_at st t f k p) ≡ shown ((meaning st k).answer (element_at t p))
    leaf_value f k p = go ((meaning st k).answer (element_at t p))
      where
        go : (a : Answer) → accepted (kept f.number p a) ≡ shown a
        go Answer.nothing = refl
        go Answer.conflict = refl
        go Answer.misfit = refl
        go (Answer.value bs) = refl

    row-counted : (f : Field) (b : Branch) (cs : Fields) (force : Bool) (p : ℕ) → Present (Counted b) (accepted (row_at st.settings t f b cs force p))
    row-counted f b cs force p = go (is_at t (letter st.settings b) p) (force && (is_at t (the "z") p || st.settings.lenient))
      where
        one : (g : Got (List ℕ)) → Present (λ is. length is ≡ 1) (accepted (then (then g (λ item. got (item ∷ []))) (λ is. got (some is))))
        one (refuse r) = tt
        one (got ps) = refl

        count : (n : ℕ) (e : Bool) → eqb (length (entries t p)) n ≡ e
            → Present (λ is. length is ≡ n) (accepted (then (cond e (got (singles (entries t p))) (refuse (slip 9 f.number p))) (λ is. got (some is))))
        count n true q = length-map (entries t p) (λ e. e ∷ []) ∙ eqb-true (length (entries t p)) n q
        count n false q = tt

        items : (b : Branch) → Present (Counted b) (accepted (then (items_at st.settings t f b cs p) (λ is. got (some is))))
        items struct = one _
        items (list view wide) = tt
        items (fixed n) = count n (eqb (length (entries t p)) n) refl
        items Branch.Map = tt

        go : (a c : Bool) → Present (Counted b) (accepted (cond a (then (items_at st.settings t f b cs p) (λ is. got (some is))) (cond c (got none) (refuse (slip 5 f.number p)))))
        go true c = items b
        go false true = tt
        go false false = tt

    counted-map : {A B : Type 0} (g : A → B) (b : Branch) (is : List A) → Counted b is → Counted b (map g is)
    counted-map g struct is h = length-map is g ∙ h
    counted-map g (list view wide) is h = tt
    counted-map g (fixed n) is h = length-map is g ∙ h
    counted-map g Branch.Map is h = tt

    mutual
      pub sized_value : (c : Node) (force : Bool) (p : ℕ) → Sized st c (worth st t c force p)
      sized_value (branch f b cs) force p =
          rows b cs (worth_item st t cs (below b force)) (sized_item cs (below b force)) (accepted (row_at st.settings t f b cs force p)) (row-counted f b cs force p)
        where
          rows : (b : Branch) (cs : Fields) (g : List ℕ → Item cs) → ((ps : List ℕ) → SizedItem st cs (g ps)) → (o : Option (List (List ℕ))) → Present (Counted b) o
              → Present (λ is. Counted b is × AllByRecursion (SizedItem st cs) is) (via (map g) o)
          rows b cs g h none n = tt
          rows b cs g h (some is) n = (counted-map g b is n, all_mapped (SizedItem st cs) g h is)
      sized_value (leaf f k) force p = rw (leaf_value f k p) (pile-shown st k (element_at t p))

      sized_item : (cs : Fields) (force : Bool) (ps : List ℕ) → SizedItem st cs (worth_item st t cs force ps)
      sized_item Fields.none force ps = tt
      sized_item (c ⊕ cs) force ps = (sized_value c (force || (field_of c).nullable) (first ps), sized_item cs force (rest ps))
