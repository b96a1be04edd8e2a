-- When a node's value is null, and when it may be.
use Rattle.std.proofs.Common.{◌≡◌, ℕ, Bool, true, false, cond, not, ◌&&◌, ◌||◌, List, sym, refl, ap, ◌∙◌, subst}
use mathlib.Core.Option.{none, some}
use Rattle.slip.specs.Slips.{slip, Got, refuse, got, then, each}
use Rattle.tape.specs.Layout.{the}
use Rattle.tape.specs.View.{TapeView, Elem, is_at, element_at}
use Rattle.schema.specs.Tree.{Node, Fields, Field, branch, leaf, kind_of, field_of, children_of}
use Rattle.schema.specs.declared.kind.Branch.{Branch}
use Rattle.schema.specs.declared.kind.LeafKind.{LeafKind}
use Rattle.schema.specs.declared.kind.Kind.TheVariants.{Branch as a_branch, Leaf as a_leaf}
use Rattle.leaf.specs.Meaning.{Answer, Meaning}
use Rattle.batch.specs.Rows.{letter, items_at}
use Rattle.batch.specs.Values.{Setup, Item, is_null, kept, meaning, value, inside, item, below}
use Rattle.nodes.proofs.Forced.{by_kind}
use Rattle.bare.specs.Slots.{is_nothing, null_row}

-- a leaf
null-kept : (f : Field) (k : LeafKind) (p : ℕ) (a : Answer) → is_null (leaf f k) (kept f.number p a) ≡ is_nothing a
null-kept f k p Answer.nothing = refl
null-kept f k p Answer.conflict = refl
null-kept f k p Answer.misfit = refl
null-kept f k p (Answer.value bs) = refl

pub null_leaf_lem : (st : Setup) (t : TapeView) (f : Field) (k : LeafKind) (inForce : Bool) (p : ℕ) → is_nothing ((meaning st k).answer (element_at t p)) ≡ is_null (leaf f k) (value st t (leaf f k) inForce p)
null_leaf_lem st t f k inForce p = sym (null-kept f k p ((meaning st k).answer (element_at t p)))

-- a branch
module _ (st : Setup) (t : TapeView) (f : Field) (b : Branch) (cs : Fields) (inForce : Bool) (p : ℕ) where
  made : (xs : Got (List (Item cs))) → is_null (branch f b cs) (then xs (λ ys. got (some ys))) ≡ false
  made (refuse r) = refl
  made (got ys) = refl

  full : (is : Got (List (List ℕ))) → is_null (branch f b cs) (then (then is (λ x. got (some x))) (inside (item st t cs (below b inForce)))) ≡ false
  full (refuse r) = refl
  full (got is) = made (each (item st t cs (below b inForce)) is)

  pub null_branch : null_row st.settings t b inForce p ≡ is_null (branch f b cs) (value st t (branch f b cs) inForce p)
  null_branch = sym (go (is_at t (letter st.settings b) p) (inForce && (is_at t (the "z") p || st.settings.lenient)))
    where
      go : (a c : Bool)
          → is_null (branch f b cs) (then (cond a (then (items_at st.settings t f b cs p) (λ is. got (some is))) (cond c (got none) (refuse (slip 5 f.number p)))) (inside (item st t cs (below b inForce)))) ≡ (not a && c)
      go true c = full (items_at st.settings t f b cs p)
      go false true = refl
      go false false = refl

-- by kind
module _ (st : Setup) (t : TapeView) (inForce : Bool) (p : ℕ) (T : Node) (r : Bool) where
  pub leaf_null : (k : LeafKind) (own : Meaning) (e : Elem) → a_leaf k ≡ kind_of T → own ≡ meaning st k → e ≡ element_at t p → r ≡ is_nothing (own.answer e) → r ≡ is_null T (value st t T inForce p)
  leaf_null k own e is pile-is e-is h =
      subst (λ N. r ≡ is_null N (value st t N inForce p)) (sym (by_kind T (a_leaf k) is))
      (h ∙ ap (λ m. is_nothing (m.answer e)) pile-is ∙ ap (λ x. is_nothing ((meaning st k).answer x)) e-is ∙ null_leaf_lem st t (field_of T) k inForce p)

  pub branch_null : (b : Branch) → a_branch b ≡ kind_of T → r ≡ null_row st.settings t b inForce p → r ≡ is_null T (value st t T inForce p)
  branch_null b e h = subst (λ N. r ≡ is_null N (value st t N inForce p)) (sym (by_kind T (a_branch b) e)) (h ∙ null_branch st t (field_of T) b (children_of T) inForce p)
