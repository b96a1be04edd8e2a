-- What the rules take, and laws of the leaves.
use Rattle.std.specs.Prelude.{◌≡◌, ℕ, Bool, true, false, cond, ◌&&◌, List}
use Rattle.std.proofs.Math.Option.{Option, none, some}
use Rattle.schema.specs.Tree.{Field, leaf, field_of}
use Rattle.schema.specs.declared.kind.LeafKind.{LeafKind}
use Rattle.leaf.specs.Meaning.{Answer, fitting}
use Rattle.tape.specs.View.{TapeView, is_position, element_at}
use Rattle.slip.specs.Slips.{Got, refuse, got, slip}
use Rattle.batch.specs.Values.{Setup, meaning, value, fits}

-- a position at which the root takes a row
abbrev pub takes : Setup → TapeView → ℕ → Bool
takes st t p = is_position t p && fits st t st.root (field_of st.root).nullable p

-- the value of an X is the custom leaf's own answer: null, or bytes that fit its layout; all else is refused, but under lenient a conflict is null
pub record Asked (st : Setup) (t : TapeView) (f : Field) (p : ℕ) (is : Got (Option (List ℕ))) : Type 0 where
  pub nothing : st.custom.answer (element_at t p) ≡ Answer.nothing → is ≡ got none
  pub value : (bs : List ℕ) → st.custom.answer (element_at t p) ≡ Answer.value bs → fitting st.custom.layout bs ≡ true → is ≡ got (some bs)
  pub unfit : (bs : List ℕ) → st.custom.answer (element_at t p) ≡ Answer.value bs → fitting st.custom.layout bs ≡ false → is ≡ refuse (slip 11 f.number p)
  pub misfit : st.custom.answer (element_at t p) ≡ Answer.misfit → is ≡ refuse (slip 11 f.number p)
  pub conflict : st.custom.answer (element_at t p) ≡ Answer.conflict → is ≡ cond st.settings.lenient (got none) (refuse (slip 5 f.number p))
  pub layout : (meaning st LeafKind.Custom).layout ≡ st.custom.layout

-- so it is at every position
abbrev pub CustomAsked : Type 0
CustomAsked = (st : Setup) (t : TapeView) (f : Field) (inForce : Bool) (p : ℕ) → Asked st t f p (value st t (leaf f LeafKind.Custom) inForce p)
