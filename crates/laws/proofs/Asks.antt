-- The custom leaf is asked, and its answer is what an X has.
use Rattle.std.proofs.Common.{◌≡◌, ℕ, Bool, true, false, cond, List, refl}
use mathlib.Core.Option.{Option, none, some}
use Rattle.schema.specs.Tree.{Field}
use Rattle.tape.specs.View.{element_at}
use Rattle.leaf.specs.Meaning.{Answer, Meaning, checked, fitting, forgiven, lenient, when}
use Rattle.leaf.specs.declared.layout.Layout.{Layout}
use Rattle.slip.specs.Slips.{Got, refuse, got, slip}
use Rattle.batch.specs.Values.{kept}
use Rattle.laws.specs.Laws.{CustomAsked}

module _ (f : Field) (p : ℕ) where
  abbrev said : Layout → Answer → Bool → Got (Option (List ℕ))
  said l Answer.nothing b = got none
  said l Answer.conflict b = cond b (got none) (refuse (slip 5 f.number p))
  said l Answer.misfit b = refuse (slip 11 f.number p)
  said l (Answer.value bs) b = cond (fitting l bs) (got (some bs)) (refuse (slip 11 f.number p))

layered : (b : Bool) (m : Meaning) → (when b lenient m).layout ≡ m.layout
layered true m = refl
layered false m = refl

pub custom_asked_lem : CustomAsked
custom_asked_lem st t f inForce p = record {
  nothing = λ e. go st.settings.lenient Answer.nothing e;
  value = λ bs e h. fit bs true h st.settings.lenient e;
  unfit = λ bs e h. fit bs false h st.settings.lenient e;
  misfit = λ e. go st.settings.lenient Answer.misfit e;
  conflict = λ e. go st.settings.lenient Answer.conflict e;
  layout = layered st.settings.lenient (checked st.custom);
}
  where
    fitted : (b c : Bool) (bs : List ℕ) → kept f.number p (cond b (forgiven (cond c (Answer.value bs) Answer.misfit)) (cond c (Answer.value bs) Answer.misfit)) ≡ cond c (got (some bs)) (refuse (slip 11 f.number p))
    fitted true true bs = refl
    fitted true false bs = refl
    fitted false true bs = refl
    fitted false false bs = refl

    go : (b : Bool) (a : Answer) → st.custom.answer (element_at t p) ≡ a → kept f.number p ((when b lenient (checked st.custom)).answer (element_at t p)) ≡ said f p st.custom.layout a b
    go true Answer.nothing e = rw e
    go true Answer.conflict e = rw e
    go true Answer.misfit e = rw e
    go true (Answer.value bs) e = rw e (fitted true (fitting st.custom.layout bs) bs)
    go false Answer.nothing e = rw e
    go false Answer.conflict e = rw e
    go false Answer.misfit e = rw e
    go false (Answer.value bs) e = rw e (fitted false (fitting st.custom.layout bs) bs)

    fit : (bs : List ℕ) (c : Bool) → fitting st.custom.layout bs ≡ c → (b : Bool) → st.custom.answer (element_at t p) ≡ Answer.value bs
        → kept f.number p ((when b lenient (checked st.custom)).answer (element_at t p)) ≡ cond c (got (some bs)) (refuse (slip 11 f.number p))
    fit bs c h b e = rw (go b (Answer.value bs) e, h)
