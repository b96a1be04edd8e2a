-- What a walk that is accepted has read: a value at each position, and where their columns end.
use Rattle.std.proofs.Common.{◌≡◌, ℕ, ◌+◌, ◌≤◌, Bool, true, List, map, length, sym, refl, ap, ◌∙◌, subst}
use Rattle.octets.specs.Lists.{all}
use Rattle.schema.specs.Tree.{Node}
use Rattle.tape.specs.View.{TapeView}
use Rattle.slip.specs.Slips.{got, each}
use Rattle.batch.specs.Values.{Setup, Value, NullFirst, value, fits}
use Rattle.batch.specs.Batch.{columns, buffers}
use Rattle.batch.proofs.Worth.{worth, worth_is, each_got}
use Rattle.batch.proofs.Records.{length-buffers}
use Rattle.laws.specs.Shelf.{walk}
use Rattle.laws.proofs.Told.{Told, told_got}
use Rattle.laws.proofs.Walks.{Holds, Walked, Small, walked, held_got}
use Rattle.laws.proofs.Fits.{walk-told}

pub record Read (st : Setup) (t : TapeView) (free : ℕ) (c : Node) (force : Bool) (ps : List ℕ) (top end : ℕ) : Type 0 where
  pub rows : List (Value c)
  pub worths : rows ≡ map (worth st t c force) ps
  pub are : each (value st t c force) ps ≡ got rows
  pub ends : end ≡ top + length (buffers (columns st c rows))
  pub within : end ≤ free

module _ (st : Setup) (t : TapeView) (null : NullFirst t) (free lent : ℕ) where
  pub walk-read : (c : Node) (force : Bool) (ps : List ℕ) (top work end : ℕ) → walk st t free lent c force ps top work ≡ got end → Read st t free c force ps top end
  walk-read c force ps top work end e =
      let fit : all (fits st t c force) ps ≡ true = told_got (subst (Told (all (fits st t c force) ps)) e (walk-told st t free lent c force ps top work)) in
      let vs = map (worth st t c force) ps in
      let w = held_got (subst (Holds (Walked (Small lent (length ps)) free top (columns st c vs))) e (walked st t null free lent c force ps top work)) in
      record {
        rows = vs;
        worths = refl;
        are = each_got (value st t c force) (worth st t c force) (fits st t c force) (worth_is st t c force) ps fit;
        ends = w.is ∙ ap (λ n. top + n) (sym (length-buffers (columns st c vs)));
        within = w.within;
      }
