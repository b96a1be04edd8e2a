-- The steps of a test of one child, over plain values.
use Rattle.std.proofs.Common.{◌≡◌, ℕ, ◌+◌, ◌<◌, Bool, true, false, cond, List, ◌∷◌, length, get_or, drop, sym, refl, ap, ◌∙◌}
use mathlib.Core.Option.{Option, none, some}
use Rattle.std.proofs.lemmas.List.{at_drop_more}
use Rattle.std.proofs.lemmas.Bool.{cond-false}
use Rattle.slip.specs.Slips.{slip, Got, refuse, got}
use Rattle.tape.specs.View.{TapeView}
use Rattle.schema.specs.Tree.{Node, field_of}
use Rattle.batch.specs.Values.{Setup, is_null, may_be_null, value}
use Rattle.laws.specs.Shelf.{bare_from}
use Rattle.nodes.specs.Nodes.{unbare}
use Rattle.bare.specs.Slots.{veiled}

-- a child that may not be null
pub may_not_be : (st : Setup) (t : TapeView) (c : Node) (inForce : Bool) (os : List (Option ℕ)) → may_be_null st c ≡ false → bare_from st t c inForce 0 os ≡ unbare st t c inForce os
may_not_be st t c inForce os e = sym (cond-false (may_be_null st c) (got tt) (bare_from st t c inForce 0 os) e)

-- one slot of a child
module _ (st : Setup) (t : TapeView) (c : Node) (inForce : Bool) (hid : ℕ → Bool) (ps : List ℕ) (i : ℕ) (within : i < length ps) where
  abbrev left : ℕ → Got (Unit {0})
  left i = bare_from st t c inForce i (veiled hid i (drop i ps))

  abbrev missing : Bool
  missing = is_null c (value st t c inForce (get_or ps i 0))

  one : left i ≡ bare_from st t c inForce i (cond (hid i) none (some (get_or ps i 0)) ∷ veiled hid (i + 1) (drop (i + 1) ps))
  one = at_drop_more (λ xs. bare_from st t c inForce i (veiled hid i xs)) ps i 0 within

  pub passed_hidden : hid i ≡ true → left (i + 1) ≡ left i
  passed_hidden h = sym (one ∙ ap (λ b. bare_from st t c inForce i (cond b none (some (get_or ps i 0)) ∷ veiled hid (i + 1) (drop (i + 1) ps))) h)

  pub passed_there : missing ≡ false → left (i + 1) ≡ left i
  passed_there e = sym (one ∙ go (hid i))
    where
      go : (b : Bool) → bare_from st t c inForce i (cond b none (some (get_or ps i 0)) ∷ veiled hid (i + 1) (drop (i + 1) ps)) ≡ left (i + 1)
      go true = refl
      go false = ap (λ n. cond n (refuse (slip 10 (field_of c).number i)) (left (i + 1))) e

  pub found : hid i ≡ false → missing ≡ true → refuse (slip 10 (field_of c).number i) ≡ left i
  found h e =
      sym (
      one
      ∙ ap (λ b. bare_from st t c inForce i (cond b none (some (get_or ps i 0)) ∷ veiled hid (i + 1) (drop (i + 1) ps))) h
      ∙ ap (λ n. cond n (refuse (slip 10 (field_of c).number i)) (left (i + 1))) e
      )
