-- What a call answers: what was asked for, or a slip that says why not.
use Rattle.std.specs.Prelude.{ℕ, Bool, true, false, List, [], ◌∷◌, Ok, Err, Result}
use Rattle.std.proofs.Math.Option.{Option, none}
use Rattle.slip.specs.declared.Fault.{Fault}
use Rattle.slip.specs.declared.Fault.TheVariants.{TornTape, BadSchema, BadPosition, Full, WrongKind, UnknownColumn, ExtraColumn, FewColumns, WrongCount, BareNull, Misfit, NotThere}

-- a refusal: its number, the node that met it, and a place
pub record Slip : Type 0 where
  pub number : ℕ
  pub node : ℕ
  pub place : ℕ

abbrev pub slip : ℕ → ℕ → ℕ → Slip
slip number node place = record { number = number; node = node; place = place }

-- the slip of each fault
abbrev pub slip_of : Fault → Slip
slip_of TornTape = slip 1 0 0
slip_of BadSchema = slip 2 0 0
slip_of (BadPosition index) = slip 3 0 index
slip_of (Full node) = slip 4 node 0
slip_of (WrongKind node position) = slip 5 node position
slip_of (UnknownColumn node name) = slip 6 node name
slip_of (ExtraColumn node entry) = slip 7 node entry
slip_of (FewColumns node row) = slip 8 node row
slip_of (WrongCount node row) = slip 9 node row
slip_of (BareNull child slot) = slip 10 child slot
slip_of (Misfit node position) = slip 11 node position
slip_of NotThere = slip 12 0 0

-- no such batch, node, slot or fault
abbrev pub not_there : Slip
not_there = slip 12 0 0

pub data Got (A : Type 0) : Type 0 where
  refuse : Slip → Got A
  got : A → Got A

-- what a call of the code answered
abbrev pub answer_of : {A : Type 0} → Result A Fault → Got A
answer_of (Ok x) = got x
answer_of (Err f) = refuse (slip_of f)

abbrev pub then : {A B : Type 0} → Got A → (A → Got B) → Got B
then (refuse r) k = refuse r
then (got x) k = k x

-- all in order, or the first refusal
abbrev pub each : {A B : Type 0} → (A → Got B) → List A → Got (List B)
each f [] = got []
each f (p ∷ ps) = then (f p) (λ x. then (each f ps) (λ xs. got (x ∷ xs)))

abbrev pub is_got : {A : Type 0} → Got A → Bool
is_got (refuse r) = false
is_got (got x) = true

abbrev pub Refused : {A : Type 0} → Got A → Type 0
Refused (refuse r) = Unit {0}
Refused (got x) = ⊥

abbrev pub number_of : {A : Type 0} → Got A → ℕ
number_of (refuse r) = r.number
number_of (got x) = 0

-- of what is refused there is nothing
abbrev pub accepted : {A : Type 0} → Got (Option A) → Option A
accepted (refuse r) = none
accepted (got o) = o
