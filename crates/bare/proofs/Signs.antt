-- What kinds say of a node's slots.
use Rattle.std.proofs.Common.{◌≡◌, ℕ, zero, suc, ◌*◌, ◌/◌, ◌<◌, subst, mul_comm, div-lt_iff_lt-mul, zero-mul, arith}
use Rattle.schema.specs.Tree.{Node, kind_of}
use Rattle.schema.specs.declared.kind.Branch.TheVariants.{Fixed as fixed}
use Rattle.schema.specs.declared.kind.Kind.TheVariants.{Branch as a_branch}
use Rattle.nodes.proofs.Forced.{by_kind}
use Rattle.bare.specs.Slots.{has_slot}

-- the slots of fixed-size lists
some_items : (n rows slot : ℕ) → slot < n * rows → (0 < n) × (slot / n < rows)
some_items zero rows slot h = absurd (omega (arith, zero-mul rows))
some_items (suc n) rows slot h = (omega arith, (div-lt_iff_lt-mul (omega arith)).1 (rw (mul_comm rows (suc n)) h))

pub fixed_slot : (t : Node) (n rows slot : ℕ) → a_branch (fixed n) ≡ kind_of t → has_slot t rows slot → (0 < n) × (slot / n < rows)
fixed_slot t n rows slot e h = some_items n rows slot (subst (λ N. has_slot N rows slot) (by_kind t (a_branch (fixed n)) e) h)
