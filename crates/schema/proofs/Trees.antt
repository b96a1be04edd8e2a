-- What a record says that is of the right kind.
use Rattle.std.proofs.Common.{◌≡◌, ℕ, ◌≤◌, Bool, true, false, eqb, List, sym, refl, ap, ◌∙◌, arith}
use Rattle.schema.specs.declared.kind.Kind.{Kind}
use Rattle.schema.specs.Tree.{LeafKind, text, boolean, custom, Branch, struct, list, fixed, a_branch, a_leaf, Node, branch, leaf, field_of, kind_of, children_of, many, Childed}
use Rattle.schema.specs.Held.{letter_of, wide_of, count_of, Limited, bit, Written}
use Rattle.schema.specs.Checks.{Kinded, KindAt, Fit}
use Rattle.schema.specs.OneTree.{kind_for, childed_many}
use Rattle.schema.specs.Checks.Kinded.{struct', fixed', list', view', map', text', boolean', null', custom'}

-- the record says the kind
pub kinded_for : {l f w n : ℕ} {k : Kind} → Kinded l f w n k → k ≡ kind_for l (eqb w 1) n
kinded_for (struct' a b c d) = rw (a, d) refl
kinded_for (fixed' a b d) = rw (a, d) refl
kinded_for (list' a b c d) = rw (a, d) refl
kinded_for (view' a b c d) = rw (a, d) refl
kinded_for (map' a b c d) = rw (a, d) refl
kinded_for (text' a b c d) = rw (a, d) refl
kinded_for (boolean' a b c d) = rw (a, d) refl
kinded_for (null' a e b c d) = rw (a, d) refl
kinded_for (custom' a b c d) = rw (a, d) refl

pub kinded_one : {l f w n : ℕ} {j k : Kind} → Kinded l f w n j → Kinded l f w n k → j ≡ k
kinded_one a b = kinded_for a ∙ sym (kinded_for b)

bit_read : (b : Bool) → b ≡ eqb (bit b) 1
bit_read true = refl
bit_read false = refl

bit_small : (b : Bool) → bit b ≤ 1
bit_small true = omega arith
bit_small false = omega arith

bit_of_lem : (b : Bool) → b ≡ true → bit b ≡ 1
bit_of_lem b e = rw e refl

-- what a node's record says
kinded_of : (t : Node) → Limited t → Kinded (letter_of t) (bit (field_of t).nullable) (bit (wide_of t)) (count_of t) (kind_of t)
kinded_of (branch f struct cs) l = struct' refl refl l refl
kinded_of (branch f (list false w) cs) l = list' refl (bit_small w) refl (ap (λ x. a_branch (list false x)) (bit_read w))
kinded_of (branch f (list true w) cs) l = view' refl (bit_small w) refl (ap (λ x. a_branch (list true x)) (bit_read w))
kinded_of (branch f (fixed n) cs) l = fixed' refl refl refl
kinded_of (branch f Branch.Map cs) l = map' refl refl refl refl
kinded_of (leaf f (text w)) l = text' refl (bit_small w) refl (ap (λ x. a_leaf (text x)) (bit_read w))
kinded_of (leaf f boolean) l = boolean' refl refl refl refl
kinded_of (leaf f LeafKind.Null) l = null' refl (bit_of_lem f.nullable l) refl refl refl
kinded_of (leaf f custom) l = custom' refl refl refl refl

pub written_kinded : {rs ns : List ℕ} {i : ℕ} {t : Node} → Written rs ns i t → Limited t → KindAt rs i (kind_of t)
written_kinded {t = t} w l = rw (w.letter, w.flag, w.wide, w.count) (kinded_of t l)

pub written_fit : {rs ns : List ℕ} {i : ℕ} {t : Node} → Written rs ns i t → Childed t → Limited t → Fit rs ns i (many (children_of t))
written_fit {rs} {i = i} {t = t} w a l = record { within = w.within; flag = rw w.flag (bit_small (field_of t).nullable); spare = w.spare; named = w.named; kind = kind_of t; kinded = written_kinded w l; children = rw w.count (childed_many t a) }
