-- At each position of an opened tape a value begins in which at most 64 brackets are open together.
use Rattle.std.proofs.Common.{◌≡◌, ℕ, zero, suc, ◌-◌, ◌<◌, ◌≤◌, true, List, ap, ◌∙◌, subst, arith}
use native.Mathlib.Decide.{dec_lt}
use Rattle.tape.specs.Layout.{letter_at, offset_count}
use Rattle.tape.specs.Grammar.{Value, Values, Pairs}
use Rattle.tape.specs.Grammar.Leaf.{string, null}
use Rattle.tape.specs.Grammar.Value.{leaf, i64, list, object}
use Rattle.tape.specs.Grammar.Values.{none, more}
use Rattle.tape.specs.Grammar.Pairs.{no_pair, pair}
use Rattle.tape.specs.Opens.{Untorn}
use Rattle.tape.specs.View.{TapeView, is_position}
use Rattle.tape.proofs.Walks.{Valid, position_valid}

-- more brackets may be open than are
mutual
  pub value_deeper : {es : List ℕ} {m d p q : ℕ} (e : ℕ) → d ≤ e → Value es m d p q → Value es m e p q
  value_deeper e h (leaf l) = leaf l
  value_deeper e h (i64 a b) = i64 a b
  value_deeper e h (list g vs x) = list (omega arith) (values_deeper (e - 1) (omega arith) vs) x
  value_deeper e h (object g ps x) = object (omega arith) (pairs_deeper (e - 1) (omega arith) ps) x

  pub values_deeper : {es : List ℕ} {m d p q : ℕ} (e : ℕ) → d ≤ e → Values es m d p q → Values es m e p q
  values_deeper e h none = none
  values_deeper e h (more v vs) = more (value_deeper e h v) (values_deeper e h vs)

  pub pairs_deeper : {es : List ℕ} {m d p q : ℕ} (e : ℕ) → d ≤ e → Pairs es m d p q → Pairs es m e p q
  pairs_deeper e h no_pair = no_pair
  pairs_deeper e h (pair t v ps) = pair t (value_deeper e h v) (pairs_deeper e h ps)

-- a value that begins at x
abbrev From : List ℕ → (m e x : ℕ) → Type 0
From es m e x = (r : ℕ) × Value es m e x r

moved : {es : List ℕ} {m d p q x : ℕ} (e : ℕ) → d ≤ e → p ≡ x → Value es m d p q → From es m e x
moved {es} {m} {q = q} e h i v = (q, subst (λ y. Value es m e y q) i (value_deeper e h v))

mutual
  value-inside : {es : List ℕ} {m d p q : ℕ} → Value es m d p q → (e x : ℕ) → d ≤ e → Valid es x → p ≤ x → x < q → From es m e x
  value-inside (leaf {p = p} l) e x h v a b = moved e h (omega arith) (leaf l)
  value-inside (i64 {p = p} k i) e x h v a b =
      elim (dec_lt p x) [
        | yes l ↦ absurd (v.no_second p (omega arith) k)
        | no n ↦ moved e h (omega arith) (i64 k i)
      ]
  value-inside {es} (list {p = p} {q = q} g vs t) e x h v a b =
      elim (dec_lt p x) [
        | no n ↦ moved e h (omega arith) (list g vs t)
        | yes l ↦ elim (dec_lt x q) [
          | yes k ↦ values_inside vs e x (omega arith) v (omega arith) k
          | no n ↦ (let j : x ≡ q = omega arith in absurd (v.no_list_end (ap (letter_at es) j ∙ t.closes)))
        ]
      ]
  value-inside {es} (object {p = p} {q = q} g ps t) e x h v a b =
      elim (dec_lt p x) [
        | no n ↦ moved e h (omega arith) (object g ps t)
        | yes l ↦ elim (dec_lt x q) [
          | yes k ↦ pairs-inside ps e x (omega arith) v (omega arith) k
          | no n ↦ (let j : x ≡ q = omega arith in absurd (v.no_object_end (ap (letter_at es) j ∙ t.closes)))
        ]
      ]

  values_inside : {es : List ℕ} {m d p q : ℕ} → Values es m d p q → (e x : ℕ) → d ≤ e → Valid es x → p ≤ x → x < q → From es m e x
  values_inside none e x h v a b = absurd (omega arith)
  values_inside (more {q = q} w vs) e x h v a b =
      elim (dec_lt x q) [
        | yes l ↦ value-inside w e x h v a l
        | no n ↦ values_inside vs e x h v (omega arith) b
      ]

  pairs-inside : {es : List ℕ} {m d p q : ℕ} → Pairs es m d p q → (e x : ℕ) → d ≤ e → Valid es x → p ≤ x → x < q → From es m e x
  pairs-inside no_pair e x h v a b = absurd (omega arith)
  pairs-inside {es} {m} (pair {d = d} {p = p} {q = q} t w ps) e x h v a b =
      elim (dec_lt p x) [
        | no n ↦ moved {d = d} e h (omega arith) (leaf (string t))
        | yes l ↦ elim (dec_lt x q) [
          | yes k ↦ value-inside w e x h v (omega arith) k
          | no n ↦ pairs-inside ps e x h v (omega arith) b
        ]
      ]

-- a value begins at p, in which at most so many brackets are open together
abbrev pub Begins : TapeView → (depth p : ℕ) → Type 0
Begins t depth p = (q : ℕ) × Value t.elements (offset_count t.offsets) depth p q

pub begins : {t : TapeView} → Untorn t → (p : ℕ) → is_position t p ≡ true → Begins t 64 p
begins o zero h = (1, leaf (null o.first o.first_number))
begins {t} o (suc p) h = let v = position_valid t (suc p) h in values_inside o.values 64 (suc p) (omega arith) v (omega arith) v.below
