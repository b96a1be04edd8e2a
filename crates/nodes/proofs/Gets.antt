-- What was got, one after another.
use Rattle.std.proofs.Common.{◌≡◌, ℕ, ◌+◌, ◌≤◌, Bool, true, false, cond, ◌||◌, ltb, sym, refl, ap, ◌∙◌, ⊎_elim, arith}
use Rattle.std.proofs.lemmas.Bool.{cases_lt, or_parts, ltb-false, lt-ltb, le-ltb}
use Rattle.slip.specs.Slips.{Slip, slip, Got, refuse, got, then}
use Rattle.batch.specs.Format.{Column}
use Rattle.batch.specs.Batch.{size_of}
use Rattle.columns.specs.Areas.{space}
use Rattle.laws.specs.Shelf.{room}

pub then_got : {A B : Type 0} (a : Got A) (k : A → Got B) (y : B) → got y ≡ then a k → (x : A) × (a ≡ got x) × (got y ≡ k x)
then_got (refuse r) k y e = absurd (let z : ◌≡◌ {A = ℕ} 0 1 = cc in omega arith)
then_got (got x) k y e = (x, refl, e)

pub got_same : {A : Type 0} (x y : A) → ◌≡◌ {A = Got A} (got x) (got y) → x ≡ y
got_same x y e = cc

gate : (b : Bool) (s : Slip) (m n : ℕ) → got n ≡ cond b (refuse s) (got m) → (b ≡ false) × (n ≡ m)
gate true s m n e = absurd (let z : ◌≡◌ {A = ℕ} 0 1 = cc in omega arith)
gate false s m n e = (refl, got_same n m e)

module _ (free top : ℕ) (c : Column) where
  pub room_got : (lent number work more n : ℕ) → got n ≡ room free lent number top work c more → (n ≡ top + size_of c) × (n ≤ free) × (work + more ≤ lent)
  room_got lent number work more n e =
      let g = gate (ltb free (top + size_of c) || ltb lent (work + more)) (slip 4 number 0) (top + size_of c) n e in
      let p = or_parts (ltb free (top + size_of c)) (ltb lent (work + more)) g.0 in
      (g.1, omega (arith, ltb-false free (top + size_of c) p.0, g.1), ltb-false lent (work + more) p.1)

  pub space_got : (left number more n : ℕ) → got n ≡ space free left number top c more → (n ≡ top + size_of c) × (n ≤ free) × (more ≤ left)
  space_got left number more n e =
      let g = gate (ltb free (top + size_of c) || ltb left more) (slip 4 number 0) (top + size_of c) n e in
      let p = or_parts (ltb free (top + size_of c)) (ltb left more) g.0 in
      (g.1, omega (arith, ltb-false free (top + size_of c) p.0, g.1), ltb-false left more p.1)

  same_test : (w left more : ℕ) → ltb (w + left) (w + more) ≡ ltb left more
  same_test w left more =
      ⊎_elim
      (λ h. lt-ltb (w + left) (w + more) (omega arith) ∙ sym (lt-ltb left more h))
      (λ h. le-ltb (w + left) (w + more) (omega arith) ∙ sym (le-ltb left more h))
      (cases_lt left more)

  -- the work list that is left is what counts
  pub room_is : (left number w more : ℕ) → room free (w + left) number top w c more ≡ space free left number top c more
  room_is left number w more = ap (λ b. cond (ltb free (top + size_of c) || b) (refuse (slip 4 number 0)) (got (top + size_of c))) (same_test w left more)
