-- The computed answer is the one that the text says.
use Rattle.std.proofs.Common.{◌≡◌, ℕ, zero, suc, ◌-◌, ◌/◌, ◌^◌, ◌<◌, Bool, true, List, length, drop, ℤ, pos, negsuc, nat_abs, Some, None, Option, sym, refl, ap, ◌∙◌, subst, arith}
use native.Mathlib.Nat.{pow-le-pow_right}
use Rattle.std.proofs.lemmas.Bool.{cond_both, cond-true, cond-false, lt-ltb, le-ltb}
use Rattle.thousandths.specs.Decimal.{Decimal, Unread, unit}
use Rattle.thousandths.specs.Says.{Says, Tells, signed_by}
use Rattle.thousandths.specs.Split.{minus_of, unsigned, front, behind, proper, size_of, thousandths_of}
use Rattle.octets.specs.Numbers.{le, number as number_of}
use Rattle.octets.proofs.Pieces.{number-le}
use Rattle.tape.specs.View.{twos}
use Rattle.leaf.specs.Bytes.{AreBytes, GivesBytes}
use Rattle.leaf.specs.Laws.{Fits}
use Rattle.thousandths.specs.Means.{Right, RightAnswers, WellLaid, thousandths_leaf, answer_of, eight}
use Rattle.thousandths.proofs.Readings.{reads, read_by, unread, not_proper}
use Rattle.thousandths.proofs.Rounds.{nearest_is, nearest_only}

pub unit_pos : (d : List ℕ) → 0 < unit d
unit_pos d = omega (arith, pow-le-pow_right {n = 10} (omega arith) {i = 0} {j = length d} (omega arith))

pub tells_all : (t : List ℕ) → Tells t (thousandths_of t)
tells_all t =
    let P : Option ℤ → Type 0 = Tells t in
    cond_both (proper t) _ _ P (λ ok. (says ok, only)) (λ bad. unread t bad)
  where
    says : proper t ≡ true → Says t (signed_by (minus_of t) (size_of (front (unsigned t)) (drop 1 (behind (unsigned t)))))
    says ok =
        record {
          minus = minus_of t;
          whole = front (unsigned t);
          decimals = drop 1 (behind (unsigned t));
          size = size_of (front (unsigned t)) (drop 1 (behind (unsigned t)));
          reads = reads t ok;
          near = nearest_is _ _ (unit_pos (drop 1 (behind (unsigned t))));
          signed = refl;
        }

    only : (y : ℤ) → Says t y → y ≡ signed_by (minus_of t) (size_of (front (unsigned t)) (drop 1 (behind (unsigned t))))
    only y s =
        let r = read_by t s.minus s.whole s.decimals s.reads in
        let n = nearest_only _ _ s.size (unit_pos s.decimals) s.near in
        s.signed
        ∙ ap (signed_by s.minus) n
        ∙ ap (λ (b : Bool). signed_by b (size_of s.whole s.decimals)) r.sign
        ∙ ap (λ (u : List ℕ). signed_by (minus_of t) (size_of u s.decimals)) r.whole
        ∙ ap (λ (u : List ℕ). signed_by (minus_of t) (size_of (front (unsigned t)) u)) r.decimals

pub right_answers : RightAnswers
right_answers t = by (thousandths_of t) (tells_all t)
  where
    by : (o : Option ℤ) → Tells t o → Right t (answer_of o)
    by (Some z) h = (z, h, refl)
    by None h = h

le_bytes : (w n : ℕ) → AreBytes (le w n)
le_bytes zero n = tt
le_bytes (suc w) n = (omega arith, le_bytes w (n / 256))

eight_reads : (z : ℤ) → nat_abs z < 2 ^ 63 → twos (2 ^ 63) (number_of (eight z)) ≡ z
eight_reads (pos n) h =
    ap (twos (2 ^ 63)) (number-le 8 n (omega arith)) ∙ cond-true _ _ _ (lt-ltb n (2 ^ 63) h)
eight_reads (negsuc n) h =
    ap (twos (2 ^ 63)) (number-le 8 (2 ^ 64 - suc n) (omega arith))
    ∙ cond-false _ _ _ (le-ltb (2 ^ 64 - suc n) (2 ^ 63) (omega arith))
    ∙ ap negsuc (omega arith)

pub well_laid : WellLaid
well_laid = record { fits = fits; bytes = bytes; reads = eight_reads }
  where
    fits : Fits thousandths_leaf
    fits e bs is = grind arith

    bytes : GivesBytes thousandths_leaf
    bytes e h = grind (arith, le_bytes)

-- what the code computes, and what it is of
pub answered : (t : List ℕ) (m : Bool) (w d : List ℕ) (z : ℤ) → Decimal t m w d → z ≡ signed_by m (size_of w d) → Some z ≡ thousandths_of t
answered t m w d z h is =
    let r = read_by t m w d h in
    let e : z ≡ signed_by (minus_of t) (size_of (front (unsigned t)) (drop 1 (behind (unsigned t)))) = cc in
    ap Some e ∙ sym (cond-true (proper t) _ _ r.good)

pub refused : (t : List ℕ) → Unread t → None ≡ thousandths_of t
refused t h = sym (cond-false (proper t) _ _ (not_proper t h))

pub tells_by : (t : List ℕ) (o : Option ℤ) → o ≡ thousandths_of t → Tells t o
tells_by t o e = let P : Option ℤ → Type 0 = Tells t in subst P (sym e) (tells_all t)
