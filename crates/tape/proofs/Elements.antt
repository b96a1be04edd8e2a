-- What a variant says of its element's letter and number.
use Rattle.std.proofs.Common.{◌≡◌, ℕ, ◌⊎◌, ℤ, refl, inl, inr, arith}
use Rattle.std.proofs.lemmas.Bool.Decides.{nat_tests}
use Rattle.tape.specs.declared.element.TapeElement.TheVariants.{StartObject, StartList, String, Number, I64}
use Rattle.tape.specs.Elements.{tape_element, tape_element_at, letter_of, LetterLaw}
use Rattle.tape.specs.Layout.{the, letter_at, offset_count}
use Rattle.tape.proofs.Cover.{letters}
use Rattle.tape.proofs.Reading.{LeafFacts}

pub object_says : (l n k : ℕ) → StartObject k ≡ tape_element l n → (l ≡ the "{") × (n ≡ k)
object_says l n k e = (grind (arith, nat_tests), grind (arith, nat_tests))

pub list_says : (l n k : ℕ) → StartList k ≡ tape_element l n → (l ≡ the "[") × (n ≡ k)
list_says l n k e = (grind (arith, nat_tests), grind (arith, nat_tests))

pub string_says : (l n k : ℕ) → String k ≡ tape_element l n → (l ≡ the "s") × (n ≡ k)
string_says l n k e = (grind (arith, nat_tests), grind (arith, nat_tests))

pub number-says : (l n k : ℕ) → Number k ≡ tape_element l n → (l ≡ the "n") × (n ≡ k)
number-says l n k e = (grind (arith, nat_tests), grind (arith, nat_tests))

pub i64_says : (l n : ℕ) (z : ℤ) → I64 z ≡ tape_element l n → l ≡ the "j"
i64_says l n z e = grind (arith, nat_tests)

pub letter_law : LetterLaw
letter_law t o p h = go (letters o p h)
  where
    go : LeafFacts t.elements (offset_count t.offsets) p ⊎ (letter_at t.elements p ≡ 106) ⊎ (letter_at t.elements p ≡ 91) ⊎ (letter_at t.elements p ≡ 123) ⊎ (letter_at t.elements p ≡ 93) ⊎ (letter_at t.elements p ≡ 125)
        → letter_of (tape_element_at t p) ≡ letter_at t.elements p
    go (inl (inl a)) = rw a.0 refl
    go (inl (inr (inl a))) = rw a.0 refl
    go (inl (inr (inr (inl a)))) = rw a refl
    go (inl (inr (inr (inr (inl a))))) = rw a.0 refl
    go (inl (inr (inr (inr (inr (inl a)))))) = rw a.0 refl
    go (inl (inr (inr (inr (inr (inr a)))))) = rw a.0 refl
    go (inr (inl a)) = rw a refl
    go (inr (inr (inl a))) = rw a refl
    go (inr (inr (inr (inl a)))) = rw a refl
    go (inr (inr (inr (inr (inl a))))) = rw a refl
    go (inr (inr (inr (inr (inr a))))) = rw a refl
