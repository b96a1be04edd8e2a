-- A text has a reading exactly where its parts are proper, and then just the one.
use Rattle.std.proofs.Common.{◌≡◌, ℕ, suc, ◌+◌, ◌<◌, ◌≤◌, Bool, true, false, cond, List, [], ◌∷◌, ◌++◌, length, get_or, take, drop, codes, sym, refl, ap, ◌∙◌, subst, one-add, arith, take-append-drop}
use Rattle.std.specs.Str.Parse.{AllDigits}
use Rattle.std.specs.Char.{is_ascii_digit, digit_value}
use Rattle.std.specs.List.{prefix_len}
use Rattle.std.proofs.lemmas.Grind.{common_steps}
use Rattle.std.proofs.lemmas.List.{take_at, drop_at, append-nil}
use Rattle.std.proofs.lemmas.Str.Parse.{digit_from_value}
use Rattle.std.proofs.lemmas.Str.{digit_value_digit}
use Rattle.std.proofs.lemmas.Bool.{eq-eqb, ne_eqb, lt-ltb, le-leb, cond-true, cond-false, and_from, and_left, and_right, and_parts, both_ways, false_from_ne_true}
use Rattle.thousandths.specs.Decimal.{Decimal, Unread, pointed}
use Rattle.thousandths.specs.Split.{minus_of, unsigned, front, behind, whole_fits, decimals_fit, proper}

-- the two words for a digit
value_ascii : (c : ℕ) → digit_value c < 10 → is_ascii_digit c ≡ true
value_ascii c h = grind (arith, digit_from_value)

ascii_value : (c : ℕ) → is_ascii_digit c ≡ true → digit_value c < 10
ascii_value c h = grind (arith, digit_value_digit)

-- the digits in front
front_digits : (s : List ℕ) → AllDigits 10 (front s)
front_digits [] = tt
front_digits (x ∷ xs) = go (front_digits xs) (is_ascii_digit x) refl
  where
    go : AllDigits 10 (front xs) → (b : Bool) → is_ascii_digit x ≡ b → AllDigits 10 (front (x ∷ xs))
    go rest true e =
        let n : prefix_len is_ascii_digit (x ∷ xs) ≡ suc (prefix_len is_ascii_digit xs) = cond-true _ _ _ e ∙ one-add _ in
        let P : ℕ → Type 0 = λ k. AllDigits 10 (take k (x ∷ xs)) in
        subst P (sym n) (ascii_value x e, rest)
    go rest false e =
        let P : ℕ → Type 0 = λ k. AllDigits 10 (take k (x ∷ xs)) in
        subst P (sym (cond-false (is_ascii_digit x) (1 + prefix_len is_ascii_digit xs) 0 e)) tt

leading_digits : (w r : List ℕ) → AllDigits 10 w → prefix_len is_ascii_digit r ≡ 0 → prefix_len is_ascii_digit (w ++ r) ≡ length w
leading_digits [] r all none = none
leading_digits (x ∷ xs) r all none = grind (arith, value_ascii x, leading_digits xs r)

all_digits : (ds : List ℕ) → prefix_len is_ascii_digit ds ≡ length ds → AllDigits 10 ds
all_digits ds h = grind (arith, common_steps, front_digits ds)

leading_all : (ds : List ℕ) → AllDigits 10 ds → prefix_len is_ascii_digit ds ≡ length ds
leading_all ds all = ap (prefix_len is_ascii_digit) (sym (append-nil ds)) ∙ leading_digits ds [] all refl

-- from the parts to the text
sign_spelled : (t : List ℕ) → t ≡ cond (minus_of t) (codes "-") [] ++ unsigned t
sign_spelled t = grind arith

record Tail (r : List ℕ) : Type 0 where
  is : r ≡ pointed (drop 1 r)
  digits : AllDigits 10 (drop 1 r)
  few : length (drop 1 r) ≤ 18

tail_of : (r : List ℕ) → decimals_fit r ≡ true → Tail r
tail_of r h = grind (arith, all_digits)

record Whole (w : List ℕ) : Type 0 where
  some : 1 ≤ length w
  few : length w ≤ 12
  lead : get_or w 0 0 ≡ 48 → length w ≡ 1

whole_of : (w : List ℕ) → whole_fits w ≡ true → Whole w
whole_of w h = grind arith

whole-fits : (w : List ℕ) → Whole w → whole_fits w ≡ true
whole-fits w h = grind arith

pub reads : (t : List ℕ) → proper t ≡ true → Decimal t (minus_of t) (front (unsigned t)) (drop 1 (behind (unsigned t)))
reads t h =
    let p = and_parts (whole_fits (front (unsigned t))) _ h in
    let w = whole_of (front (unsigned t)) p.0 in
    let d = tail_of (behind (unsigned t)) p.1 in
    let cut : front (unsigned t) ++ behind (unsigned t) ≡ unsigned t = take-append-drop _ (unsigned t) in
    record {
      spelled = sign_spelled t ∙ ap (λ (s : List ℕ). cond (minus_of t) (codes "-") [] ++ s) (sym cut ∙ ap (λ (s : List ℕ). front (unsigned t) ++ s) d.is);
      whole_digits = front_digits (unsigned t);
      some = w.some;
      few = w.few;
      lead = w.lead;
      decimal_digits = d.digits;
      places = d.few;
    }

-- from the text to the parts
pub record Read (t : List ℕ) (m : Bool) (w d : List ℕ) : Type 0 where
  pub good : proper t ≡ true
  pub sign : m ≡ minus_of t
  pub whole : w ≡ front (unsigned t)
  pub decimals : d ≡ drop 1 (behind (unsigned t))

point_fits : (d : List ℕ) → AllDigits 10 d → length d ≤ 18 → decimals_fit (pointed d) ≡ true
point_fits [] all few = refl
point_fits (x ∷ xs) all few =
    and_from _ _ (eq-eqb _ _ (leading_all (x ∷ xs) all)) (and_from _ _ (lt-ltb 0 (length (x ∷ xs)) (omega arith)) (le-leb (length (x ∷ xs)) 18 few))

point_none : (d : List ℕ) → prefix_len is_ascii_digit (pointed d) ≡ 0
point_none d = grind arith

point_drop : (d : List ℕ) → d ≡ drop 1 (pointed d)
point_drop d = grind arith

-- a text without its sign
read_size : (t : List ℕ) (m : Bool) (w d : List ℕ) → m ≡ minus_of t → w ++ pointed d ≡ unsigned t → AllDigits 10 w → Whole w → AllDigits 10 d → length d ≤ 18 → Read t m w d
read_size t m w d sign is dw hw dd few =
    let n : prefix_len is_ascii_digit (w ++ pointed d) ≡ length w = leading_digits w (pointed d) dw (point_none d) in
    let f : w ≡ front (unsigned t) = sym (take_at w (pointed d) _ (sym n)) ∙ ap front is in
    let b : pointed d ≡ behind (unsigned t) = sym (drop_at w (pointed d) _ (sym n)) ∙ ap behind is in
    record {
      good = and_from _ _ (ap whole_fits (sym f) ∙ whole-fits w hw) (ap decimals_fit (sym b) ∙ point_fits d dd few);
      sign = sign;
      whole = f;
      decimals = point_drop d ∙ ap (λ (s : List ℕ). drop 1 s) b;
    }

no_minus : (w r : List ℕ) → AllDigits 10 w → 1 ≤ length w → minus_of (w ++ r) ≡ false
no_minus [] r all some = absurd (omega arith)
no_minus (x ∷ xs) r all some = let d = digit_from_value x all.0 in ne_eqb x 45 (omega arith)

pub read_by : (t : List ℕ) (m : Bool) (w d : List ℕ) → Decimal t m w d → Read t m w d
read_by t m w d h =
    let P : List ℕ → Type 0 = λ u. Read u m w d in
    subst P (sym h.spelled) (go m)
  where
    hw : Whole w
    hw = record { some = h.some; few = h.few; lead = h.lead }

    go : (b : Bool) → Read (cond b (codes "-") [] ++ (w ++ pointed d)) b w d
    go true = read_size (codes "-" ++ (w ++ pointed d)) true w d refl refl h.whole_digits hw h.decimal_digits h.places
    go false =
        let n = no_minus w (pointed d) h.whole_digits h.some in
        read_size (w ++ pointed d) false w d (sym n) (sym (cond-false _ _ _ n)) h.whole_digits hw h.decimal_digits h.places

pub unread : (t : List ℕ) → proper t ≡ false → Unread t
unread t bad m w d r = both_ways (proper t) bad (read_by t m w d r).good

pub not_proper : (t : List ℕ) → Unread t → proper t ≡ false
not_proper t h = false_from_ne_true (proper t) (λ ok. h _ _ _ (reads t ok))

-- the parts as the code has them
pub reads_as : (t s : List ℕ) (m : Bool) (w r d : List ℕ) → m ≡ minus_of t → s ≡ unsigned t → w ≡ front s → r ≡ behind s → whole_fits w ≡ true → decimals_fit r ≡ true → d ≡ drop 1 r → Decimal t m w d
reads_as t s m w r d em es ew er ok fit ed =
    let w-is : w ≡ front (unsigned t) = ew ∙ ap front es in
    let r-is : r ≡ behind (unsigned t) = er ∙ ap behind es in
    let good : proper t ≡ true = and_from _ _ (ap whole_fits (sym w-is) ∙ ok) (ap decimals_fit (sym r-is) ∙ fit) in
    let P : Bool → Type 0 = λ b. Decimal t b w d in
    let Q : List ℕ → Type 0 = λ u. Decimal t (minus_of t) u d in
    let R : List ℕ → Type 0 = λ u. Decimal t (minus_of t) (front (unsigned t)) u in
    subst P (sym em) (subst Q (sym w-is) (subst R (sym (ed ∙ ap (λ (u : List ℕ). drop 1 u) r-is)) (reads t good)))

pub unread_whole : (t s w : List ℕ) → s ≡ unsigned t → w ≡ front s → whole_fits w ≡ false → Unread t
unread_whole t s w es ew bad = unread t (and_left _ _ (ap whole_fits (sym (ew ∙ ap front es)) ∙ bad))

pub unread_rest : (t s r : List ℕ) → s ≡ unsigned t → r ≡ behind s → decimals_fit r ≡ false → Unread t
unread_rest t s r es er bad = unread t (and_right (whole_fits (front (unsigned t))) _ (ap decimals_fit (sym (er ∙ ap behind es)) ∙ bad))
