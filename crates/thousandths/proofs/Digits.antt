-- A digit, and the number so far.
use Rattle.std.proofs.Common.{◌≡◌, ℕ, zero, suc, ◌^◌, ◌<◌, ◌≤◌, List, [], ◌∷◌, length, get_or, take, arith}
use Rattle.std.specs.Str.Parse.{digits_value, AllDigits}
use Rattle.std.proofs.lemmas.List.{length-take-le}
use Rattle.std.proofs.lemmas.Str.Parse.{digit_at, digits_value_short, numerals_by_value, tells_digits}

pub digits_take : (n : ℕ) (ds : List ℕ) → AllDigits 10 ds → AllDigits 10 (take n ds)
digits_take zero ds all = tt
digits_take (suc n) [] all = tt
digits_take (suc n) (d ∷ ds) all = (all.0, digits_take n ds all.1)

pub digit_fits : (ds : List ℕ) (i n : ℕ) → AllDigits 10 ds → length ds ≤ 18 → i < length ds → n ≡ digits_value 10 (take i ds) → (48 ≤ get_or ds i 0) × (get_or ds i 0 ≤ 57) × (n < 10 ^ 17)
digit_fits ds i n all few h e =
    let d = digit_at ds i all h in
    let short = length-take-le i ds (omega arith) in
    let part = digits_take i ds all in
    (d.0, d.1, omega (arith, digits_value_short (numerals_by_value _ tells_digits) (take i ds) 17 part (omega arith)))
