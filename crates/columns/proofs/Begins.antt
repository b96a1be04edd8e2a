-- The buffers of a branch, row by row.
use Rattle.std.proofs.Common.{◌≡◌, ℕ, ◌+◌, ◌*◌, ◌/◌, ◌^◌, ◌<◌, ◌≤◌, Bool, true, false, cond, ◌&&◌, ltb, List, [], ◌∷◌, ◌++◌, length, replicate, sym, refl, ap, ◌∙◌, subst, ap₂, append_assoc, mul-le-mul_left, mul-add, arith, length-append}
use lib.ListN.{length-map, length-replicate}
use Rattle.std.proofs.lemmas.List.{append-nil, map-append, replicate-append-replicate}
use Rattle.octets.specs.Lists.{splice, is_some, or_else, starts, running, sum}
use Rattle.octets.specs.Numbers.{le, padded, pad, numbers, with_bit}
use Rattle.octets.proofs.Pieces.{length-pad, length-starts, length-running}
use Rattle.octets.proofs.Packs.{length-numbers}
use Rattle.schema.specs.declared.kind.Branch.{Branch}
use Rattle.schema.specs.declared.kind.Branch.TheVariants.{Struct as struct, List as list, Fixed as fixed}
use Rattle.batch.specs.Format.{Column, width}
use Rattle.batch.specs.Batch.{nulls, validity, column, sizes, branch_column, size_of, buffers}
use Rattle.columns.specs.Areas.{Plans}
use Rattle.columns.specs.Plans.{bytes_of}
use Rattle.columns.specs.Spans.{Row, firsts, marks, begun, is_ended, is_view, Laid, Begun, Suits, Counted, Closes}
use Rattle.columns.specs.declared.plan.Plan.{Plan}
use Rattle.columns.specs.declared.spans.Spans.{Spans}
use Rattle.columns.proofs.Fronts.{pad-zeros, length-firsts, bits_long, firsts_next, firsts-all, starts_push, running_is, marks_none, marks_next, marks-all}

-- the three kinds of columns, at offsets of any width
module _ (s n : ℕ) (os : List Row) where
  abbrev bare : Column
  bare = record { slots = s; nulls = n; validity = marks s n os; offsets = []; bytes = [] }

  abbrev lists : ℕ → Column
  lists w = record { slots = s; nulls = n; validity = marks s n os; offsets = firsts w (s + 1) (starts 0 (sizes os)); bytes = [] }

  abbrev views : ℕ → Column
  views w = record { slots = s; nulls = n; validity = marks s n os; offsets = firsts w s (starts 0 (sizes os)); bytes = firsts w s (sizes os) }

length-sizes : (os : List Row) → length (sizes os) ≡ length os
length-sizes os = length-map os _

-- sizes
validity_is : (b : Branch) (s n : ℕ) (os : List Row) → (begun b s n os).validity ≡ marks s n os
validity_is struct s n os = refl
validity_is (list false wide) s n os = refl
validity_is (list true wide) s n os = refl
validity_is (fixed count) s n os = refl
validity_is Branch.Map s n os = refl

cond-le : (b : Bool) (x : ℕ) → cond b x 0 ≤ x
cond-le true x = omega arith
cond-le false x = omega arith

none_long : (w n : ℕ) → length (firsts w n []) ≡ w * n
none_long w n = length-firsts w n [] (omega arith)

pub sizes_small : (b : Branch) (s n : ℕ) → s ≤ 2 ^ 24 → (length (begun b s n []).offsets < 2 ^ 40) × (length (begun b s n []).bytes < 2 ^ 40)
sizes_small struct s n h = (omega arith, omega arith)
sizes_small (list false true) s n h = (omega (arith, none_long 8 (s + 1)), omega arith)
sizes_small (list false false) s n h = (omega (arith, none_long 4 (s + 1)), omega arith)
sizes_small (list true true) s n h = (omega (arith, none_long 8 s), omega (arith, none_long 8 s))
sizes_small (list true false) s n h = (omega (arith, none_long 4 s), omega (arith, none_long 4 s))
sizes_small (fixed count) s n h = (omega arith, omega arith)
sizes_small Branch.Map s n h = (omega (arith, none_long 4 (s + 1)), omega arith)

-- the bytes of the bits
abbrev pub bit_bytes : (slots nulls : ℕ) → ℕ
bit_bytes s n = cond (ltb 0 n) ((s + 7) / 8) 0

pub laid_bits : (s : Spans) → Laid s → s.plan.validity ≡ bit_bytes s.plan.slots s.plan.nulls
laid_bits s l =
    l.plans.validity ∙ ap length (validity_is s.branch s.plan.slots s.plan.nulls [])
    ∙ bits_long {A = List (List ℕ)} s.plan.slots s.plan.nulls [] (omega arith)

-- what is laid is small
pub laid_small : (s : Spans) → Laid s → (s.plan.validity < 2 ^ 40) × (s.plan.offsets < 2 ^ 40) × (s.plan.data_size < 2 ^ 40)
laid_small s l =
    let b = s.branch in
    let p = l.plans in
    let v = laid_bits s l in
    let k = cond-le (ltb 0 s.plan.nulls) ((s.plan.slots + 7) / 8) in
    let m = sizes_small b s.plan.slots s.plan.nulls l.few in
    (omega (arith, v, l.few), omega (arith, p.offsets, m.0), omega (arith, p.data_size, m.1))

no_way : {P : Type 0} → false ≡ true → P
no_way e = let z : ◌≡◌ {A = ℕ} 0 1 = ap (λ b. cond b 1 0) e in absurd (omega arith)

-- a number has room behind others
within : (w k m : ℕ) → k < m → w * k + w ≤ w * m
within w k m h = let e : w * (k + 1) ≤ w * m = mul-le-mul_left w (omega arith) in omega (arith, mul-add w k 1)

pub room-ended : (b : Branch) (w s n row : ℕ) → is_ended b ≡ true → Suits w b → row ≤ s → w * row + w ≤ length (begun b s n []).offsets
room-ended struct w s n row is suits h = no_way is
room-ended (list false wide) w s n row is suits h = rw (suits, none_long (width wide) (s + 1)) (within (width wide) row (s + 1) (omega arith))
room-ended (list true wide) w s n row is suits h = no_way is
room-ended (fixed count) w s n row is suits h = no_way is
room-ended Branch.Map w s n row is suits h = rw (suits, none_long 4 (s + 1)) (within 4 row (s + 1) (omega arith))

pub room-viewed : (b : Branch) (w s n row : ℕ) → is_view b ≡ true → Suits w b → row < s → (w * row + w ≤ length (begun b s n []).offsets) × (w * row + w ≤ length (begun b s n []).bytes)
room-viewed struct w s n row is suits h = no_way is
room-viewed (list false wide) w s n row is suits h = no_way is
room-viewed (list true wide) w s n row is suits h =
    let l : w * row + w ≤ length (firsts (width wide) s []) = rw (suits, none_long (width wide) s) (within (width wide) row s h) in (l, l)
room-viewed (fixed count) w s n row is suits h = no_way is
room-viewed Branch.Map w s n row is suits h = no_way is

-- one row more
module _ (s n : ℕ) (os : List Row) (o : Row) (valid : Bool) (h : length os < s) (some : is_some o ≡ valid) (out0 out1 : List ℕ) (bit : out1 ≡ cond (valid && ltb 0 n) (with_bit out0 (length os)) out0) where
  bit_next : (rest : List ℕ) → out0 ≡ pad (marks s n os) ++ rest → out1 ≡ pad (marks s n (os ++ (o ∷ []))) ++ rest
  bit_next rest e = bit ∙ ap (λ t. cond (valid && ltb 0 n) (with_bit t (length os)) t) e ∙ marks_next s n os o rest valid h some

  front : length (pad (marks s n (os ++ (o ∷ [])))) ≡ padded (bit_bytes s n)
  front = length-pad (marks s n (os ++ (o ∷ []))) ∙ ap padded (bits_long s n (os ++ (o ∷ [])) (omega (arith, length-append os (o ∷ []))))

  sizes_next : sizes (os ++ (o ∷ [])) ≡ sizes os ++ (length (or_else [] o) ∷ [])
  sizes_next = map-append _ os (o ∷ [])

  starts_next : (start : ℕ) → sum (sizes os) ≡ start → starts 0 (sizes (os ++ (o ∷ []))) ≡ starts 0 (sizes os) ++ (start ∷ [])
  starts_next start e = ap (starts 0) sizes_next ∙ starts_push 0 (sizes os) _ ∙ ap (λ k. starts 0 (sizes os) ++ (k ∷ [])) (omega arith)

  many : length (starts 0 (sizes os)) ≡ length os
  many = length-starts 0 (sizes os) ∙ length-sizes os

  bare_next : out0 ≡ buffers (bare s n os ∷ []) → out1 ≡ buffers (bare s n (os ++ (o ∷ [])) ∷ [])
  bare_next e = bit_next _ e

  lists_next : (w start place : ℕ) (out2 : List ℕ) → sum (sizes os) ≡ start → place ≡ padded (bit_bytes s n) + w * length os
      → out2 ≡ splice out1 place (le w start) → out0 ≡ buffers (lists s n os w ∷ []) → out2 ≡ buffers (lists s n (os ++ (o ∷ [])) w ∷ [])
  lists_next w start place out2 all at put e =
      put ∙ ap (λ t. splice t place (le w start)) (bit_next _ e)
      ∙ firsts_next w (s + 1) (starts 0 (sizes os)) start (pad (marks s n (os ++ (o ∷ [])))) _ place (omega (arith, many)) (at ∙ omega (arith, front, ap (λ k. w * k) many))
      ∙ ap (λ t. pad (marks s n (os ++ (o ∷ []))) ++ (pad (firsts w (s + 1) t) ++ (pad [] ++ []))) (sym (starts_next start all))

  views_next : (w start size place place' : ℕ) (out2 out3 : List ℕ) → sum (sizes os) ≡ start → length (or_else [] o) ≡ size
      → place ≡ padded (bit_bytes s n) + w * length os → place' ≡ padded (bit_bytes s n) + padded (w * s) + w * length os
      → out2 ≡ splice out1 place (le w start) → out3 ≡ splice out2 place' (le w size)
      → out0 ≡ buffers (views s n os w ∷ []) → out3 ≡ buffers (views s n (os ++ (o ∷ [])) w ∷ [])
  views_next w start size place place' out2 out3 all one at at' put put' e =
      let V = pad (marks s n (os ++ (o ∷ []))) in
      let F : List ℕ = pad (firsts w s (starts 0 (sizes os) ++ (start ∷ []))) in
      let f : length F ≡ padded (w * s) = length-pad (firsts w s (starts 0 (sizes os) ++ (start ∷ []))) ∙ ap padded (length-firsts w s (starts 0 (sizes os) ++ (start ∷ [])) (omega (arith, length-append (starts 0 (sizes os)) (start ∷ []), many))) in
      let half : out2 ≡ V ++ (F ++ (pad (firsts w s (sizes os)) ++ [])) =
      put ∙ ap (λ t. splice t place (le w start)) (bit_next _ e)
      ∙ firsts_next w s (starts 0 (sizes os)) start V _ place (omega (arith, many)) (at ∙ omega (arith, front, ap (λ k. w * k) many)) in
      let l = length-append V F in
      put' ∙ ap (λ t. splice t place' (le w size)) (half ∙ sym (append_assoc V F (pad (firsts w s (sizes os)) ++ [])))
      ∙ firsts_next w s (sizes os) size (V ++ F) [] place' (omega (arith, length-sizes os)) (at' ∙ omega (arith, front, f, l, ap (λ k. w * k) (length-sizes os)))
      ∙ append_assoc V F (pad (firsts w s (sizes os ++ (size ∷ []))) ++ [])
      ∙ ap (λ t. V ++ (pad (firsts w s t) ++ (pad (firsts w s (sizes os ++ (size ∷ []))) ++ []))) (sym (starts_next start all))
      ∙ ap (λ t. V ++ (pad (firsts w s (starts 0 (sizes (os ++ (o ∷ []))))) ++ (pad (firsts w s t) ++ []))) (ap (λ k. sizes os ++ (k ∷ [])) (sym one) ∙ sym sizes_next)

-- a row of each kind of branch, from the buffers with `os` to those with `o` behind them
abbrev From : Branch → (s n : ℕ) → List Row → List ℕ → Type 0
From b s n os out = out ≡ buffers (begun b s n os ∷ [])

module _ (s n : ℕ) (os : List Row) (o : Row) (valid : Bool) (row : ℕ) (h : row < s) (at : length os ≡ row) (some : is_some o ≡ valid) (out0 out1 : List ℕ) (bit : out1 ≡ cond (valid && ltb 0 n) (with_bit out0 row) out0) where
  here : length os < s
  here = omega arith

  bit' : out1 ≡ cond (valid && ltb 0 n) (with_bit out0 (length os)) out0
  bit' = rw at bit

  pub plain_row : (b : Branch) → is_ended b ≡ false → is_view b ≡ false → From b s n os out0 → From b s n (os ++ (o ∷ [])) out1
  plain_row struct no-end no-view e = bare_next s n os o valid here some out0 out1 bit' e
  plain_row (list false wide) no-end no-view e = no_way (sym no-end)
  plain_row (list true wide) no-end no-view e = no_way (sym no-view)
  plain_row (fixed count) no-end no-view e = bare_next s n os o valid here some out0 out1 bit' e
  plain_row Branch.Map no-end no-view e = no_way (sym no-end)

  pub ended-row : (b : Branch) (w start size place : ℕ) (out2 : List ℕ) → is_ended b ≡ true → Suits w b → Counted b os o start size
      → place ≡ padded (bit_bytes s n) + w * row → out2 ≡ splice out1 place (le w start) → From b s n os out0 → From b s n (os ++ (o ∷ [])) out2
  ended-row struct w start size place out2 is suits counted p put e = no_way is
  ended-row (list false wide) w start size place out2 is suits counted p put e =
      lists_next s n os o valid here some out0 out1 bit' (width wide) start place out2 counted.0 (p ∙ rw (suits, at)) (put ∙ rw suits) e
  ended-row (list true wide) w start size place out2 is suits counted p put e = no_way is
  ended-row (fixed count) w start size place out2 is suits counted p put e = no_way is
  ended-row Branch.Map w start size place out2 is suits counted p put e =
      lists_next s n os o valid here some out0 out1 bit' 4 start place out2 counted.0 (p ∙ rw (suits, at)) (put ∙ rw suits) e

  pub viewed-row : (b : Branch) (w start size place offsets place' : ℕ) (out2 out3 : List ℕ) → is_view b ≡ true → Suits w b → Counted b os o start size
      → place ≡ padded (bit_bytes s n) + w * row → offsets ≡ length (begun b s n []).offsets → place' ≡ padded (bit_bytes s n) + padded offsets + w * row
      → out2 ≡ splice out1 place (le w start) → out3 ≡ splice out2 place' (le w size) → From b s n os out0 → From b s n (os ++ (o ∷ [])) out3
  viewed-row struct w start size place offsets place' out2 out3 is suits counted p q p' put put' e = no_way is
  viewed-row (list false wide) w start size place offsets place' out2 out3 is suits counted p q p' put put' e = no_way is
  viewed-row (list true wide) w start size place offsets place' out2 out3 is suits counted p q p' put put' e =
      views_next s n os o valid here some out0 out1 bit' (width wide) start size place place' out2 out3 counted.0 counted.1 (p ∙ rw (suits, at)) (p' ∙ rw (q, none_long (width wide) s, suits, at)) (put ∙ rw suits) (put' ∙ rw suits) e
  viewed-row (fixed count) w start size place offsets place' out2 out3 is suits counted p q p' put put' e = no_way is
  viewed-row Branch.Map w start size place offsets place' out2 out3 is suits counted p q p' put put' e = no_way is

-- all rows
module _ (s n : ℕ) (os : List Row) (all : length os ≡ s) (missing : nulls os ≡ n) where
  bare_close : buffers (bare s n os ∷ []) ≡ buffers (column os [] [] ∷ [])
  bare_close = ap (λ t. pad t ++ (pad [] ++ (pad [] ++ []))) (marks-all s n os all missing)

  lists_close : (w items place : ℕ) (out0 out1 : List ℕ) → sum (sizes os) ≡ items → place ≡ padded (bit_bytes s n) + w * s → out1 ≡ splice out0 place (le w items)
      → out0 ≡ buffers (lists s n os w ∷ []) → out1 ≡ buffers (column os (numbers w (running 0 (sizes os))) [] ∷ [])
  lists_close w items place out0 out1 total at put e =
      let many : length (starts 0 (sizes os)) ≡ s = length-starts 0 (sizes os) ∙ length-sizes os ∙ all in
      let front : length (pad (marks s n os)) ≡ padded (bit_bytes s n) = length-pad (marks s n os) ∙ ap padded (bits_long s n os (omega arith)) in
      let last : starts 0 (sizes os) ++ (items ∷ []) ≡ running 0 (sizes os) = sym (running_is 0 (sizes os) ∙ ap (λ k. starts 0 (sizes os) ++ (k ∷ [])) (omega arith)) in
      put ∙ ap (λ t. splice t place (le w items)) e
      ∙ firsts_next w (s + 1) (starts 0 (sizes os)) items (pad (marks s n os)) _ place (omega arith) (at ∙ omega (arith, front, ap (λ k. w * k) many))
      ∙ ap (λ t. pad (marks s n os) ++ (pad (firsts w (s + 1) t) ++ (pad [] ++ []))) last
      ∙ ap₂ (λ v t. pad v ++ (pad t ++ (pad [] ++ []))) (marks-all s n os all missing)
      (firsts-all w (s + 1) (running 0 (sizes os)) (length-running 0 (sizes os) ∙ omega (arith, length-sizes os)))

  views_close : (w : ℕ) → buffers (views s n os w ∷ []) ≡ buffers (column os (numbers w (starts 0 (sizes os))) (numbers w (sizes os)) ∷ [])
  views_close w =
      let many : length (starts 0 (sizes os)) ≡ s = length-starts 0 (sizes os) ∙ length-sizes os ∙ all in
      ap (λ v. pad v ++ (pad (firsts w s (starts 0 (sizes os))) ++ (pad (firsts w s (sizes os)) ++ []))) (marks-all s n os all missing)
      ∙ ap₂ (λ f t. pad (validity os) ++ (pad f ++ (pad t ++ []))) (firsts-all w s (starts 0 (sizes os)) many) (firsts-all w s (sizes os) (length-sizes os ∙ all))

  pub open_close : (b : Branch) (out : List ℕ) → is_ended b ≡ false → From b s n os out → out ≡ buffers (branch_column b os ∷ [])
  open_close struct out is e = e ∙ bare_close
  open_close (list false wide) out is e = no_way (sym is)
  open_close (list true wide) out is e = e ∙ views_close (width wide)
  open_close (fixed count) out is e = e ∙ bare_close
  open_close Branch.Map out is e = no_way (sym is)

  pub ended_close : (b : Branch) (w items place : ℕ) (out0 out1 : List ℕ) → is_ended b ≡ true → Suits w b → Closes b os items
      → place ≡ padded (bit_bytes s n) + w * s → out1 ≡ splice out0 place (le w items) → From b s n os out0 → out1 ≡ buffers (branch_column b os ∷ [])
  ended_close struct w items place out0 out1 is suits closes p put e = no_way is
  ended_close (list false wide) w items place out0 out1 is suits closes p put e = lists_close (width wide) items place out0 out1 closes (p ∙ rw suits) (put ∙ rw suits) e
  ended_close (list true wide) w items place out0 out1 is suits closes p put e = no_way is
  ended_close (fixed count) w items place out0 out1 is suits closes p put e = no_way is
  ended_close Branch.Map w items place out0 out1 is suits closes p put e = lists_close 4 items place out0 out1 closes (p ∙ rw suits) (put ∙ rw suits) e

-- no rows: zeros
zeros_again : (k : ℕ) (xs : List ℕ) → xs ≡ replicate k 0 → pad xs ≡ replicate (padded (length xs)) 0
zeros_again k xs e =
    ap pad (e ∙ ap (λ m. replicate m 0) (sym (ap length e ∙ length-replicate k 0))) ∙ pad-zeros (length xs)

zeros-column : (c : Column) (i j k : ℕ) → c.validity ≡ replicate i 0 → c.offsets ≡ replicate j 0 → c.bytes ≡ replicate k 0 → buffers (c ∷ []) ≡ replicate (size_of c) 0
zeros-column c i j k v o b =
    rw (zeros_again i c.validity v, zeros_again j c.offsets o, zeros_again k c.bytes b)
    (ap (λ t. replicate (padded (length c.validity)) 0 ++ (replicate (padded (length c.offsets)) 0 ++ t)) (append-nil (replicate (padded (length c.bytes)) 0))
    ∙ ap (λ t. replicate (padded (length c.validity)) 0 ++ t) (replicate-append-replicate (padded (length c.offsets)) (padded (length c.bytes)) 0)
    ∙ replicate-append-replicate (padded (length c.validity)) (padded (length c.offsets) + padded (length c.bytes)) 0
    ∙ ap (λ m. replicate m 0) (omega arith))

none_zeros : (b : Branch) (s n : ℕ) → buffers (begun b s n [] ∷ []) ≡ replicate (size_of (begun b s n [])) 0
none_zeros struct s n = zeros-column (begun struct s n []) (bit_bytes s n) 0 0 (marks_none (List (List ℕ)) s n) refl refl
none_zeros (list false wide) s n = zeros-column (begun (list false wide) s n []) (bit_bytes s n) _ 0 (marks_none (List (List ℕ)) s n) refl refl
none_zeros (list true wide) s n = zeros-column (begun (list true wide) s n []) (bit_bytes s n) _ _ (marks_none (List (List ℕ)) s n) refl refl
none_zeros (fixed count) s n = zeros-column (begun (fixed count) s n []) (bit_bytes s n) 0 0 (marks_none (List (List ℕ)) s n) refl refl
none_zeros Branch.Map s n = zeros-column (begun Branch.Map s n []) (bit_bytes s n) _ 0 (marks_none (List (List ℕ)) s n) refl refl

-- the sizes of a planned column
pub plans_size : (p : Plan) (c : Column) → Plans p c → bytes_of p ≡ size_of c
plans_size p c h = rw (h.validity, h.offsets, h.data_size)

pub begun_none : (s : Spans) (out : List ℕ) → Laid s → out ≡ replicate (bytes_of s.plan) 0 → Begun s out []
begun_none s out l e =
    e ∙ ap (λ m. replicate m 0) (plans_size s.plan _ l.plans) ∙ sym (none_zeros s.branch s.plan.slots s.plan.nulls)

-- the sizes do not depend on the rows
module _ (s n : ℕ) (os : List Row) (all : length os ≡ s) (missing : nulls os ≡ n) where
  bits_all : length (marks {A = List (List ℕ)} s n []) ≡ length (validity os)
  bits_all = bits_long {A = List (List ℕ)} s n [] (omega arith) ∙ sym (bits_long s n os (omega arith)) ∙ ap length (marks-all s n os all missing)

  ends_all : (w : ℕ) → length (firsts w (s + 1) []) ≡ length (numbers w (running 0 (sizes os)))
  ends_all w = none_long w (s + 1) ∙ ap (λ k. w * k) (omega (arith, length-running 0 (sizes os), length-sizes os)) ∙ sym (length-numbers w (running 0 (sizes os)))

  starts-all : (w : ℕ) → length (firsts w s []) ≡ length (numbers w (starts 0 (sizes os)))
  starts-all w = none_long w s ∙ ap (λ k. w * k) (omega (arith, length-starts 0 (sizes os), length-sizes os)) ∙ sym (length-numbers w (starts 0 (sizes os)))

  sizes-all : (w : ℕ) → length (firsts w s []) ≡ length (numbers w (sizes os))
  sizes-all w = none_long w s ∙ ap (λ k. w * k) (omega (arith, length-sizes os)) ∙ sym (length-numbers w (sizes os))

  pub plans_all : (b : Branch) (p : Plan) → Plans p (begun b s n []) → Plans p (branch_column b os)
  plans_all struct p h = record { slots = h.slots ∙ sym all; nulls = h.nulls ∙ sym missing; validity = h.validity ∙ bits_all; offsets = h.offsets; data_size = h.data_size }
  plans_all (list false wide) p h =
      record { slots = h.slots ∙ sym all; nulls = h.nulls ∙ sym missing; validity = h.validity ∙ bits_all; offsets = h.offsets ∙ ends_all (width wide); data_size = h.data_size }
  plans_all (list true wide) p h =
      record { slots = h.slots ∙ sym all; nulls = h.nulls ∙ sym missing; validity = h.validity ∙ bits_all; offsets = h.offsets ∙ starts-all (width wide); data_size = h.data_size ∙ sizes-all (width wide) }
  plans_all (fixed count) p h = record { slots = h.slots ∙ sym all; nulls = h.nulls ∙ sym missing; validity = h.validity ∙ bits_all; offsets = h.offsets; data_size = h.data_size }
  plans_all Branch.Map p h =
      record { slots = h.slots ∙ sym all; nulls = h.nulls ∙ sym missing; validity = h.validity ∙ bits_all; offsets = h.offsets ∙ ends_all 4; data_size = h.data_size }

-- a plan of the sizes, whatever the nulls
pub planned : (b : Branch) (s n : ℕ) (p : Plan) → p.slots ≡ s → p.nulls ≡ n → p.validity ≡ bit_bytes s n → p.offsets ≡ length (begun b s 0 []).offsets → p.data_size ≡ length (begun b s 0 []).bytes
    → Plans p (begun b s n [])
planned b s n p es en ev eo ed =
    record {
      slots = es ∙ sym (slots_is b);
      nulls = en ∙ sym (nulls_is b);
      validity = ev ∙ sym (ap length (validity_is b s n []) ∙ bits_long {A = List (List ℕ)} s n [] (omega arith));
      offsets = eo ∙ ap length (offsets_is b);
      data_size = ed ∙ ap length (bytes_is b);
    }
  where
    slots_is : (b : Branch) → (begun b s n []).slots ≡ s
    slots_is struct = refl
    slots_is (list false wide) = refl
    slots_is (list true wide) = refl
    slots_is (fixed count) = refl
    slots_is Branch.Map = refl

    nulls_is : (b : Branch) → (begun b s n []).nulls ≡ n
    nulls_is struct = refl
    nulls_is (list false wide) = refl
    nulls_is (list true wide) = refl
    nulls_is (fixed count) = refl
    nulls_is Branch.Map = refl

    offsets_is : (b : Branch) → (begun b s 0 []).offsets ≡ (begun b s n []).offsets
    offsets_is struct = refl
    offsets_is (list false wide) = refl
    offsets_is (list true wide) = refl
    offsets_is (fixed count) = refl
    offsets_is Branch.Map = refl

    bytes_is : (b : Branch) → (begun b s 0 []).bytes ≡ (begun b s n []).bytes
    bytes_is struct = refl
    bytes_is (list false wide) = refl
    bytes_is (list true wide) = refl
    bytes_is (fixed count) = refl
    bytes_is Branch.Map = refl

pub planned_same : (b : Branch) (s n : ℕ) (p : Plan) → p.slots ≡ s → p.nulls ≡ n → Plans p (begun b s n []) → Plans p (begun b p.slots p.nulls [])
planned_same b s n p es en h = subst (λ k. Plans p (begun b k p.nulls [])) (sym es) (subst (λ k. Plans p (begun b s k [])) (sym en) h)

-- the sizes by branch
pub offsets_of_list : (b : Branch) (view wide : Bool) (s : ℕ) → b ≡ list view wide → view ≡ false → width wide * (s + 1) ≡ length (begun b s 0 []).offsets
offsets_of_list b view wide s e f = rw (e, f) (sym (none_long (width wide) (s + 1)))

pub offsets_of_view : (b : Branch) (view wide : Bool) (s : ℕ) → b ≡ list view wide → view ≡ true → width wide * s ≡ length (begun b s 0 []).offsets
offsets_of_view b view wide s e f = rw (e, f) (sym (none_long (width wide) s))

pub offsets_of_map : (b : Branch) (s : ℕ) → b ≡ Branch.Map → 4 * (s + 1) ≡ length (begun b s 0 []).offsets
offsets_of_map b s e = rw e (sym (none_long 4 (s + 1)))

pub sizes_of_view : (b : Branch) (view wide : Bool) (s : ℕ) → b ≡ list view wide → view ≡ true → width wide * s ≡ length (begun b s 0 []).bytes
sizes_of_view b view wide s e f = rw (e, f) (sym (none_long (width wide) s))
