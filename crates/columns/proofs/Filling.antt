-- The buffers of a leaf, row by row.
use Rattle.std.proofs.Common.{◌≡◌, ℕ, ◌+◌, ◌-◌, ◌*◌, ◌/◌, ◌<◌, ◌≤◌, Bool, false, cond, List, [], ◌∷◌, ◌++◌, map, length, get_or, take, replicate, sym, refl, ap, ◌∙◌, ap₂, append_assoc, mul-le-mul_left, mul-add, arith, length-append}
use mathlib.Core.Option.{Option, none, some}
use lib.ListN.{length-map, length-replicate}
use Rattle.std.proofs.lemmas.List.{append-nil, take_more, take_all, take-map, map-append, replicate-append-replicate, length-take-le, get_or-map}
use Rattle.octets.specs.Lists.{splice, joined, or_else, starts, running, sum}
use Rattle.octets.specs.Numbers.{le, padded, pad, numbers, packed, with_bit}
use Rattle.octets.proofs.Pieces.{joined-append, length-starts, length-running, sum-take-le, length-pad}
use Rattle.octets.proofs.Splices.{splice_nil}
use Rattle.tape.specs.View.{TapeView, element_at}
use Rattle.leaf.specs.Meaning.{Meaning, Answer, nothing, conflict, misfit, value, shown}
use Rattle.leaf.specs.Replies.{reply_of}
use Rattle.leaf.specs.declared.layout.Reply.TheVariants.{Value}
use Rattle.batch.specs.Batch.{sizes}
use Rattle.columns.specs.Spans.{firsts}
use Rattle.columns.specs.Leaves.{cell_at, cells, bit_of}
use Rattle.columns.proofs.Scanning.{sum_push}
use Rattle.columns.proofs.Fronts.{splice-zeros, pad_by, pad-zeros, packed_none, filled, packed_next, firsts_next, firsts-all, length-firsts, starts_push, running_is}

-- a cell by its position
pub cell_here : (m : Meaning) (t : TapeView) (ps : List ℕ) (i : ℕ) → i < length ps → get_or (cells m t ps) i none ≡ cell_at m t (get_or ps i 0)
cell_here m t ps i h = get_or-map (cell_at m t) ps i 0 none h

-- bits
module _ (bs : List Bool) where
  abbrev pub BitsTo : ℕ → List ℕ
  BitsTo i = pad (packed (filled (length bs) (take i bs)))

  pub bits_start : (n : ℕ) (out : List ℕ) → n ≡ length bs → out ≡ replicate (padded ((n + 7) / 8)) 0 → out ≡ BitsTo 0
  bits_start n out e z =
      let all : length bs - 0 ≡ n = omega arith in
      z ∙ sym (pad-zeros ((n + 7) / 8)) ∙ ap pad (sym (ap (λ k. packed (replicate k false)) all ∙ packed_none n))

  pub bits_more : (i : ℕ) (out after : List ℕ) (b : Bool) → i < length bs → out ≡ BitsTo i → b ≡ get_or bs i false → after ≡ cond b (with_bit out i) out → after ≡ BitsTo (i + 1)
  bits_more i out after b h e f a =
      let l : length (take i bs) ≡ i = length-take-le i bs (omega arith) in
      let step = packed_next (length bs) (take i bs) b (omega (arith, l)) [] in
      a ∙ ap (λ t. cond b (with_bit t i) t) (e ∙ sym (append-nil (BitsTo i))) ∙ ap (λ k. cond b (with_bit (BitsTo i ++ []) k) (BitsTo i ++ [])) (sym l)
      ∙ step ∙ append-nil (pad (packed (filled (length bs) (take i bs ++ (b ∷ [])))))
      ∙ ap (λ t. pad (packed (filled (length bs) t))) (ap (λ x. take i bs ++ (x ∷ [])) f ∙ sym (take_more bs i false h))

  pub bits_end : (i : ℕ) (out : List ℕ) → length bs ≤ i → out ≡ BitsTo i → out ≡ pad (packed bs)
  bits_end i out h e =
      let none' : length bs - length bs ≡ 0 = omega arith in
      e ∙ ap (λ t. pad (packed (filled (length bs) t))) (take_all i bs h) ∙ ap (λ k. pad (packed (bs ++ replicate k false))) none' ∙ ap (λ t. pad (packed t)) (append-nil bs)

-- the bits of cells
pub cell_bits : (m : Meaning) (t : TapeView) (ps : List ℕ) (valid : Bool) → map (λ p. bit_of valid (shown (m.answer (element_at t p)))) ps ≡ map (bit_of valid) (cells m t ps)
cell_bits m t [] valid = refl
cell_bits m t (p ∷ ps) valid = ap (λ bs. bit_of valid (cell_at m t p) ∷ bs) (cell_bits m t ps valid)

-- a write to the first of some zeros at the end
splice_end : (P ys : List ℕ) (n i : ℕ) → i ≡ length P → length ys ≤ n → splice (P ++ replicate n 0) i ys ≡ (P ++ ys) ++ replicate (n - length ys) 0
splice_end P ys n i e h =
    ap (λ t. splice (P ++ t) i ys) (sym (append-nil (replicate n 0))) ∙ splice-zeros P ys [] n i e h
    ∙ ap (λ t. P ++ (ys ++ t)) (append-nil (replicate (n - length ys) 0)) ∙ sym (append_assoc P ys (replicate (n - length ys) 0))

abbrev Cell : Type 0
Cell = Option (List ℕ)

-- the bytes of some cells, one more
bytes_push : (z : List ℕ) (os : List Cell) (o : Cell) → joined (map (or_else z) (os ++ (o ∷ []))) ≡ joined (map (or_else z) os) ++ or_else z o
bytes_push z os o =
    ap joined (map-append (or_else z) os (o ∷ [])) ∙ joined-append (map (or_else z) os) (or_else z o ∷ []) ∙ ap (λ t. joined (map (or_else z) os) ++ t) (append-nil (or_else z o))

-- eight bytes a cell
module _ (os : List Cell) where
  abbrev eights : ℕ → List ℕ
  eights i = joined (map (or_else (replicate 8 0)) (take i os))

  abbrev pub EightsTo : ℕ → List ℕ → Type 0
  EightsTo i out = (out ≡ eights i ++ replicate (8 * (length os - i)) 0) × (length (eights i) ≡ 8 * i)

  pub eights-start : (n : ℕ) (out : List ℕ) → n ≡ length os → out ≡ replicate (8 * n) 0 → EightsTo 0 out
  eights-start n out e z = (z ∙ ap (λ k. replicate (8 * k) 0) (omega arith), refl)

  pub eights_more : (i : ℕ) (out after : List ℕ) (o : Cell) → i < length os → EightsTo i out → get_or os i none ≡ o → length (or_else (replicate 8 0) o) ≡ 8 → after ≡ splice out (8 * i) (or_else [] o) → EightsTo (i + 1) after
  eights_more i out after o h e is eight a =
      let more : eights (i + 1) ≡ eights i ++ or_else (replicate 8 0) o =
      ap (λ t. joined (map (or_else (replicate 8 0)) t)) (take_more os i none h ∙ ap (λ x. take i os ++ (x ∷ [])) is) ∙ bytes_push (replicate 8 0) (take i os) o in
      let left : 8 * (length os - i) - 8 ≡ 8 * (length os - (i + 1)) = omega arith in
      (go o eight a ∙ ap₂ (λ t k. t ++ replicate k 0) (sym more) left, ap length more ∙ length-append (eights i) (or_else (replicate 8 0) o) ∙ omega (arith, e.1))
    where
      go : (o : Cell) → length (or_else (replicate 8 0) o) ≡ 8 → after ≡ splice out (8 * i) (or_else [] o) → after ≡ (eights i ++ or_else (replicate 8 0) o) ++ replicate (8 * (length os - i) - 8) 0
      go none eight a =
          let both : 8 * (length os - i) ≡ 8 + (8 * (length os - i) - 8) = omega arith in
          a ∙ splice_nil out (8 * i) ∙ e.0 ∙ ap (λ k. eights i ++ replicate k 0) both
          ∙ ap (λ t. eights i ++ t) (sym (replicate-append-replicate 8 (8 * (length os - i) - 8) 0)) ∙ sym (append_assoc (eights i) (replicate 8 0) (replicate (8 * (length os - i) - 8) 0))
      go (some bs) eight a =
          a ∙ ap (λ t. splice t (8 * i) bs) e.0 ∙ splice_end (eights i) bs (8 * (length os - i)) (8 * i) (sym e.1) (omega arith)
          ∙ ap (λ k. (eights i ++ bs) ++ replicate (8 * (length os - i) - k) 0) eight

  pub eights_end : (i : ℕ) (out : List ℕ) → length os ≤ i → i ≤ length os → EightsTo i out → out ≡ pad (joined (map (or_else (replicate 8 0)) os))
  eights_end i out h h' e =
      let all : eights i ≡ joined (map (or_else (replicate 8 0)) os) = ap (λ t. joined (map (or_else (replicate 8 0)) t)) (take_all i os h) in
      let long : length (joined (map (or_else (replicate 8 0)) os)) ≡ 8 * length os = ap length (sym all) ∙ e.1 ∙ omega arith in
      e.0 ∙ ap₂ (λ t k. t ++ replicate k 0) all (omega arith) ∙ sym (pad_by (joined (map (or_else (replicate 8 0)) os)) (8 * length os) long)

-- offsets and bytes
pub texts_long : (os : List Cell) → length (joined (map (or_else []) os)) ≡ sum (sizes os)
texts_long [] = refl
texts_long (o ∷ os) = length-append (or_else [] o) (joined (map (or_else []) os)) ∙ ap (λ n. length (or_else [] o) + n) (texts_long os)

module _ (w : ℕ) (os : List Cell) where
  abbrev texts : ℕ → List ℕ
  texts i = joined (map (or_else []) (take i os))

  abbrev front : List ℕ → List ℕ
  front ns = pad (firsts w (length os + 1) ns)

  abbrev room : ℕ
  room = padded (sum (sizes os))

  abbrev pub TextsTo : ℕ → ℕ → List ℕ → Type 0
  TextsTo i end out = (out ≡ front (starts 0 (sizes (take i os))) ++ (texts i ++ replicate (room - end) 0)) × (end ≡ sum (sizes (take i os)))

  sizes_long : (os : List Cell) → length (sizes os) ≡ length os
  sizes_long os = length-map os _

  front_long : (ns : List ℕ) → length ns ≤ length os + 1 → length (front ns) ≡ padded (w * (length os + 1))
  front_long ns h = length-pad (firsts w (length os + 1) ns) ∙ ap padded (length-firsts w (length os + 1) ns h)

  some_sizes : (i : ℕ) → sum (sizes (take i os)) ≤ sum (sizes os)
  some_sizes i = rw (← take-map (λ o. length (or_else [] o)) i os) (sum-take-le (sizes os) i)

  taken-many : (i : ℕ) → i ≤ length os → length (starts 0 (sizes (take i os))) ≡ i
  taken-many i h = length-starts 0 (sizes (take i os)) ∙ sizes_long (take i os) ∙ length-take-le i os h

  pub texts-start : (n place : ℕ) (out : List ℕ) → n ≡ length os → place ≡ padded (w * (n + 1)) → out ≡ replicate (place + room) 0 → TextsTo 0 0 out
  texts-start n place out e p z =
      let none' : firsts w (length os + 1) [] ≡ replicate (w * (length os + 1)) 0 = ap (λ k. replicate (w * k) 0) (omega arith) in (
        z ∙ sym (replicate-append-replicate place room 0)
            ∙ ap₂ (λ a b. a ++ b) (ap (λ k. replicate k 0) (p ∙ ap (λ k. padded (w * (k + 1))) e) ∙ sym (ap pad none' ∙ pad-zeros (w * (length os + 1)))) (ap (λ k. replicate k 0) (omega arith)),
        refl,
      )

  module _ (i end : ℕ) (out : List ℕ) (o : Cell) (h : i < length os) (e : TextsTo i end out) (is : get_or os i none ≡ o) where
    next_sizes : sizes (take (i + 1) os) ≡ sizes (take i os) ++ (length (or_else [] o) ∷ [])
    next_sizes = ap sizes (take_more os i none h ∙ ap (λ x. take i os ++ (x ∷ [])) is) ∙ map-append _ (take i os) (o ∷ [])

    next_sum : sum (sizes (take (i + 1) os)) ≡ end + length (or_else [] o)
    next_sum = ap sum next_sizes ∙ sum_push (sizes (take i os)) (length (or_else [] o)) ∙ ap (λ n. n + length (or_else [] o)) (sym e.1)

    -- there is room for the next value
    pub value-fits : end + length (or_else [] o) ≤ room
    value-fits = omega (arith, next_sum, some_sizes (i + 1))

    pub texts_more : (place end' : ℕ) (mid after : List ℕ) → place ≡ padded (w * (length os + 1)) → mid ≡ splice out (w * i) (le w end) → after ≡ splice mid (place + end) (or_else [] o)
        → end' ≡ end + length (or_else [] o) → TextsTo (i + 1) end' after
    texts_more place end' mid after p m a n =
        let S = starts 0 (sizes (take i os)) in
        let many : length S ≡ i = taken-many i (omega arith) in
        let grown : S ++ (end ∷ []) ≡ starts 0 (sizes (take (i + 1) os)) =
        sym (ap (starts 0) next_sizes ∙ starts_push 0 (sizes (take i os)) (length (or_else [] o)) ∙ ap (λ k. S ++ (k ∷ [])) (omega (arith, e.1))) in
        let P = front (S ++ (end ∷ [])) ++ texts i in
        let long : length P ≡ place + end =
        length-append (front (S ++ (end ∷ []))) (texts i) ∙ omega (arith, front_long (S ++ (end ∷ [])) (omega (arith, many, length-append S (end ∷ []))), texts_long (take i os), e.1, p) in
        let half : mid ≡ P ++ replicate (room - end) 0 =
        m ∙ ap (λ t. splice t (w * i) (le w end)) e.0
        ∙ firsts_next w (length os + 1) S end [] (texts i ++ replicate (room - end) 0) (w * i) (omega (arith, many)) (omega (arith, ap (λ k. w * k) many))
        ∙ sym (append_assoc (front (S ++ (end ∷ []))) (texts i) (replicate (room - end) 0)) in
        let left : room - end - length (or_else [] o) ≡ room - end' = omega arith in
        let more : texts (i + 1) ≡ texts i ++ or_else [] o = ap (λ t. joined (map (or_else []) t)) (take_more os i none h ∙ ap (λ x. take i os ++ (x ∷ [])) is) ∙ bytes_push [] (take i os) o in
        let F = front (starts 0 (sizes (take (i + 1) os))) in
        let regroup : ((F ++ texts i) ++ or_else [] o) ++ replicate (room - end') 0 ≡ F ++ ((texts i ++ or_else [] o) ++ replicate (room - end') 0) = simp append_assoc in (
          a ∙ ap (λ t. splice t (place + end) (or_else [] o)) half ∙ splice_end P (or_else [] o) (room - end) (place + end) (sym long) (omega (arith, value-fits))
              ∙ ap₂ (λ t k. ((front t ++ texts i) ++ or_else [] o) ++ replicate k 0) grown left
              ∙ regroup ∙ ap (λ t. F ++ (t ++ replicate (room - end') 0)) (sym more),
          n ∙ sym next_sum,
        )

  pub texts_end : (i end : ℕ) (out after : List ℕ) → length os ≤ i → i ≤ length os → TextsTo i end out → after ≡ splice out (w * length os) (le w end)
      → after ≡ pad (numbers w (running 0 (sizes os))) ++ pad (joined (map (or_else []) os))
  texts_end i end out after h h' e a =
      let all : take i os ≡ os = take_all i os h in
      let S = starts 0 (sizes os) in
      let total : end ≡ sum (sizes os) = e.1 ∙ ap (λ t. sum (sizes t)) all in
      let whole : out ≡ front S ++ (joined (map (or_else []) os) ++ replicate (room - end) 0) =
      e.0 ∙ ap (λ t. front (starts 0 (sizes t)) ++ (joined (map (or_else []) t) ++ replicate (room - end) 0)) all in
      let many : length S ≡ length os = length-starts 0 (sizes os) ∙ sizes_long os in
      let last : S ++ (end ∷ []) ≡ running 0 (sizes os) = sym (running_is 0 (sizes os) ∙ ap (λ k. S ++ (k ∷ [])) (omega (arith, total))) in
      let bytes : joined (map (or_else []) os) ++ replicate (room - end) 0 ≡ pad (joined (map (or_else []) os)) =
      ap (λ k. joined (map (or_else []) os) ++ replicate (room - k) 0) total ∙ sym (pad_by (joined (map (or_else []) os)) (sum (sizes os)) (texts_long os)) in
      a ∙ ap (λ t. splice t (w * length os) (le w end)) whole
      ∙ firsts_next w (length os + 1) S end [] (joined (map (or_else []) os) ++ replicate (room - end) 0) (w * length os) (omega (arith, many)) (omega (arith, ap (λ k. w * k) many))
      ∙ ap₂ (λ t b. pad (firsts w (length os + 1) t) ++ b) last bytes
      ∙ ap (λ t. pad t ++ pad (joined (map (or_else []) os))) (firsts-all w (length os + 1) (running 0 (sizes os)) (length-running 0 (sizes os) ∙ ap (λ k. k + 1) (sizes_long os)))

  pub texts-length : (i end : ℕ) (out : List ℕ) → i ≤ length os → TextsTo i end out → (length out ≡ padded (w * (length os + 1)) + room) × (end ≤ room)
  texts-length i end out h e =
      let F = front (starts 0 (sizes (take i os))) in
      let le-room : end ≤ room = omega (arith, some_sizes i, e.1) in (
        ap length e.0 ∙ length-append F (texts i ++ replicate (room - end) 0)
            ∙ omega (arith, length-append (texts i) (replicate (room - end) 0), length-replicate {A = ℕ} (room - end) 0, texts_long (take i os), e.1, le-room, front_long (starts 0 (sizes (take i os))) (omega (arith, taken-many i h))),
        le-room,
      )

-- a value of one or eight bytes, from its answer
pub wide_cell : (k : ℕ) (a : Answer) → ((bs : List ℕ) → a ≡ value bs → length bs ≡ k) → length (or_else (replicate k 0) (shown a)) ≡ k
wide_cell k nothing f = length-replicate k 0
wide_cell k conflict f = length-replicate k 0
wide_cell k misfit f = length-replicate k 0
wide_cell k (value bs) f = f bs refl

pub thin_cell : (k : ℕ) (a : Answer) → ((bs : List ℕ) → a ≡ value bs → length bs ≡ k) → length (or_else [] (shown a)) ≤ k
thin_cell k nothing f = omega arith
thin_cell k conflict f = omega arith
thin_cell k misfit f = omega arith
thin_cell k (value bs) f = omega (arith, f bs refl)

-- what was not a value is none
pub no_value : (a : Answer) → ((n : ℕ) → reply_of a ≡ Value n → ⊥) → shown a ≡ none
no_value nothing f = refl
no_value conflict f = refl
no_value misfit f = refl
no_value (value bs) f = absurd (f (length bs) refl)

-- where the loop stands there is room for an offset and for the bytes so far
pub texts-room : (w : ℕ) (os : List Cell) (n i end place : ℕ) (out : List ℕ) → length os ≡ n → i ≤ n → place ≡ padded (w * (n + 1)) → TextsTo w os i end out
    → (w * i + w ≤ length out) × (w * i ≤ length out) × (place + end ≤ length out)
texts-room w os n i end place out many h p e =
    let l : w * (i + 1) ≤ w * (n + 1) = mul-le-mul_left w (omega arith) in
    let m = mul-add w i 1 in
    let size = texts-length w os i end out (omega arith) e in
    let same : padded (w * (length os + 1)) ≡ place = ap (λ k. padded (w * (k + 1))) many ∙ sym p in
    (omega arith, omega arith, omega arith)

-- and for the next value
pub value_room : (w : ℕ) (os : List Cell) (n i end place : ℕ) (out : List ℕ) (o : Cell) → length os ≡ n → i < n → place ≡ padded (w * (n + 1)) → TextsTo w os i end out → get_or os i none ≡ o
    → place + end + length (or_else [] o) ≤ length out
value_room w os n i end place out o many h p e is =
    let size = texts-length w os i end out (omega arith) e in
    let same : padded (w * (length os + 1)) ≡ place = ap (λ k. padded (w * (k + 1))) many ∙ sym p in
    omega (arith, value-fits w os i end out o (omega arith) e is)

-- and for the last offset
pub last_room : (w : ℕ) (os : List Cell) (n i end place : ℕ) (out : List ℕ) → length os ≡ n → n ≤ i → i ≤ n → place ≡ padded (w * (n + 1)) → TextsTo w os i end out
    → (w * n + w ≤ length out) × (w * n ≤ length out) × (end ≤ length out)
last_room w os n i end place out many h h' p e =
    let r = texts-room w os n i end place out many h' p e in
    let same : w * i ≡ w * n = ap (λ k. w * k) (omega arith) in
    (omega arith, omega arith, omega arith)
