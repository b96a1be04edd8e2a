-- Cell, where there are such a batch and node.
use Rattle.std.proofs.Common.{◌≡◌, ℕ, ◌+◌, ◌-◌, ◌<◌, cond, List, [], length, get_or, take, sym, ap, ◌∙◌, ap₂, arith}
use Rattle.std.proofs.lemmas.Bool.{lt-ltb}
use Rattle.slip.specs.Slips.{refuse, not_there}
use Rattle.octets.specs.Lists.{part}
use Rattle.schema.specs.Tree.{nodes, node_at}
use Rattle.schema.specs.declared.Schema.{Schema}
use Rattle.batch.specs.Values.{Setup}
use Rattle.batch.specs.Batch.{bytes_of}
use Rattle.batch.specs.Cells.{slot_cell, batch_cell, shape_of}
use Rattle.batch.specs.declared.cell.Shape.{Shape}
use Rattle.laws.specs.Shelf.{Held, used}
use Rattle.laws.specs.Calls.{cell_at}
use Rattle.shelf.specs.Standing.{start_in, Holds}
use Rattle.shelf.proofs.Holding.{start_is, batch_is}

pub cell-at : {st : Setup} {schema : Schema} {bytes ends : List ℕ} {held : Held st} (h : Holds st schema bytes ends held)
    (i n slot from to : ℕ) (shape : Shape) → i < length held → n < length (nodes st.root) → from ≡ start_in ends i → to ≡ start_in ends (i + 1)
    → shape ≡ shape_of st (node_at st.root n)
    → slot_cell shape from (part bytes from (to - from)) n slot ≡ cell_at st held i n slot
cell-at {st} {schema} {bytes} {ends} {held} h i n slot from to shape l k e f s =
    let base : from ≡ used st (take i held) = e ∙ start_is h i (omega arith) in
    let own : part bytes from (to - from) ≡ bytes_of st (get_or held i []) = ap₂ (λ a b. part bytes a (b - a)) e f ∙ batch_is h i l in
    ap₂ (λ b bs. slot_cell shape b bs n slot) base own
    ∙ ap (λ sh. slot_cell sh (used st (take i held)) (bytes_of st (get_or held i [])) n slot) s
    ∙ sym (ap (λ b. cond b (slot_cell (shape_of st (node_at st.root n)) (used st (take i held)) (bytes_of st (get_or held i [])) n slot) (refuse not_there)) (lt-ltb n (length (nodes st.root)) k))
    ∙ sym (ap (λ b. cond b (batch_cell st (used st (take i held)) (bytes_of st (get_or held i [])) n slot) (refuse not_there)) (lt-ltb i (length held) l))
