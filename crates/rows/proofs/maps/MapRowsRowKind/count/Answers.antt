use Rattle.std.proofs.Common.{◌≡◌, ℕ, ◌/◌, [], ◌∷◌, length, ap, ◌∙◌, arith}
use mathlib.Core.Option.{some}
use Rattle.slip.specs.Slips.{Got, got}
use Rattle.tape.specs.Opened.{view_of}
use Rattle.tape.specs.View.{entries}
use Rattle.tape.proofs.Walks.{object_law}
use Rattle.schema.specs.declared.kind.Branch.{Branch}
use Rattle.batch.specs.Rows.{pairs}
use Rattle.rows.specs.Kinds.{named}
use Rattle.rows.proofs.Starts.{bracket-there}
use Rattle.rows.proofs.Sizes.{count_got, few_entries, length_pairs}
use Rattle.rows.proofs.maps.MapRowsRowKind.count.Goals as goal

pub returns : goal.returns
returns c =
    let r = c.args.reading in
    let p = c.args.p in
    let t = view_of r.rows.tape in
    let b = Branch.Map in
    let cs = named ([] ∷ ([] ∷ [])) in
    let es = entries t p in
    let n : c.entry_count.result / 2 ≡ length (pairs es) = omega (arith, c.entry_count.ensures, length_pairs es) in
    let sized : ℕ → Got ℕ = λ m. got m in
    record {
      said = ap sized n ∙ count_got r b cs p (some (pairs es)) (bracket-there r cs p b c.requires.begun);
      few = (omega (arith, c.entry_count.ensures, few_entries t r.rows.tape.opened p (object_law t r.rows.tape.opened p c.requires.position c.requires.begun).bracketed), λ z. omega arith);
    }
