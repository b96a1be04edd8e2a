use Rattle.std.proofs.Common.{◌≡◌, ℕ, [], ◌∷◌, length, sym, ap, ◌∙◌, arith}
use mathlib.Core.Option.{some}
use Rattle.std.proofs.lemmas.List.{length-map}
use Rattle.slip.specs.Slips.{Got, got}
use Rattle.tape.specs.Opened.{view_of}
use Rattle.tape.specs.View.{entries}
use Rattle.tape.proofs.Walks.{list_law}
use Rattle.schema.specs.declared.kind.Branch.TheVariants.{List as list}
use Rattle.batch.specs.Rows.{singles}
use Rattle.rows.specs.Kinds.{named}
use Rattle.rows.proofs.Starts.{bracket-there}
use Rattle.rows.proofs.Sizes.{count_got, few_entries}
use Rattle.rows.proofs.lists.ListRowsRowKind.count.Goals as goal

pub returns : goal.returns
returns c =
    let r = c.args.reading in
    let p = c.args.p in
    let t = view_of r.rows.tape in
    let b = list c.args.self.now.view c.args.self.now.wide in
    let cs = named ([] ∷ []) in
    let es = entries t p in
    let n : c.entry_count.result ≡ length (singles es) = c.entry_count.ensures ∙ sym (length-map es (λ x. x ∷ [])) in
    let sized : ℕ → Got ℕ = λ m. got m in
    record {
      said = ap sized n ∙ count_got r b cs p (some (singles es)) (bracket-there r cs p b c.requires.begun);
      few = (omega (arith, c.entry_count.ensures, few_entries t r.rows.tape.opened p (list_law t r.rows.tape.opened p c.requires.position c.requires.begun)), λ z. omega arith);
    }
