use Rattle.std.proofs.Common.{◌≡◌, ℕ, [], ◌∷◌, length, sym, ap, ◌∙◌, arith}
use mathlib.Core.Option.{some}
use Rattle.std.proofs.lemmas.List.{length-map}
use Rattle.slip.specs.Slips.{Got, got, slip}
use Rattle.tape.specs.Opened.{view_of}
use Rattle.tape.specs.View.{entries}
use Rattle.schema.specs.declared.kind.Branch.TheVariants.{Fixed as fixed}
use Rattle.batch.specs.Rows.{singles}
use Rattle.rows.specs.Kinds.{named}
use Rattle.rows.proofs.Sizes.{count_got, count_refused, fixed_there, fixed_wrong}
use Rattle.rows.proofs.lists.FixedRowsRowKind.count.Goals as goal

pub returns-then-entry_count-self : goal.returns-then-entry_count-self
returns-then-entry_count-self c =
    let r = c.args.reading in
    let p = c.args.p in
    let count = c.args.self.now.count in
    let cs = named ([] ∷ []) in
    record {
      said = count_refused r (fixed count) cs p (slip 9 r.node p) (fixed_wrong r cs p count c.requires.begun (λ n. omega (arith, n, c.entry_count.ensures, c.if-entry_count-self.true)));
      few = tt;
    }

pub returns : goal.returns
returns c =
    let r = c.args.reading in
    let p = c.args.p in
    let es = entries (view_of r.rows.tape) p in
    let count = c.args.self.now.count in
    let cs = named ([] ∷ []) in
    let n : length es ≡ count = sym c.entry_count.ensures ∙ c.if-entry_count-self.false in
    let sized : ℕ → Got ℕ = λ m. got m in
    record {
      said = ap sized (sym (length-map es (λ x. x ∷ []) ∙ n)) ∙ count_got r (fixed count) cs p (some (singles es)) (fixed_there r cs p count c.requires.begun n);
      few = (c.requires.ready, λ z. omega arith);
    }
