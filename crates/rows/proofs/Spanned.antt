-- What the spans of a branch are told of its rows.
use Rattle.std.proofs.Common.{◌≡◌, ℕ, ◌*◌, ◌^◌, ◌<◌, ◌≤◌, true, false, not, List, [], ◌∷◌, map, length, sym, refl, ◌∙◌, subst, ⊎_elim, mul-le-mul_right, arith, length-append}
use mathlib.Core.Option.{none, some}
use Rattle.octets.specs.Lists.{joined, sum, or_else, is_some}
use Rattle.schema.specs.Tree.{Fields}
use Rattle.schema.specs.declared.kind.Branch.{Branch}
use Rattle.schema.specs.declared.kind.Branch.TheVariants.{Struct as struct, List as list, Fixed as fixed}
use Rattle.batch.specs.Format.{Column}
use Rattle.batch.specs.Values.{taken, zeros}
use Rattle.batch.specs.Batch.{sizes, nulls, branch_column}
use Rattle.std.proofs.lemmas.Bool.{cases_eq}
use Rattle.columns.specs.Areas.{Plans}
use Rattle.columns.specs.Plans.{Totals}
use Rattle.columns.specs.Spans.{Row, Laid, Counted, Closes}
use Rattle.columns.specs.declared.plan.Plan.{Plan}
use Rattle.columns.specs.declared.spans.Spans.{Spans}
use Rattle.columns.proofs.Begins.{laid_small}
use Rattle.rows.specs.Entering.{items_of}

sum-joined : (os : List Row) → sum (sizes os) ≡ length (joined (map (or_else []) os))
sum-joined [] = refl
sum-joined (o ∷ os) = omega (arith, sum-joined os, length-append (or_else [] o) (joined (map (or_else []) os)))

-- a branch that says where its items begin has none under a null row
pub counted-row : (b : Branch) (cs : Fields) (os : List Row) (o : Row) (start size : ℕ) → start ≡ length (items_of b cs os) → size ≡ length (taken b (zeros cs) o) → Counted b os o start size
counted-row struct cs os o start size e f = tt
counted-row (list view wide) cs os o start size e f = (sum-joined os ∙ sym e, sym f)
counted-row (fixed n) cs os o start size e f = tt
counted-row Branch.Map cs os o start size e f = (sum-joined os ∙ sym e, sym f)

pub closed_rows : (b : Branch) (cs : Fields) (os : List Row) (items : ℕ) → items ≡ length (items_of b cs os) → Closes b os items
closed_rows struct cs os items e = tt
closed_rows (list false wide) cs os items e = sum-joined os ∙ sym e
closed_rows (list true wide) cs os items e = tt
closed_rows (fixed n) cs os items e = tt
closed_rows Branch.Map cs os items e = sum-joined os ∙ sym e

pub not_null : (o : Row) → is_some o ≡ not (not (is_some o))
not_null none = refl
not_null (some x) = refl

-- small sizes are exact
pub totals : (p : Plan) (c : Column) → Plans p c → p.data_size < 2 ^ 40 → Totals p c
totals p c h small =
    record { slots = h.slots; nulls = h.nulls; validity = h.validity; offsets = h.offsets; data_size = omega (arith, h.data_size) }

-- the column of rows that spans were made for
pub column_plans : (sp : Spans) (a b : Branch) (m n : ℕ) (os : List Row) → a ≡ b → Laid sp
    → ((us : List Row) → length us ≡ m → nulls us ≡ n → Plans sp.plan (branch_column a us))
    → length os ≡ m → nulls os ≡ n → Plans sp.plan (branch_column b os) × Totals sp.plan (branch_column b os)
column_plans sp a b m n os e laid plans long empty =
    let p : Plans sp.plan (branch_column b os) = subst (λ x. Plans sp.plan (branch_column x os)) e (plans os long empty) in
    (p, totals sp.plan (branch_column b os) p (laid_small sp laid).2)

-- few items, where each of them takes an entry of the work list or there are no more than rows
pub few_items : (kids items lent : ℕ) → kids * items ≤ lent → lent ≤ 2 ^ 24 → (kids ≡ 0 → items ≤ 2 ^ 24) → items < 2 ^ 31
few_items kids items lent h few slim =
    ⊎_elim
    (λ z. omega (arith, slim z))
    (λ z. omega (arith, mul-le-mul_right items (let l : 1 ≤ kids = omega arith in l)))
    (cases_eq kids 0)
