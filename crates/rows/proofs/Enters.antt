-- What an entered branch tells, from what its rows were read as.
use Rattle.std.proofs.Common.{◌≡◌, ℕ, ◌*◌, ◌≤◌, Bool, true, List, [], ◌∷◌, map, length, get_or, Ok, Err, sym, refl, ap, ◌∙◌, subst, arith}
use mathlib.Core.Option.{Option}
use Rattle.slip.specs.declared.Fault.{Fault}
use Rattle.slip.specs.Slips.{Got, refuse, got, then, each, slip_of, is_got, accepted}
use Rattle.octets.specs.Lists.{joined}
use Rattle.tape.specs.View.{TapeView}
use Rattle.schema.specs.Tree.{Field, Fields, many}
use Rattle.schema.specs.declared.kind.Branch.{Branch}
use Rattle.schema.specs.declared.settings.Settings.{Settings}
use Rattle.batch.specs.Rows.{row_at}
use Rattle.batch.specs.Values.{taken, zeros}
use Rattle.batch.specs.Batch.{nulls, branch_column}
use Rattle.columns.specs.Areas.{written, space}
use Rattle.columns.proofs.Places.{space-there}
use Rattle.rows.specs.declared.passes.Counted.{Counted}
use Rattle.rows.specs.Entering.{rows_at, items_of, Given, BranchEntered}
use Rattle.rows.specs.Filling.{Filled, Positions}
use Rattle.rows.specs.Kinds.{counts_of}
use Rattle.rows.proofs.Cells.{filled-part, filled_positions}
use Rattle.rows.proofs.Tallies.{got_then, each-accepted, joined_through}

abbrev Rows : Type 0
Rows = List (Option (List (List ℕ)))

-- rows none of which was refused, with their counts
pub record Read (b : Branch) (cs : Fields) (g : ℕ → Got (Option (List (List ℕ)))) (ps : List ℕ) (n : Counted) : Type 0 where
  pub accepted_all : is_got (each g ps) ≡ true
  pub rows : each g ps ≡ got (map (λ p. accepted (g p)) ps)
  pub items : length (joined (map (λ p. taken b (zeros cs) (accepted (g p))) ps)) ≡ n.items
  pub empty : nulls (map (λ p. accepted (g p)) ps) ≡ n.nulls

pub read : (b : Branch) (cs : Fields) (g : ℕ → Got (Option (List (List ℕ)))) (ps : List ℕ) (n : Counted) → got n ≡ then (each g ps) (λ os. got (counts_of b cs os)) → Read b cs g ps n
read b cs g ps n e =
    let f = got_then (each g ps) (counts_of b cs) n e in
    let ok : is_got (each g ps) ≡ true = ap is_got f.1 in
    let rows = each-accepted g ps ok in
    let same : f.0 ≡ map (λ p. accepted (g p)) ps = let q = sym f.1 ∙ rows in cc in
    let counts : n ≡ counts_of b cs (map (λ p. accepted (g p)) ps) = f.2 ∙ ap (counts_of b cs) same in
    record {
      accepted_all = ok;
      rows = rows;
      items = sym (ap (λ c. c.items) counts ∙ ap length (joined_through (taken b (zeros cs)) (λ p. accepted (g p)) ps));
      empty = sym (ap (λ c. c.nulls) counts);
    }

module _ (s : Settings) (t : TapeView) (f : Field) (b : Branch) (cs : Fields) (inForce : Bool) (ps : List ℕ) (top : ℕ) (from work lent : List ℕ) where
  abbrev row : ℕ → Got (Option (List (List ℕ)))
  row p = row_at s t f b cs inForce p

  abbrev rows : Rows
  rows = map (λ p. accepted (row p)) ps

  abbrev tested : Rows → Got ℕ
  tested os = space (length from) (length work) f.number top (branch_column b os) (many cs * length (items_of b cs os))

  pub enter_refused : (y : Fault) → each row ps ≡ refuse (slip_of y) → BranchEntered s t f b cs inForce ps top from from work lent (Err y)
  enter_refused y e = record { outcome = ap (λ x. then x tested) (sym e); content = tt; unwritten = refl }

  module _ (n : Counted) (r : Read b cs row ps n) (kids : ℕ) (own : kids ≡ many cs) where
    all_items : joined (map (λ p. taken b (zeros cs) (accepted (row p))) ps) ≡ items_of b cs rows
    all_items = sym (joined_through (taken b (zeros cs)) (λ p. accepted (row p)) ps)

    wanted : kids * n.items ≡ many cs * length (items_of b cs rows)
    wanted = ap (λ k. k * n.items) own ∙ ap (λ m. many cs * m) (sym r.items ∙ ap length all_items)

    space-told : (x : Got ℕ) → x ≡ space (length from) (length work) f.number top (branch_column b rows) (kids * n.items) → x ≡ then (rows_at s t f b cs inForce ps) tested
    space-told x e = e ∙ ap (space (length from) (length work) f.number top (branch_column b rows)) wanted ∙ ap (λ q. then q tested) (sym r.rows)

    pub enter_full : (y : Fault) → refuse (slip_of y) ≡ space (length from) (length work) f.number top (branch_column b rows) (kids * n.items) → BranchEntered s t f b cs inForce ps top from from work lent (Err y)
    enter_full y e = record { outcome = space-told (refuse (slip_of y)) e; content = tt; unwritten = refl }

    pub enter_done : (next : ℕ) (to : List ℕ) → got next ≡ space (length from) (length work) f.number top (branch_column b rows) (kids * n.items)
        → length lent ≡ length work
        → Filled (many cs) n.items 0 (joined (map (λ p. taken b (zeros cs) (accepted (row p))) ps)) work lent
        → Positions t (joined (map (λ p. taken b (zeros cs) (accepted (row p))) ps))
        → to ≡ written from f.number top (branch_column b rows ∷ [])
        → BranchEntered s t f b cs inForce ps top from to work lent (Ok (record { kids = kids; stride = n.items; next = next }))
    enter_done next to e long filled positions page =
        let there = space-there (length from) (length work) f.number top (kids * n.items) (branch_column b rows) next e in
        let items = joined (map (λ p. taken b (zeros cs) (accepted (row p))) ps) in
        let room : many cs * n.items ≤ length lent = omega (arith, there.1, ap (λ k. k * n.items) own) in
        let size : n.items ≡ length (items_of b cs rows) = sym r.items ∙ ap length all_items in
        record {
          outcome = space-told (got next) e;
          content = λ os q. subst (λ us. Given t f b cs us top from to lent (record { kids = kids; stride = n.items; next = next })) (let z = sym r.rows ∙ q in let w : rows ≡ os = cc in w) (record {
            kids = own;
            stride = size;
            next = there.2;
            fits = omega (arith, ap (λ k. k * n.items) own);
            parts = λ k h. filled-part (many cs) n.items items work lent filled r.items room k h ∙ ap (λ xs. map (λ i. get_or i k 0) xs) all_items;
            positions = λ i h. filled_positions (many cs) n.items items work lent filled r.items t positions i (omega (arith, ap (λ k. k * n.items) own));
            page = page;
          });
          unwritten = tt;
        }
