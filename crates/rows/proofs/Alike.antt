-- Of a node only its number counts to its rows, and of its children their names and how many there are.
use Rattle.std.proofs.Common.{◌≡◌, ℕ, suc, ◌*◌, ◌<◌, Bool, cond, ◌&&◌, ◌||◌, List, [], ◌∷◌, map, length, set, replicate, Some, None, Ok, Err, Option as Maybe, Result, sym, refl, ap, ◌∙◌, subst}
use mathlib.Core.Option.{Option, none, some}
use Rattle.slip.specs.declared.Fault.{Fault}
use Rattle.slip.specs.Slips.{slip, Got, refuse, got, then, each}
use Rattle.octets.specs.Lists.{joined}
use Rattle.tape.specs.Layout.{the}
use Rattle.tape.specs.View.{TapeView, is_at, entries, words_at}
use Rattle.schema.specs.Tree.{Field, Fields, ◌⊕◌, many, names}
use Rattle.schema.specs.declared.kind.Branch.{Branch}
use Rattle.schema.specs.declared.kind.Branch.TheVariants.{Struct as struct, List as list, Fixed as fixed}
use Rattle.schema.specs.declared.settings.Settings.{Settings}
use Rattle.names.specs.Lowest.{lowest}
use Rattle.batch.specs.Rows.{letter, listed, placed, row_at}
use Rattle.batch.specs.Values.{taken}
use Rattle.batch.specs.Batch.{branch_column}
use Rattle.columns.specs.Areas.{written, space}
use Rattle.rows.specs.declared.Entered.{Entered}
use Rattle.rows.specs.Entering.{Like, rows_at, items_of, child_at, Given, BranchEntered}
use Rattle.rows.specs.Kinds.{numbered, named}
use Rattle.rows.proofs.Tallies.{then_same}

pub names-named : (ns : List (List ℕ)) → names (named ns) ≡ ns
names-named [] = refl
names-named (n ∷ ns) = ap (λ r. n ∷ r) (names-named ns)

pub many-named : (ns : List (List ℕ)) → many (named ns) ≡ length ns
many-named [] = refl
many-named (n ∷ ns) = ap suc (many-named ns)

pub many-names : (cs : Fields) → many cs ≡ length (names cs)
many-names Fields.none = refl
many-names (c ⊕ cs) = ap suc (many-names cs)

each_same : {A B : Type 0} (g h : A → Got B) → ((p : A) → g p ≡ h p) → (ps : List A) → each g ps ≡ each h ps
each_same g h e [] = refl
each_same g h e (p ∷ ps) = ap (λ x. then x (λ y. then (each g ps) (λ ys. got (y ∷ ys)))) (e p) ∙ then_same (h p) _ _ (λ y. ap (λ x. then x (λ ys. got (y ∷ ys))) (each_same g h e ps))

module _ (s : Settings) (t : TapeView) (f h : Field) (same : f.number ≡ h.number) where
  module _ (ns : List (List ℕ)) where
    pub placed_alike : (es at : List ℕ) → placed s t f ns es at ≡ placed s t h ns es at
    placed_alike [] at = refl
    placed_alike (k ∷ []) at = refl
    placed_alike (k ∷ (v ∷ rest)) at = go (lowest ns (words_at t k)) (λ us. placed_alike rest us)
      where
        go : (x : Maybe ℕ) → ((us : List ℕ) → placed s t f ns rest us ≡ placed s t h ns rest us)
            → ◌≡◌ {A = Got (List ℕ)} (elim x [ Some i ↦ placed s t f ns rest (set at i v) | None ↦ cond s.strict (refuse (slip 6 f.number k)) (placed s t f ns rest at) ])
            (elim x [ Some i ↦ placed s t h ns rest (set at i v) | None ↦ cond s.strict (refuse (slip 6 h.number k)) (placed s t h ns rest at) ])
        go (Some i) e = e (set at i v)
        go None e =
            ap (λ n. cond s.strict (refuse (slip 6 n k)) (placed s t f ns rest at)) same
            ∙ ap (λ x. cond s.strict (refuse (slip 6 h.number k)) x) (e at)

  module _ (cs ds : Fields) (inForce : Bool) (p : ℕ) where
    abbrev begun : ℕ → Got (List ℕ) → Got (Option (List (List ℕ)))
    begun n item =
        cond (is_at t (letter s struct) p) (then (then item (λ i. got (i ∷ []))) (λ is. got (some is)))
        (cond (inForce && (is_at t (the "z") p || s.lenient)) (got none) (refuse (slip 5 n p)))

    pub struct_alike : names cs ≡ names ds → row_at s t f struct cs inForce p ≡ row_at s t h struct ds inForce p
    struct_alike e =
        let m : many cs ≡ many ds = many-names cs ∙ ap length e ∙ sym (many-names ds) in
        let es = entries t p in
        ap (λ n. begun n (cond s.list_rows (listed (numbered n) (many cs) p es) (placed s t f (names cs) es (replicate (many cs) 0)))) same
        ∙ ap (λ n. begun h.number (cond s.list_rows (listed h n p es) (placed s t f (names cs) es (replicate n 0)))) m
        ∙ ap (λ ns. begun h.number (cond s.list_rows (listed h (many ds) p es) (placed s t f ns es (replicate (many ds) 0)))) e
        ∙ ap (λ x. begun h.number (cond s.list_rows (listed h (many ds) p es) x)) (placed_alike (names ds) es (replicate (many ds) 0))

    pub list_alike : (view wide : Bool) → row_at s t f (list view wide) cs inForce p ≡ row_at s t h (list view wide) ds inForce p
    list_alike view wide = ap (λ n. row_at s t (numbered n) (list view wide) cs inForce p) same

    pub fixed_alike : (count : ℕ) → row_at s t f (fixed count) cs inForce p ≡ row_at s t h (fixed count) ds inForce p
    fixed_alike count = ap (λ n. row_at s t (numbered n) (fixed count) cs inForce p) same

    pub map_alike : row_at s t f Branch.Map cs inForce p ≡ row_at s t h Branch.Map ds inForce p
    map_alike = ap (λ n. row_at s t (numbered n) Branch.Map cs inForce p) same

pub many_like : (b : Branch) (cs ds : Fields) → Like b cs ds → many cs ≡ many ds
many_like struct cs ds e = many-names cs ∙ ap length e ∙ sym (many-names ds)
many_like (list view wide) cs ds e = e
many_like (fixed count) cs ds e = e
many_like Branch.Map cs ds e = e

pub row_alike : (s : Settings) (t : TapeView) (f h : Field) → f.number ≡ h.number → (b : Branch) (cs ds : Fields) → Like b cs ds → (inForce : Bool) (p : ℕ)
    → row_at s t f b cs inForce p ≡ row_at s t h b ds inForce p
row_alike s t f h same struct cs ds e inForce p = struct_alike s t f h same cs ds inForce p e
row_alike s t f h same (list view wide) cs ds e inForce p = list_alike s t f h same cs ds inForce p view wide
row_alike s t f h same (fixed count) cs ds e inForce p = fixed_alike s t f h same cs ds inForce p count
row_alike s t f h same Branch.Map cs ds e inForce p = map_alike s t f h same cs ds inForce p

module _ (s : Settings) (t : TapeView) (f h : Field) (b : Branch) (cs ds : Fields) (inForce : Bool) (ps : List ℕ) (top : ℕ) (from to work lent : List ℕ)
    (same : f.number ≡ h.number) (like : Like b cs ds) where
  abbrev Rows : Type 0
  Rows = List (Option (List (List ℕ)))

  count : many cs ≡ many ds
  count = many_like b cs ds like

  items : (os : Rows) → items_of b cs os ≡ items_of b ds os
  items os = ap (λ n. joined (map (taken b (replicate n 0)) os)) count

  all-rows : rows_at s t f b cs inForce ps ≡ rows_at s t h b ds inForce ps
  all-rows = each_same (λ p. row_at s t f b cs inForce p) (λ p. row_at s t h b ds inForce p) (λ p. row_alike s t f h same b cs ds like inForce p) ps

  given : (os : Rows) (e : Entered) → Given t f b cs os top from to lent e → Given t h b ds os top from to lent e
  given os e v = record {
    kids = v.kids ∙ count;
    stride = v.stride ∙ ap length (items os);
    next = v.next;
    fits = v.fits;
    parts = λ k l. v.parts k (subst (λ n. k < n) (sym count) l) ∙ ap (child_at k) (items os);
    positions = v.positions;
    page = v.page ∙ ap (λ n. written from n top (branch_column b os ∷ [])) same;
  }

  tested : (os : Rows) → space (length from) (length work) f.number top (branch_column b os) (many cs * length (items_of b cs os)) ≡ space (length from) (length work) h.number top (branch_column b os) (many ds * length (items_of b ds os))
  tested os =
      ap (λ n. space (length from) (length work) n top (branch_column b os) (many cs * length (items_of b cs os))) same
      ∙ ap (λ n. space (length from) (length work) h.number top (branch_column b os) (n * length (items_of b cs os))) count
      ∙ ap (λ is. space (length from) (length work) h.number top (branch_column b os) (many ds * length is)) (items os)

  pub entered_alike : (r : Result Entered Fault) → BranchEntered s t f b cs inForce ps top from to work lent r → BranchEntered s t h b ds inForce ps top from to work lent r
  entered_alike (Ok e) v = record {
    outcome = v.outcome ∙ then_same (rows_at s t f b cs inForce ps) _ _ tested ∙ ap (λ x. then x (λ os. space (length from) (length work) h.number top (branch_column b os) (many ds * length (items_of b ds os)))) all-rows;
    content = λ os q. given os e (v.content os (all-rows ∙ q));
    unwritten = v.unwritten;
  }
  entered_alike (Err y) v = record {
    outcome = v.outcome ∙ then_same (rows_at s t f b cs inForce ps) _ _ tested ∙ ap (λ x. then x (λ os. space (length from) (length work) h.number top (branch_column b os) (many ds * length (items_of b ds os)))) all-rows;
    content = v.content;
    unwritten = v.unwritten;
  }
