-- What a walk from the root leaves in the free part of a page.
use Rattle.std.proofs.Common.{◌≡◌, ℕ, ◌+◌, ◌-◌, ◌*◌, ◌≤◌, true, false, List, ◌++◌, map, length, drop, replicate, Ok, Err, sym, ap, ◌∙◌, subst, ap₂, zero-add, arith, length-append}
use Rattle.std.proofs.lemmas.List.{drop-replicate}
use Rattle.slip.specs.declared.Fault.{Fault}
use Rattle.slip.specs.Slips.{got, answer_of}
use Rattle.octets.specs.Lists.{splice, all}
use Rattle.octets.proofs.Splices.{splice_join}
use Rattle.tape.specs.View.{TapeView}
use Rattle.schema.specs.Tree.{Node, field_of, nodes}
use Rattle.schema.specs.Layout.{record_count}
use Rattle.schema.specs.Opens.{Opens}
use Rattle.schema.specs.declared.settings.Settings.{Settings}
use Rattle.leaf.specs.Meaning.{Meaning}
use Rattle.batch.specs.Format.{Column}
use Rattle.batch.specs.Values.{Value, NullFirst, value, fits}
use Rattle.batch.specs.Batch.{columns, records, buffers, batch}
use Rattle.batch.proofs.Worth.{worth, worth_is, each_got}
use Rattle.columns.specs.Areas.{written, Blank}
use Rattle.columns.proofs.Writes.{length-records}
use Rattle.laws.specs.Shelf.{walk}
use Rattle.laws.proofs.Told.{Told, told_got}
use Rattle.laws.proofs.Fits.{walk-told}
use Rattle.nodes.specs.Nodes.{cols}
use Rattle.nodes.specs.Contract.{Seen, setup_of, Walked}
use Rattle.nodes.proofs.Cols.{length-cols, walk_end}
use Rattle.nodes.proofs.Worths.{cols_are}
use Rattle.shelf.specs.Standing.{Writes}
use Rattle.shelf.proofs.Holding.{zeroed}

-- columns written from place 0 on are a batch
pub batch-written : (area : List ℕ) (top : ℕ) (cs : List Column) → top ≡ 32 * length cs → written area 0 top cs ≡ splice area 0 (batch cs)
batch-written area top cs e =
    let top-is : top ≡ 0 + length (records top cs) = omega (arith, length-records top cs) in
    ap (λ n. splice (splice area 0 (records top cs)) n (buffers cs)) top-is
    ∙ splice_join area 0 (records top cs) (buffers cs) (omega arith)
    ∙ ap (λ n. splice area 0 (records n cs ++ buffers cs)) e

pub length-batch : (cs : List Column) → length (batch cs) ≡ 32 * length cs + length (buffers cs)
length-batch cs = length-append (records (32 * length cs) cs) (buffers cs) ∙ ap (λ n. n + length (buffers cs)) (length-records (32 * length cs) cs)

-- zeros are blank
pub zeros_blank : (area : List ℕ) (top : ℕ) → area ≡ replicate (length area) 0 → Blank area top
zeros_blank area top e = ap (drop top) e ∙ drop-replicate {X = ℕ} top (length area) 0

-- what was written before a refusal is wiped
pub wiped : (from to : List ℕ) (end : ℕ) → from ≡ replicate (length from) 0 → length to ≡ length from → end ≤ length to → Blank to end → splice to 0 (replicate (end - 0) 0) ≡ from
wiped from to end e l h blank = zeroed to 0 end (length to) (omega arith) h blank ∙ ap (λ n. replicate {A = ℕ} n 0) (omega (arith, l)) ∙ sym e

-- what a visit of the root sees
abbrev at_root : Settings → Meaning → TapeView → (rs ns ps : List ℕ) → Seen
at_root s m t rs ns ps = record { settings = s; custom = m; tape = t; records = rs; names = ns; node = 0; in_force = false; positions = ps }

module _ (s : Settings) (m : Meaning) (t : TapeView) (rs ns ps : List ℕ) (left : ℕ) (from to : List ℕ) (top end : ℕ) (root : Node) (size : ℕ) (o : Opens rs ns root) (top-is : top ≡ 32 * record_count rs) where
  top-all : top ≡ 32 * length (nodes root)
  top-all = omega (arith, o.all)

  pub walked_ok : (x : Unit {0}) → Walked (at_root s m t rs ns ps) left from to top end (Ok x)
      → got end ≡ walk (setup_of s m root size) t (length from) left root (field_of root).nullable ps (32 * length (nodes root)) 0
  walked_ok x w =
      w.outcome root size root o.held 0 ∙ ap (λ l. walk (setup_of s m root size) t (length from) l root false ps top 0) (zero-add left)
      ∙ ap₂ (λ b n. walk (setup_of s m root size) t (length from) left root b ps n 0) (sym o.present) top-all

  pub walked_err : (f : Fault) → Walked (at_root s m t rs ns ps) left from to top end (Err f)
      → answer_of {A = ℕ} (Err f) ≡ walk (setup_of s m root size) t (length from) left root (field_of root).nullable ps (32 * length (nodes root)) 0
  walked_err f w =
      w.outcome root size root o.held 0 ∙ ap (λ l. walk (setup_of s m root size) t (length from) l root false ps top 0) (zero-add left)
      ∙ ap₂ (λ b n. walk (setup_of s m root size) t (length from) left root b ps n 0) (sym o.present) top-all

  pub writes_ok : NullFirst t → (x : Unit {0}) → Walked (at_root s m t rs ns ps) left from to top end (Ok x) → Writes (setup_of s m root size) t ps left from to (Ok end)
  writes_ok null x w =
      let st = setup_of s m root size in
      let force = (field_of root).nullable in
      let e = walked_ok x w in
      let free = length from in
      let start = 32 * length (nodes root) in
      let fit : all (fits st t root force) ps ≡ true = told_got (subst (Told (all (fits st t root force) ps)) (sym e) (walk-told st t free left root force ps start 0)) in
      let vs : List (Value root) = map (worth st t root force) ps in
      let are : cols st t root force ps ≡ columns st root vs = cols_are st t null free left root force ps start 0 end e in
      let few : length (columns st root vs) ≡ length (nodes root) = sym (ap length are) ∙ length-cols st t root force ps in
      record {
        outcome = e;
        content = (
          vs,
          each_got (value st t root force) (worth st t root force) (fits st t root force) (worth_is st t root force) ps fit,
          (walk_end st t free root force ps left start 0 end e).0 ∙ ap₂ (λ n (cs : List Column). 32 * n + length (buffers cs)) (sym few) are ∙ sym (length-batch (columns st root vs)),
          w.content root size root o.held ∙ ap (λ b. written from 0 top (cols st t root b ps)) (sym o.present) ∙ ap (λ (cs : List Column). written from 0 top cs) are
              ∙ batch-written from top (columns st root vs) (top-all ∙ ap (λ n. 32 * n) (sym few)),
        );
        unwritten = tt;
      }
