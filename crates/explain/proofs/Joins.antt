-- Bytes that are put one after another.
use Rattle.std.proofs.Common.{◌≡◌, ℕ, ◌+◌, ◌≤◌, List, [], ◌++◌, length, sym, refl, ap, ◌∙◌, subst, arith, length-append}
use Rattle.octets.specs.Lists.{splice}
use Rattle.octets.proofs.Splices.{splice_nil, splice_join}
use Rattle.explain.specs.declared.writer.Writer.{Writer}
use Rattle.explain.specs.Puts.{Sized, Puts, PutsAll, most}

pub puts_none : (w : Writer) → Puts [] w w
puts_none w = record { lent = refl; kept = refl; counted = λ s. omega (arith, s.count); placed = λ s h. sym (splice_nil w.area.now w.len) }

-- the numbers stay those of a machine
sized_after : {xs : List ℕ} {w v : Writer} → Puts xs w v → Sized w → Sized v
sized_after p s = record { count = omega (arith, p.counted s); room = omega (arith, p.kept, s.room) }

pub puts_join : {xs ys : List ℕ} {u v w : Writer} → Puts xs u v → Puts ys v w → Puts (xs ++ ys) u w
puts_join {xs} {ys} {u} {v} {w} p q = record {
  lent = q.lent ∙ p.lent;
  kept = q.kept ∙ p.kept;
  counted = λ s. rw (length-append xs ys) (omega (arith, p.counted s, q.counted (sized_after p s)));
  placed = λ s h.
      let l = length-append xs ys in
      let e : v.len ≡ u.len + length xs = omega (arith, s.room, p.counted s) in
      let f : v.area.now ≡ splice u.area.now u.len xs = p.placed s (omega arith) in
      let g : w.area.now ≡ splice v.area.now v.len ys = q.placed (sized_after p s) (omega (arith, p.kept)) in
      g ∙ ap (λ k. splice v.area.now k ys) e ∙ ap (λ z. splice z (u.len + length xs) ys) f ∙ splice_join u.area.now u.len xs ys (omega arith);
}

pub puts_as : {xs ys : List ℕ} {u v : Writer} → xs ≡ ys → Puts xs u v → Puts ys u v
puts_as {u = u} {v = v} e p = subst (λ z. Puts z u v) e p

-- what is left to put, after what was put so far, leads to the whole
pub record Leads (whole : List ℕ) (before : Writer) (left : List ℕ) (now : Writer) : Type 0 where
  pub ends : {after : Writer} → Puts left now after → Puts whole before after

pub leads-all : {whole left : List ℕ} {before : Writer} → left ≡ whole → Leads whole before left before
leads-all e = record { ends = λ p. puts_as e p }

pub leads_more : {whole xs ys zs : List ℕ} {before u v : Writer} → Leads whole before zs u → zs ≡ xs ++ ys → Puts xs u v → Leads whole before ys v
leads_more l e p = record { ends = λ q. l.ends (puts_as (sym e) (puts_join p q)) }

-- from an area in which nothing was put to what it is when the writer is gone
pub puts_all : {xs before after : List ℕ} {u v : Writer} {n : ℕ} → Puts xs u v → u.area.now ≡ before → u.len ≡ 0 → length before ≤ most → n ≡ v.len → after ≡ v.area.now → PutsAll xs before after n
puts_all {xs} {before} {after} {u} {v} {n} p a z m e f =
    let s : Sized u = record { count = omega arith; room = omega (arith, ap length a) } in
    record {
      counted = omega (arith, p.counted s);
      placed = λ h. f ∙ p.placed s (omega (arith, ap length a)) ∙ ap (λ k. splice k u.len xs) a ∙ ap (λ i. splice before i xs) z;
    }
