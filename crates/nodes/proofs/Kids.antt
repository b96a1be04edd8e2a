-- The children that are left to visit, and their positions.
use Rattle.std.proofs.Common.{◌≡◌, ℕ, suc, ◌+◌, ◌*◌, ◌<◌, ◌≤◌, List, [], ◌∷◌, ◌++◌, map, length, take, drop, sym, refl, ap, ◌∙◌, subst, add-mul, one-mul, zero-mul, arith, length-append}
use Rattle.std.proofs.Math.Seq.{drop-append-add}
use Rattle.std.proofs.lemmas.List.{take_at}
use Rattle.octets.specs.Lists.{part, first, rest}
use Rattle.schema.specs.Tree.{Node, Fields, ◌⊕◌, field_of, many, numbers}
use Rattle.schema.specs.Layout.{end_at}
use Rattle.schema.specs.Held.{Held, HeldIn}
use Rattle.schema.proofs.Nodes.{held_written, held_first, held_rest}
use Rattle.rows.specs.Entering.{child_at}
use Rattle.nodes.specs.Contract.{Seen}
use Rattle.nodes.proofs.Cols.{child_first, child_rest}

one_more : (n stride : ℕ) → suc n * stride ≡ stride + n * stride
one_more n stride = let e : suc n ≡ n + 1 = omega arith in rw e (omega (arith, add-mul n 1 stride, one-mul stride))

-- a list of positions that falls into those of the first child and the rest
module _ (stride : ℕ) (mine qs others : List ℕ) (split : mine ≡ qs ++ others) (size : length qs ≡ stride) where
  pub own_part : part mine (0 * stride) stride ≡ qs
  own_part =
      ap (λ xs. part xs (0 * stride) stride) split
      ∙ ap (λ i. take stride (drop i (qs ++ others))) (zero-mul stride)
      ∙ take_at qs others stride size

  pub next_part : (j : ℕ) → part mine (suc j * stride) stride ≡ part others (j * stride) stride
  next_part j =
      let at : suc j * stride ≡ length qs + j * stride = omega (arith, one_more j stride, size) in
      ap (λ xs. part xs (suc j * stride) stride) split
      ∙ ap (λ i. take stride (drop i (qs ++ others))) at
      ∙ ap (take stride) (drop-append-add qs others (j * stride))

module _ (v : Seen) (stride : ℕ) where
  -- their numbers, and their positions, so many for each
  pub record Kids (mine coming : List ℕ) : Type 0 where
    pub here : ℕ
    pub others : Fields
    pub items : List (List ℕ)
    pub placed : HeldIn v.records v.names here others
    pub numbered : coming ≡ numbers others
    pub size : length mine ≡ many others * stride
    pub parts : (j : ℕ) → j < many others → part mine (j * stride) stride ≡ child_at j items

  -- the first of some children
  pub record First (others : Fields) (here x : ℕ) (after : List ℕ) : Type 0 where
    pub child : Node
    pub more : Fields
    pub are : others ≡ child ⊕ more
    pub at : here ≡ x
    pub there : Held v.records v.names x child
    pub placed : HeldIn v.records v.names (end_at v.records x) more
    pub numbered : after ≡ numbers more

  first_of : (others : Fields) (here x : ℕ) (after : List ℕ) → HeldIn v.records v.names here others → numbers others ≡ x ∷ after → First others here x after
  first_of Fields.none here x after p e = absurd (let z : ◌≡◌ {A = ℕ} 0 1 = cc in omega arith)
  first_of (c ⊕ cs) here x after p e =
      let number : (field_of c).number ≡ x = cc in
      let left : after ≡ numbers cs = cc in
      let at : here ≡ x = sym (held_written (held_first p)).number ∙ number in
      record {
        child = c;
        more = cs;
        are = refl;
        at = at;
        there = subst (λ n. Held v.records v.names n c) at (held_first p);
        placed = subst (λ n. HeldIn v.records v.names (end_at v.records n) cs) at (held_rest p);
        numbered = left;
      }

  module _ (mine coming : List ℕ) (w : Kids mine coming) where
    pub first-kid : {x : ℕ} {after : List ℕ} → coming ≡ x ∷ after → First w.others w.here x after
    first-kid {x} {after} e = first_of w.others w.here x after w.placed (sym w.numbered ∙ e)

    pub no_kids : coming ≡ [] → w.others ≡ Fields.none
    no_kids e = go w.others (sym w.numbered ∙ e)
      where
        go : (cs : Fields) → numbers cs ≡ [] → cs ≡ Fields.none
        go Fields.none e = refl
        go (c ⊕ cs) e = absurd (let z : ◌≡◌ {A = ℕ} 0 1 = cc in omega arith)

    module _ (x : ℕ) (after : List ℕ) (f : First w.others w.here x after) where
      pub all_size : length mine ≡ stride + many f.more * stride
      all_size = w.size ∙ ap (λ cs. many cs * stride) f.are ∙ one_more (many f.more) stride

      -- it has its positions
      pub enough : stride ≤ length mine
      enough = omega (arith, all_size)

      module _ (qs others : List ℕ) (split : mine ≡ qs ++ others) (size : length qs ≡ stride) where
        pub more_than : many w.others ≡ suc (many f.more)
        more_than = ap many f.are

        pub own_positions : qs ≡ map first w.items
        own_positions = sym (own_part stride mine qs others split size) ∙ w.parts 0 (omega (arith, more_than)) ∙ child_first w.items

        -- and the others are left
        unfoldable pub left-kids : Kids others after
        left-kids =
            record {
              here = end_at v.records x;
              others = f.more;
              items = map rest w.items;
              placed = f.placed;
              numbered = f.numbered;
              size = omega (arith, all_size, ap length split, length-append qs others, size);
              parts = λ j l.
                  sym (next_part stride mine qs others split size j) ∙ w.parts (suc j) (omega (arith, l, more_than)) ∙ ap (λ i. child_at i w.items) (let e : suc j ≡ j + 1 = omega arith in e) ∙ child_rest j w.items;
            }
