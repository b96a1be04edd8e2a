-- Leaving a node: from what it requires, through its children, to its answer.
use Rattle.std.proofs.Common.{◌≡◌, ℕ, ◌+◌, ◌<◌, ◌≤◌, Bool, ◌||◌, List, [], ◌∷◌, ◌++◌, map, length, Err, Result, sym, refl, ap, ◌∙◌, arith}
use Rattle.octets.specs.Lists.{first, rest, via}
use Rattle.slip.specs.declared.Fault.{Fault}
use Rattle.slip.specs.Slips.{Got, refuse, got, then, answer_of, slip_of}
use Rattle.schema.specs.Tree.{Node, Fields, field_of, children_of, numbers}
use Rattle.schema.specs.Held.{Held}
use Rattle.schema.proofs.Nodes.{held_children}
use Rattle.batch.specs.Values.{Setup}
use Rattle.laws.specs.Shelf.{bare}
use Rattle.nodes.specs.Contract.{Seen, setup_in, HeldHere, OfTree, Lying, Leaves}
use Rattle.nodes.specs.Nodes.{below_of, items_in, unbare, leaving}
use Rattle.nodes.proofs.Kids.{Kids, First, first-kid, enough, own_positions, left-kids, no_kids}
use Rattle.bare.specs.Slots.{hidden_at, has_slot, veiled}
use Rattle.bare.proofs.Veils.{veiled-map}
use Rattle.bare.proofs.Forms.{leaving-veiled, leaving_slots}

module _ (v : Seen) (root : Node) (size : ℕ) (T : Node) where
  abbrev st : Setup
  st = setup_in v root size

  abbrev down : Node → Bool
  down c = below_of T v.in_force || (field_of c).nullable

  abbrev hid : ℕ → Bool
  hid = hidden_at v.settings v.tape T v.positions

  abbrev all : List (List ℕ)
  all = items_in st v.tape T v.in_force v.positions

  abbrev bare_left : Fields → List (List ℕ) → Got (Unit {0})
  bare_left cs items = bare st v.tape cs (below_of T v.in_force) (veiled hid 0 items)

  -- between two children: what is left to test gives what the whole gives
  pub record Between (stride : ℕ) (mine coming : List ℕ) : Type 0 where
    pub kids : Kids v stride mine coming
    pub short : stride ≡ length all
    pub outcome : bare_left kids.others kids.items ≡ bare_left (children_of T) all

  module _ (stride : ℕ) (mine coming : List ℕ) (b : Between stride mine coming) where
    module _ (x : ℕ) (after : List ℕ) (f : First v stride b.kids.others b.kids.here x after) (qs others : List ℕ) (forced : Bool) (split : mine ≡ qs ++ others) (short : length qs ≡ stride) (is-forced : forced ≡ down f.child) where
      own : qs ≡ map first b.kids.items
      own = own_positions v stride mine coming b.kids x after f qs others split short

      told : (a : Got (Unit {0})) → a ≡ unbare st v.tape f.child forced (veiled hid 0 qs) → then a (λ _. bare_left f.more (map rest b.kids.items)) ≡ bare_left (children_of T) all
      told a e =
          let V = veiled hid 0 b.kids.items in
          ap (λ g. then g (λ _. bare_left f.more (map rest b.kids.items)))
          (e ∙ ap (λ d. unbare st v.tape f.child d (veiled hid 0 qs)) is-forced ∙ ap (λ ps. unbare st v.tape f.child (down f.child) (veiled hid 0 ps)) own)
          ∙ ap (λ os. then (unbare st v.tape f.child (down f.child) os) (λ _. bare_left f.more (map rest b.kids.items))) (sym (veiled-map first hid 0 b.kids.items))
          ∙ ap (λ os. then (unbare st v.tape f.child (down f.child) (map (via first) V)) (λ _. bare st v.tape f.more (below_of T v.in_force) os)) (sym (veiled-map rest hid 0 b.kids.items))
          ∙ ap (λ cs. bare_left cs b.kids.items) (sym f.are)
          ∙ b.outcome

      step : got tt ≡ unbare st v.tape f.child forced (veiled hid 0 qs) → Between stride others after
      unfolding left-kids
      step e = record { kids = left-kids v stride mine coming b.kids x after f qs others split short; short = b.short; outcome = told (got tt) e }

    last : coming ≡ [] → got tt ≡ bare_left (children_of T) all
    last e = ap (λ cs. bare_left cs b.kids.items) (sym (no_kids v stride mine coming b.kids e)) ∙ b.outcome

abbrev pub Inside : Seen → (stride : ℕ) → (mine coming : List ℕ) → Type 0
Inside v stride mine coming = (root : Node) (size : ℕ) (T : Node) → HeldHere v T → Between v root size T stride mine coming

module _ {v : Seen} {stride : ℕ} {whole : List ℕ} (pre : Lying v stride whole) where
  abbrev T₀ : Node
  T₀ = pre.formed.0

  abbrev h₀ : HeldHere v T₀
  h₀ = pre.formed.1

  pub begun : (coming : List ℕ) → ((T : Node) → HeldHere v T → coming ≡ numbers (children_of T)) → Inside v stride whole coming
  begun coming are = λ root size T h.
      let a = pre.all root size T h in
      record {
        kids =
            record {
              here = v.node + 1;
              others = children_of T;
              items = items_in (setup_in v root size) v.tape T v.in_force v.positions;
              placed = held_children h;
              numbered = are T h;
              size = a.size;
              parts = a.parts;
            };
        short = a.stride_is;
        outcome = refl;
      }

  module _ (mine coming : List ℕ) (b : Inside v stride mine coming) where
    module _ {x : ℕ} {after : List ℕ} (is : coming ≡ x ∷ after) where
      first_at : (root : Node) (size : ℕ) (T : Node) (h : HeldHere v T) → First v stride (b root size T h).kids.others (b root size T h).kids.here x after
      first_at root size T h = first-kid v stride mine coming (b root size T h).kids is

      pub child_is : (c : Node) × Held v.records v.names x c
      child_is = let f = first_at T₀ 0 T₀ h₀ in (f.child, f.there)

      pub child_enough : stride ≤ length mine
      child_enough = enough v stride mine coming (b T₀ 0 T₀ h₀).kids x after (first_at T₀ 0 T₀ h₀)

      module _ (qs others : List ℕ) (halves : mine ≡ qs ++ others) (short : length qs ≡ stride) where
        pub slots_had : (T : Node) × HeldHere v T × ((i : ℕ) → i < length qs → has_slot T (length v.positions) i)
        slots_had =
            let a = pre.all T₀ 0 T₀ h₀ in
            let e = a.accepted in
            (T₀, h₀, λ i l. leaving_slots (setup_in v T₀ 0) v.tape v.in_force v.positions e.1 e.2 e.3 e.0 T₀ (sym e.4) i (omega (arith, short, a.stride_is)))

        module _ (forced : Bool) (is-forced : (T : Node) → HeldHere v T → (c : Node) → Held v.records v.names x c → forced ≡ (below_of T v.in_force || (field_of c).nullable)) where
          -- what is said of the child
          abbrev pub Told : Got (Unit {0}) → Type 0
          Told a = (root : Node) (size : ℕ) (T c : Node) → HeldHere v T → Held v.records v.names x c → a ≡ unbare (setup_in v root size) v.tape c forced (veiled (hidden_at v.settings v.tape T v.positions) 0 qs)

          pub one_more : Told (got tt) → Inside v stride others after
          one_more a = λ root size T h.
              let f = first_at root size T h in
              step v root size T stride mine coming (b root size T h) x after f qs others forced halves short (is-forced T h f.child f.there) (a root size T f.child h f.there)

          pub not_one : (z y : Fault) (r : Result (Unit {0}) Fault) → r ≡ Err z → z ≡ y → Told (refuse (slip_of y)) → Leaves v r
          not_one z y r is' z-is a = λ root size T h.
              let f = first_at root size T h in
              let e = (pre.all root size T h).accepted in
              ap answer_of (is' ∙ ap Err z-is)
              ∙ told v root size T stride mine coming (b root size T h) x after f qs others forced halves short (is-forced T h f.child f.there) (refuse (slip_of y)) (a root size T f.child h f.there)
              ∙ leaving-veiled (setup_in v root size) v.tape v.in_force v.positions e.1 e.2 e.3 e.0 T (sym e.4)

    pub none_left : coming ≡ [] → OfTree v (λ st T. got tt ≡ leaving st v.tape T v.in_force v.positions)
    none_left none = λ root size T h.
        let e = (pre.all root size T h).accepted in
        last v root size T stride mine coming (b root size T h) none
        ∙ leaving-veiled (setup_in v root size) v.tape v.in_force v.positions e.1 e.2 e.3 e.0 T (sym e.4)
