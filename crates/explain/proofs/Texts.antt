-- A fault that fits, and the sentence of it.
use Rattle.std.proofs.Common.{◌≡◌, ℕ, ◌<◌, Bool, true, ◌&&◌, List, length, sym, ap, ◌∙◌, subst, arith}
use Rattle.std.proofs.lemmas.Bool.{and_parts}
use Rattle.std.proofs.lemmas.Bool.Decides.{nat_tests}
use Rattle.slip.specs.declared.Fault.{Fault}
use Rattle.tape.specs.View.{TapeView}
use Rattle.schema.specs.declared.settings.Settings.{Settings}
use Rattle.schema.specs.declared.kind.Kind.{Kind}
use Rattle.schema.specs.Held.{Held}
use Rattle.schema.specs.Opens.{Opens}
use Rattle.schema.specs.Tree.{Node, kind_of, nodes, node_at}
use Rattle.schema.proofs.Nodes.{held_at}
use Rattle.explain.specs.Explanation.{there, of_kind, fits, sentence}

module _ {rs ns : List ℕ} {root : Node} (t : TapeView) (r : Opens rs ns root) (node p : ℕ) where
  there_within : there root t node p ≡ true → node < length (nodes root)
  there_within h = grind (arith, nat_tests)

  -- the record of a node tells of it
  pub held_there : true ≡ there root t node p → Held rs ns node (node_at root node)
  held_there h = let w = there_within (sym h) in held_at r node (omega (arith, r.all))

  pub held_kind : (is : Kind → Bool) → true ≡ of_kind root t is node p → Held rs ns node (node_at root node)
  held_kind is h = held_there (sym (and_parts (there root t node p) _ (sym h)).0)

  -- and its kind decides
  pub kind_there : {k : Kind} {b : Bool} (is : Kind → Bool) → true ≡ there root t node p → ((u : Node) → Held rs ns node u → k ≡ kind_of u) → b ≡ is k → b ≡ of_kind root t is node p
  kind_there is h f e = e ∙ ap is (f (node_at root node) (held_there h)) ∙ ap (λ b. b && is (kind_of (node_at root node))) h

pub alike : (f : ℕ → ℕ → List ℕ) {a b c d : ℕ} → a ≡ b → c ≡ d → f a c ≡ f b d
alike f {a} {b} {c} {d} e h = ap (λ x. f x c) e ∙ ap (f b) h

pub both : {a b : Bool} → true ≡ a → true ≡ b → (a && b) ≡ true
both h k = rw (← h, ← k)

-- what a fault is told by
pub told_by : (root : Node) (t : TapeView) (s : Settings) (own : List ℕ) {text : List ℕ} (f g : Fault) → f ≡ g → fits root t g ≡ true → text ≡ sentence root t s own g
    → (fits root t f ≡ true) × (text ≡ sentence root t s own f)
told_by root t s own {text} f g e h i = subst (λ x. (fits root t x ≡ true) × (text ≡ sentence root t s own x)) (sym e) (h, i)
