-- Shelve, whatever the page holds.
use Rattle.std.proofs.Common.{◌≡◌, ℕ, ◌+◌, ◌-◌, ◌^◌, ◌<◌, ◌≤◌, false, List, [], ◌∷◌, ◌++◌, length, Ok, Err, arith}
use borrow.Rule.Slice.PartMut.{put_mid}
use Rattle.slip.specs.declared.Fault.{Fault}
use Rattle.slip.specs.Slips.{got}
use Rattle.schema.specs.Tree.{Node}
use Rattle.schema.specs.declared.Schema.{Schema}
use Rattle.schema.specs.declared.settings.Settings.{Settings}
use Rattle.schema.specs.Opened.{TreeOf}
use Rattle.leaf.specs.Meaning.{Meaning}
use Rattle.tape.specs.View.{TapeView}
use Rattle.laws.specs.Shelf.{Held, bad_position, is_full}
use Rattle.laws.specs.Calls.{Shelve, after}
use Rattle.nodes.specs.Contract.{setup_of}
use Rattle.shelf.specs.Standing.{start_in, Holds, Standing, Writes}
use Rattle.shelf.proofs.Adding.{free_part, Writable, writable, another, size_fits, adds_none, adds}

module _ {s : Settings} {m : Meaning} {schema : Schema} {bytes ends : List ℕ} {lent from : ℕ} (t : TapeView) (ps : List ℕ) (x : Standing s m schema bytes ends) (fine : bad_position t 0 ps ≡ got tt)
    (room : (root : Node) (size : ℕ) (held : Held (setup_of s m root size)) → Holds (setup_of s m root size) schema bytes ends held → is_full (setup_of s m root size) held (length ps) lent ≡ false)
    (from_is : from ≡ start_in ends (length ends)) where
  pub may_write : Writable schema (length ps) lent (free_part bytes from)
  may_write = writable x.3 t ps lent fine (room x.0 x.1 x.2 x.3) from from_is

  pub holds_after_none : {to : List ℕ} {f : Fault} → ((root : Node) (size : ℕ) → TreeOf schema root → Writes (setup_of s m root size) t ps lent (free_part bytes from) to (Err f))
      → Holds (setup_of s m x.0 x.1) schema (put_mid from (length bytes - from) bytes to) ends (after (setup_of s m x.0 x.1) x.2 (Shelve t ps lent))
  holds_after_none {to} {f} w = (adds_none x.3 t ps lent fine (room x.0 x.1 x.2 x.3) from from_is to f (w x.0 x.1 x.3.tree)).holds

  module _ {to : List ℕ} {size : ℕ} (w : (root : Node) (n : ℕ) → TreeOf schema root → Writes (setup_of s m root n) t ps lent (free_part bytes from) to (Ok size)) (long : length to ≡ length (free_part bytes from)) where
    pub end_small : (from + size ≤ 2 ^ 24) × (length ends < 64)
    end_small =
        let space = room x.0 x.1 x.2 x.3 in
        (omega (arith, x.3.small, size_fits x.3 t ps lent fine space from from_is to size (w x.0 x.1 x.3.tree) long), omega (arith, x.3.many, another x.3 t ps lent fine space))

    pub holds_after : Holds (setup_of s m x.0 x.1) schema (put_mid from (length bytes - from) bytes to) (ends ++ (from + size) ∷ []) (after (setup_of s m x.0 x.1) x.2 (Shelve t ps lent))
    holds_after = (adds x.3 t ps lent fine (room x.0 x.1 x.2 x.3) from from_is to size (w x.0 x.1 x.3.tree) long).holds
