-- What the writer promises.
use Rattle.std.specs.Prelude.{◌≡◌, ℕ, ◌+◌, ◌-◌, ◌^◌, ◌≤◌, min, List, length}
use Rattle.octets.specs.Lists.{splice}
use Rattle.explain.specs.declared.writer.Writer.{Writer}

-- the greatest number that a count of bytes can reach
abbrev pub most : ℕ
most = 2 ^ 64 - 1

-- the numbers of a writer are those of a machine
pub record Sized (w : Writer) : Type 0 where
  pub count : w.len ≤ most
  pub room : length w.area.now ≤ most

-- Bytes are put behind those that were. What has no room is counted all the same.
pub record Puts (bytes : List ℕ) (w v : Writer) : Type 0 where
  pub lent : v.area.ghost_name ≡ w.area.ghost_name
  pub kept : length v.area.now ≡ length w.area.now
  pub counted : Sized w → v.len ≡ min (w.len + length bytes) most
  pub placed : Sized w → w.len + length bytes ≤ length w.area.now → v.area.now ≡ splice w.area.now w.len bytes

-- The bytes are put at the front of an area, and counted.
pub record PutsAll (bytes before after : List ℕ) (size : ℕ) : Type 0 where
  pub counted : size ≡ min (length bytes) most
  pub placed : length bytes ≤ length before → after ≡ splice before 0 bytes
