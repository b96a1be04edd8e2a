use Rattle.std.proofs.Common.{◌<◌, arith}
use Rattle.std.proofs.lemmas.List.Elements.{All-from_get_or, recursion_from_All}
use Rattle.leaf.specs.Bytes.{AreBytes}
use Rattle.leaf.proofs.laws.write_bytes.Goals as goal

pub returns : goal.returns
returns g c =
    let bytes : AreBytes c.write.new.out = recursion_from_All (λ b. b < 256) c.write.new.out (All-from_get_or (λ b. b < 256) c.write.new.out 0 (λ i h. omega (arith, c.type_inv.out i))) in
    grind (arith, c.write.ensures, bytes)
