use Rattle.octets.proofs.read_back.Goals as goal
use Rattle.octets.proofs.Packs.{number_in_lem, bit_in, spare_bits}
use Rattle.octets.proofs.Bitmaps.{bit-set}

pub returns : goal.returns
returns c = record { numbers = number_in_lem; bits = bit_in; spare = spare_bits; sets = bit-set }
